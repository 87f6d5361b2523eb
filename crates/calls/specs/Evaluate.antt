-- Nothing new: an example that says `unfolding evaluate` has `answer` computed, with every reader that it is made of. Assumes nothing.
use Rattle.std.specs.Prelude.{List, ℕ}
use Rattle.std.specs.Float.Ieee.{round, neg, add, sub, mul, div, of_int, to_bits}
use Rattle.util.specs.View.{little, little_bytes, view, same}
use Rattle.util.specs.Reader.{Outcome, ends, run, bind, each, unless}
use Rattle.util.specs.Place.{within}
use Rattle.util.specs.Sums.{total}
use Rattle.util.specs.Fixed.{fixed, ratio}
use Rattle.info_block.specs.Name.{front_of, same_bytes, equal, earliest}
use Rattle.info_block.specs.InfoBlock.{info_block}
use Rattle.matrix.specs.Matrix.{product, trs, bytes_of}
use Rattle.rotation.specs.Rotation.{placed, turned, pivot_mat, basis_mat}
use Rattle.curve.specs.Curve.{floor, ceil, index, mix, mix_mat, between, sample_list, sample_at, recorded}
use Rattle.animation.specs.Animation.{curve_word, list_fields, scalar_list, scalar, axes, animated_axes, pivot_of, basis_of, referred, reference, rotation_list, rotation, animated_rotation, animated, object, animation, axes_at, matrix_at}
use Rattle.material_animation.specs.MaterialAnimation.{channel_list, channel, material_animation, shift_at, shift_of, uv_matrix_at}
use Rattle.pattern.specs.Pattern.{inside, track, pattern, first_later, choice, keys_of}
use Rattle.nitro.specs.Container.{kind_of, stamped, section, entry_in, entry, entry_of}
use Rattle.gltf.specs.Curve.{domain, is_empty, union, frames_from, frames_of, axes_domain, any_empty, sample_axes, resample_vec3, resample}
use Rattle.pose.specs.Pose.{pose_at, poses_from, pose_into, clip_into}
use Rattle.calls.specs.Calls.{Call, Answer, chosen_of, ask_object, ask_material, ask_pattern, ask, reader, answer}

unfoldable pub evaluate : (c : Call) → List ℕ → Outcome (Answer c)
unfolding round neg add sub mul div of_int to_bits little little_bytes view same ends run bind each unless within total fixed ratio front_of same_bytes equal earliest info_block product trs placed turned pivot_mat basis_mat floor ceil index mix mix_mat between sample_list sample_at recorded curve_word list_fields scalar_list scalar axes animated_axes pivot_of basis_of referred reference rotation_list rotation animated_rotation animated object animation axes_at matrix_at channel_list channel material_animation shift_at shift_of uv_matrix_at inside track pattern first_later choice keys_of kind_of stamped section entry_in entry domain is_empty union frames_from frames_of axes_domain any_empty sample_axes resample_vec3 bytes_of resample pose_at poses_from pose_into clip_into chosen_of ask_object ask_material ask_pattern ask entry_of reader answer
evaluate c s = answer c s
