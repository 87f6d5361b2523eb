-- Document 01's pinned examples, P1 to P9. Assumes nothing.
use Rattle.std.specs.Prelude.{ℕ, List, [], ◌∷◌, ◌≡◌, refl, pos, negsuc, length, take, Float}
use Rattle.std.specs.Float.Ieee.{round, neg, sub, mul}
use Rattle.util.specs.Reader.{accepted, refused}
use Rattle.util.specs.Fixed.{fix1_19_12, fix1_3_12, fix1_10_5, fixed, ratio, Exactly}
use Rattle.matrix.specs.Matrix.{f0, f1, col3}
use Rattle.rotation.specs.Rotation.{pivot_mat, basis_mat}
use Rattle.curve.specs.Curve.{Curve, samples}
use Rattle.pattern.specs.Pattern.{Key, first_later, choice}
use Rattle.gltf.specs.Curve.{over, domain, frames_from, frames_of}
use Rattle.calls.specs.Calls.{check, answer}
use Rattle.calls.specs.Evaluate.{evaluate}

-- the 86 bytes that motion-list is shown with
abbrev pub walk : List ℕ
walk =
    0x4A ∷ 0x4E ∷ 0x54 ∷ 0x30 ∷ 0x56 ∷ 0x00 ∷ 0x00 ∷ 0x00
    ∷ 0x00 ∷ 0x01 ∷ 0x00 ∷ 0x00 ∷ 0x00 ∷ 0x00 ∷ 0x00 ∷ 0x00 ∷ 0x00 ∷ 0x00 ∷ 0x00 ∷ 0x00 ∷ 0x00 ∷ 0x00 ∷ 0x00 ∷ 0x00
    ∷ 0x04 ∷ 0x00 ∷ 0x00 ∷ 0x00 ∷ 0x30 ∷ 0x00 ∷ 0x00 ∷ 0x00
    ∷ 0x77 ∷ 0x61 ∷ 0x6C ∷ 0x6B ∷ 0x00 ∷ 0x00 ∷ 0x00 ∷ 0x00 ∷ 0x00 ∷ 0x00 ∷ 0x00 ∷ 0x00 ∷ 0x00 ∷ 0x00 ∷ 0x00 ∷ 0x00
    ∷ 0x4A ∷ 0x00 ∷ 0x41 ∷ 0x43 ∷ 0x0C ∷ 0x00 ∷ 0x01 ∷ 0x00 ∷ 0x00 ∷ 0x00 ∷ 0x00 ∷ 0x00
    ∷ 0x00 ∷ 0x00 ∷ 0x00 ∷ 0x00 ∷ 0x00 ∷ 0x00 ∷ 0x00 ∷ 0x00 ∷ 0x16 ∷ 0x00
    ∷ 0x78 ∷ 0x02 ∷ 0x00 ∷ 0x00 ∷ 0x00 ∷ 0x10 ∷ 0x00 ∷ 0x00 ∷ 0x00 ∷ 0xF0 ∷ 0xFF ∷ 0xFF ∷ 0x00 ∷ 0x08 ∷ 0x00 ∷ 0x00
    ∷ []

abbrev pub walk_name : List ℕ
walk_name = 0x77 ∷ 0x61 ∷ 0x6C ∷ 0x6B ∷ 0 ∷ 0 ∷ 0 ∷ 0 ∷ 0 ∷ 0 ∷ 0 ∷ 0 ∷ 0 ∷ 0 ∷ 0 ∷ 0 ∷ []

-- keys at frames 5, 2, 9, told apart by their textures
abbrev key : ℕ → ℕ → Key
key frame texture = record { frame = frame; texture = texture; palette = 0 }

abbrev pub unsorted : List Key
unsorted = key 5 0 ∷ key 2 1 ∷ key 9 2 ∷ []

-- which key is chosen at a frame
abbrev pub key_at : ℕ → ℕ
key_at frame = (choice unsorted (key 0 0) frame).texture

-- start 0, end 11, five values: rate 1 leaves one frame over
abbrev pub five_values : Curve Float
five_values = samples (record { start = 0; end = 11; place = 0; size = 4; rate = 1; rest = 1 }) (f0 ∷ f0 ∷ f0 ∷ f0 ∷ f0 ∷ [])

-- negsuc n is -(n + 1)
pub record Pinned : Type 0 where
  pub P1 : Exactly (fixed fix1_19_12 0x8000_0000) (negsuc 524287) 1 × Exactly (fixed fix1_19_12 0xFFFF_FFFF) (negsuc 0) 4096
  pub P2 : Exactly (fixed fix1_3_12 0x8000) (negsuc 7) 1 × Exactly (fixed fix1_3_12 0x7FFF) (pos 32767) 4096
  pub P3 : Exactly (fixed fix1_10_5 0xFFFF) (negsuc 0) 32
  pub P4 : (neg₀ : ℕ) (b : Float) → pivot_mat 9 neg₀ f1 b ≡ record { c0 = col3 (neg f1) f0 f0; c1 = col3 f0 f0 f0; c2 = col3 f0 f0 f0 }
  pub P5 : Exactly (basis_mat 0x7FF8 0 0 0 0x7FF8).c2.z (pos 16769025) 16777216
  pub P6 : Exactly (basis_mat 0 0 0 0 7).c1.z (negsuc 0) 1 × ((basis_mat 0 0 0 0 6).c1.z ≡ f0)
  pub P7 : (domain five_values ≡ over 0 11 2) × (length (frames_of (domain five_values)) ≡ 6)
  pub P8 : (key_at 0 ≡ 0) × (key_at 2 ≡ 0) × (key_at 5 ≡ 1) × (key_at 9 ≡ 2)
  pub P9 : (answer (check 0) walk ≡ accepted 86 (record { name = walk_name; frames = 12; count = 1; samples = 0 })) × (answer (check 0) (take 85 walk) ≡ refused 2)

pub pinned : Pinned
unfolding fixed ratio round neg pivot_mat basis_mat sub mul domain frames_of frames_from choice first_later evaluate
pinned =
    record {
      P1 = ((refl, refl), (refl, refl));
      P2 = ((refl, refl), (refl, refl));
      P3 = (refl, refl);
      P4 = λ neg₀ b. refl;
      P5 = (refl, refl);
      P6 = ((refl, refl), refl);
      P7 = (refl, refl);
      P8 = (refl, refl, refl, refl);
      P9 = (refl, refl);
    }
