-- The section: its stamp, its info block and its entries. Assumes nothing.
use Rattle.std.specs.Prelude.{ℕ, cond, List, [], ◌∷◌, ltb, length, get_or}
use Rattle.util.specs.View.{little, same}
use Rattle.util.specs.Sums.{total}
use Rattle.util.specs.Reader.{Reader, done, part, bind, ◌>>=◌, ◌>>◌, word, unless, Verdict, answered, denied, tell}
use Rattle.util.specs.Place.{within}
use Rattle.info_block.specs.Name.{Name}
use Rattle.info_block.specs.InfoBlock.{Block, info_block}
use Rattle.animation.specs.Animation.{Animation, object_samples, animation}
use Rattle.material_animation.specs.MaterialAnimation.{MaterialAnimation, track_samples, material_animation}
use Rattle.pattern.specs.Pattern.{Pattern, key_count, pattern}

-- the three kinds of section
pub data Kind : Type 0 where
  jnt srt pat : Kind

abbrev pub stamp_of : Kind → List ℕ
stamp_of jnt = 0x4A ∷ 0x4E ∷ 0x54 ∷ 0x30 ∷ []
stamp_of srt = 0x53 ∷ 0x52 ∷ 0x54 ∷ 0x30 ∷ []
stamp_of pat = 0x50 ∷ 0x41 ∷ 0x54 ∷ 0x30 ∷ []

abbrev pub all_kinds : List Kind
all_kinds = jnt ∷ srt ∷ pat ∷ []

-- which of the kinds that a call takes has this stamp; 1 if none has
unfoldable pub kind_of : List Kind → List ℕ → Verdict Kind
kind_of [] stamp = denied 1
kind_of (k ∷ ks) stamp = cond (same 4 stamp (stamp_of k)) (answered k) (kind_of ks stamp)

-- the first four bytes, tested before more is read
unfoldable pub stamped : List Kind → Reader Kind
stamped takes = part 0 4 (λ bs. tell (kind_of takes bs))

-- the rest of the section's header: the size, which is never used, and the info block, whose datums are entry offsets
unfoldable pub section : Reader Block
section = do
  word 4 4
  info_block 8 4

-- what an entry of each kind holds
abbrev pub Value : Kind → Type 0
Value jnt = Animation
Value srt = MaterialAnimation
Value pat = Pattern

abbrev pub value : (k : Kind) → Reader (Value k)
value jnt = animation
value srt = material_animation
value pat = pattern

-- an entry: its name, its offset in the section, and what it holds, in positions that count from the offset
pub record Entry (k : Kind) : Type 0 where
  pub name : Name
  pub offset : ℕ
  pub held : Value k

-- entry i of an info block: the index is tested, then the entry is read in the section from its offset onward
unfoldable pub entry_in : (k : Kind) → ℕ → Block → Reader (Entry k)
entry_in k i block = do
  unless (ltb i block.count) 9
  v ← within (little (get_or block.datums i [])) (value k)
  done (record { name = get_or block.names i []; offset = little (get_or block.datums i []); held = v })

-- entry i, after the stamp
unfoldable pub entry : (k : Kind) → ℕ → Reader (Entry k)
entry k i = bind section (entry_in k i)

-- entry i of a section of the kind k
unfoldable pub entry_of : (k : Kind) → ℕ → Reader (Entry k)
entry_of k i = bind (stamped (k ∷ [])) (λ _. entry k i)

-- ---- the record of an entry

-- the record that the entry check answers, beside the reach: how many objects or tracks the entry has is its count, how long all its lists
-- are together its samples
pub record EntryRecord : Type 0 where
  pub name : Name
  pub frames : ℕ
  pub count : ℕ
  pub samples : ℕ

abbrev pub frame_count : (k : Kind) → Value k → ℕ
frame_count jnt v = v.frames
frame_count srt v = v.frames
frame_count pat v = v.frames

abbrev pub count_of : (k : Kind) → Value k → ℕ
count_of jnt v = length v.objects
count_of srt v = length v.tracks
count_of pat v = length v.tracks

-- The lengths of all its lists, added up: those of each object's seven curves, of each track's channels, of each track's keys. A list that
-- is shared counts each time; constants, missing curves and lists of names count nothing.
abbrev pub samples_of : (k : Kind) → Value k → ℕ
samples_of jnt v = total object_samples v.objects
samples_of srt v = total track_samples v.tracks
samples_of pat v = total key_count v.tracks

abbrev pub record_of : (k : Kind) → Entry k → EntryRecord
record_of k e = record { name = e.name; frames = frame_count k e.held; count = count_of k e.held; samples = samples_of k e.held }
