-- Small sections, and what the calls answer on them. Assumes nothing.
use Rattle.std.specs.Prelude.{ℕ, zero, suc, ◌+◌, ◌*◌, true, false, List, [], ◌∷◌, ◌++◌, ◌≡◌, refl, pos, negsuc, take, replicate, Float}
use Rattle.std.proofs.Math.Option.{none, some}
use Rattle.std.specs.Float.{fin}
use Rattle.std.specs.Float.Ieee.{neg}
use Rattle.util.specs.View.{little_bytes}
use Rattle.util.specs.Reader.{Outcome, accepted, refused, Verdict, answered, denied}
use Rattle.matrix.specs.Matrix.{f0, f1, col4}
use Rattle.curve.specs.Curve.{Pair, always, listed}
use Rattle.animation.specs.Animation.{translation, scale}
use Rattle.nitro.specs.Container.{jnt, srt, pat, stamp_of, EntryRecord}
use Rattle.gltf.specs.Curve.{no_span, span}
use Rattle.calls.specs.Calls.{check, find, on, of_object, pose, clip, matrix, matrix_bytes, curve, scale_value, rotation_curve, resampled, of_pattern, chosen, of_material, channel_curve, answer}
use Rattle.calls.specs.Kinds.{section_kind}
use Rattle.calls.specs.Material.{Material, no_shift, joined, material}
use Rattle.calls.specs.Evaluate.{evaluate}
use Rattle.calls.specs.Pinned.{walk, walk_name}

-- ---- how the sections are put together

abbrev u8 : ℕ → List ℕ
u8 x = x ∷ []

abbrev u16 : ℕ → List ℕ
u16 x = little_bytes 2 x

abbrev u32 : ℕ → List ℕ
u32 x = little_bytes 4 x

abbrev zeros : ℕ → List ℕ
zeros n = replicate n 0

-- an info block of n datums
abbrev block : ℕ → ℕ → List ℕ → List ℕ → List ℕ
block n size datums names = u8 0 ++ u8 n ++ zeros 10 ++ zeros (4 * n) ++ u16 size ++ u16 0 ++ datums ++ names

-- ---- 1. Entries may stand anywhere, also inside the section's own info block

-- two entries: the first stands in the names, from 40 to 60, and its bytes are its own name; the second points past the end
abbrev nested : List ℕ
nested = stamp_of jnt ++ u32 0 ++ block 2 4 (u32 40 ++ u32 1000) ((0x4A ∷ 0x00 ∷ 0x41 ∷ 0x43 ∷ []) ++ u16 7 ++ zeros 26)

-- its parts end at 60, and the info block at 72: the reach is 72. The refused neighbour changes nothing.
pub inside_the_block :
    (answer (check 0) nested ≡ accepted 72 (record { name = 0x4A ∷ 0x00 ∷ 0x41 ∷ 0x43 ∷ 7 ∷ zeros 11; frames = 7; count = 0; samples = 0 }))
    × (answer (check 1) nested ≡ refused 2)
    × (answer (check 2) nested ≡ refused 9)
unfolding evaluate
inside_the_block = (refl, refl, refl)

-- the kind is told by the first four bytes, whatever follows them
pub its_kind : (section_kind (take 4 nested) ≡ accepted 4 jnt) × (section_kind (take 3 nested) ≡ refused 2) × (section_kind (0x54 ∷ 0x45 ∷ 0x58 ∷ 0x30 ∷ []) ≡ refused 1)
unfolding evaluate section_kind
its_kind = (refl, refl, refl)

-- ---- 2. Tests come at their place among the parts

-- one object at 22, animated: the curve word of its x axis has start 3 and end 3, and nothing follows
abbrev backwards : List ℕ
backwards =
    stamp_of jnt ++ u32 0 ++ block 1 4 (u32 48) (zeros 16)
    ++ (0x4A ∷ 0x00 ∷ 0x41 ∷ 0x43 ∷ []) ++ u16 5 ++ u16 1 ++ zeros 12 ++ u16 22
    ++ u16 0 ++ u16 0 ++ u32 (3 + 3 * 0x1_0000)

-- the test comes before the offset is read; and only once the word is whole
pub word_before_offset : (answer (check 0) backwards ≡ refused 7) × (answer (check 0) (take 77 backwards) ≡ refused 2)
unfolding evaluate
word_before_offset = (refl, refl)

-- ---- 3. An SRT0 entry of one track, whose u channel is a list of no frames at an offset; 132 bytes

-- channels 0, 1, 2 are never followed, whatever their flags; channel 4 has other flags than 16
abbrev pub scroll : ℕ → List ℕ
scroll off =
    stamp_of srt ++ u32 0 ++ block 1 4 (u32 48) (zeros 16)
    ++ zeros 4 ++ u16 0 ++ u16 0
    ++ block 1 40 (u16 9 ++ u8 0 ++ u8 16 ++ u32 5000 ++ zeros 16 ++ u16 0 ++ u8 0 ++ u8 16 ++ u32 off ++ u16 9 ++ u8 0 ++ u8 17 ++ u32 5000) (zeros 16)

abbrev pub scroll_record : EntryRecord
scroll_record = record { name = zeros 16; frames = 0; count = 1; samples = 0 }

-- the place counts from the section's start; a call that takes another stamp is refused before anything else is looked at
pub its_channel :
    (answer (on srt 0 (of_material 0 (channel_curve 3))) (scroll 84) ≡ accepted 132 (listed (record { start = 0; end = 0; place = 132; size = 2; rate = 0; rest = 0 }) 0))
    × (answer (on srt 0 (of_material 0 (channel_curve 5))) (scroll 84) ≡ refused 9)
    × (answer (on jnt 0 (of_object 0 (resampled translation [] 0))) (take 4 (scroll 84)) ≡ refused 1)
unfolding evaluate
its_channel = (refl, refl, refl)

-- ---- 4. A PAT0 entry of two tracks: one key, and none

-- 1 texture name and 2 palette names, both lists at 88 of the entry
abbrev blink : ℕ → ℕ → List ℕ
blink texture palette =
    stamp_of pat ++ u32 0 ++ block 1 4 (u32 48) (zeros 16)
    ++ zeros 4 ++ u16 10 ++ u8 1 ++ u8 2 ++ u16 88 ++ u16 88
    ++ block 2 8 (u32 1 ++ u16 0 ++ u16 84 ++ u32 0 ++ u16 0 ++ u16 84) (zeros 32)
    ++ u16 3 ++ u8 texture ++ u8 palette ++ zeros 32

-- .. for examples elsewhere
abbrev pub blinking : ℕ → ℕ → List ℕ
blinking = blink

-- palette 1 is one of two palettes; texture 1 is none of one texture
pub own_lists : (answer (on pat 0 (of_pattern 0 (chosen 0))) (blink 0 1) ≡ accepted 168 (record { texture = 0; palette = 1 })) × (answer (check 0) (blink 1 0) ≡ refused 8)
unfolding evaluate
own_lists = (refl, refl)

-- a track with no keys is whole, and has nothing to choose from
pub no_keys : answer (on pat 0 (of_pattern 1 (chosen 0))) (blink 0 1) ≡ refused 10
unfolding evaluate
no_keys = refl

-- ---- 5. The 86 bytes resampled: the constants 1, -1 and 1/2, one frame, from place 1 on; all other elements stay

abbrev five_zeros : List Float
five_zeros = replicate 5 f0

pub one_frame :
    (answer (on jnt 0 (of_object 0 (resampled translation five_zeros 1))) walk ≡ accepted 86 (record { over = span 0 1; frames = 1; slice = f0 ∷ f1 ∷ neg f1 ∷ fin false 1 (negsuc 0) ∷ f0 ∷ [] }))
    × (answer (on jnt 0 (of_object 0 (resampled translation five_zeros 3))) walk ≡ refused 11)
unfolding evaluate
one_frame = (refl, refl)

-- three missing curves: none, zero frames, and the place is tested all the same
pub nothing_to_scale :
    (answer (on jnt 0 (of_object 0 (resampled scale five_zeros 5))) walk ≡ accepted 86 (record { over = no_span; frames = 0; slice = five_zeros }))
    × (answer (on jnt 0 (of_object 0 (resampled scale five_zeros 6))) walk ≡ refused 11)
unfolding evaluate
nothing_to_scale = (refl, refl)

-- ---- 6. A list without values: start 3, end 4, rate 1, at the end of the section; rotation and scale are left out, y and z constant

abbrev still : List ℕ
still =
    stamp_of jnt ++ u32 0 ++ block 1 4 (u32 48) (zeros 16)
    ++ (0x4A ∷ 0x00 ∷ 0x41 ∷ 0x43 ∷ []) ++ u16 5 ++ u16 1 ++ zeros 12 ++ u16 22
    ++ u16 0x270 ++ u16 0 ++ u32 (3 + 4 * 0x1_0000 + 0x4000_0000) ++ u32 42 ++ u32 0x1000 ++ u32 0x2000

-- the entry is whole, and there is nothing to resample: 10 comes before 11
pub nothing_to_sample :
    (answer (on jnt 0 (of_object 0 (curve translation 0))) still ≡ accepted 90 (listed (record { start = 3; end = 4; place = 90; size = 4; rate = 1; rest = 1 }) 0))
    × (answer (on jnt 0 (of_object 0 (resampled translation [] 1))) still ≡ refused 10)
    × (answer (on jnt 1 (of_object 0 (resampled translation [] 1))) still ≡ refused 9)
unfolding evaluate
nothing_to_sample = (refl, refl, refl)

-- ---- 7. Samples

-- one object whose x and z share a list of two values; y is constant, rotation and scale are left out
abbrev shared : List ℕ
shared =
    stamp_of jnt ++ u32 0 ++ block 1 4 (u32 48) (zeros 16)
    ++ (0x4A ∷ 0x00 ∷ 0x41 ∷ 0x43 ∷ []) ++ u16 5 ++ u16 1 ++ zeros 12 ++ u16 22
    ++ u16 0x250 ++ u16 0 ++ u32 (2 * 0x1_0000) ++ u32 46 ++ u32 0x1000 ++ u32 (2 * 0x1_0000) ++ u32 46
    ++ zeros 8

-- the keys of both tracks; a list counts each time, a constant never
pub its_samples :
    (answer (check 0) (blink 0 1) ≡ accepted 168 (record { name = zeros 16; frames = 10; count = 2; samples = 1 }))
    × (answer (check 0) shared ≡ accepted 102 (record { name = zeros 16; frames = 5; count = 1; samples = 4 }))
unfolding evaluate
its_samples = (refl, refl)

-- ---- 8. The matrix of the 86 bytes: the identity, with the translation in its fourth column

pub its_matrix :
    (answer (on jnt 0 (of_object 0 (matrix 5))) walk
    ≡ accepted 86 (record { c0 = col4 f1 f0 f0 f0; c1 = col4 f0 f1 f0 f0; c2 = col4 f0 f0 f1 f0; c3 = col4 f1 (neg f1) (fin false 1 (negsuc 0)) f1 }))
    × (answer (on jnt 0 (of_object 1 (matrix 5))) walk ≡ refused 9)
    × (answer (on jnt 0 (of_object 0 (matrix_bytes 5 (zeros 127)))) walk ≡ refused 11)
unfolding evaluate
its_matrix = (refl, refl, refl)

-- ---- 9. A name ends before its first zero byte, or has all sixteen

-- walk, and what makes it walking
abbrev walk_bytes : List ℕ
walk_bytes = take 4 walk_name

abbrev ing_bytes : List ℕ
ing_bytes = 0x69 ∷ 0x6E ∷ 0x67 ∷ []

-- five entries, of which finding reads no more than their names: walk with leftovers, walking, an empty name with leftovers, sixteen bytes, fifteen
abbrev leftover : List ℕ
leftover =
    stamp_of jnt ++ u32 0
    ++ block 5 4 (zeros 20) (walk_bytes ++ u8 0 ++ ing_bytes ++ zeros 8 ++ walk_bytes ++ ing_bytes ++ zeros 9 ++ u8 0 ++ walk_bytes ++ zeros 11 ++ replicate 16 0x61 ++ replicate 15 0x61 ++ u8 0)

-- what is looked for ends before its first zero too: wal, a zero and k is wal
pub by_fronts :
    (answer (find walk_name) leftover ≡ accepted 144 (some 0))
    × (answer (find (walk_bytes ++ ing_bytes ++ u8 0 ++ replicate 8 0xFF)) leftover ≡ accepted 144 (some 1))
    × (answer (find (take 3 walk_bytes ++ u8 0 ++ u8 0x6B ++ zeros 11)) leftover ≡ accepted 144 none)
    × (answer (find (zeros 16)) leftover ≡ accepted 144 (some 2))
    × (answer (find (replicate 16 0x61)) leftover ≡ accepted 144 (some 3))
    × (answer (find (replicate 15 0x61 ++ u8 0)) leftover ≡ accepted 144 (some 4))
unfolding evaluate
by_fronts = (refl, refl, refl, refl, refl, refl)

-- ---- 10. The earliest of equal names

abbrev turn_bytes : List ℕ
turn_bytes = 0x74 ∷ 0x75 ∷ 0x72 ∷ 0x6E ∷ []

-- five entries, none of which stands at its offset, 0: turn with leftovers, walk with leftovers, walk and zeros, turn and zeros, walking
abbrev old_and_new : List ℕ
old_and_new =
    stamp_of jnt ++ u32 0
    ++ block 5 4 (zeros 20) (turn_bytes ++ u8 0 ++ replicate 11 0xFF ++ walk_bytes ++ u8 0 ++ ing_bytes ++ zeros 8 ++ walk_name ++ turn_bytes ++ zeros 12 ++ walk_bytes ++ ing_bytes ++ zeros 9)

-- the first goes first, though one further on has the same sixteen bytes; refused entries count; the last is found where it alone is so named
pub the_earliest :
    (answer (find walk_name) old_and_new ≡ accepted 144 (some 1))
    × (answer (find (turn_bytes ++ zeros 12)) old_and_new ≡ accepted 144 (some 0))
    × (answer (find (walk_bytes ++ ing_bytes ++ zeros 9)) old_and_new ≡ accepted 144 (some 4))
    × (answer (check 1) old_and_new ≡ refused 5)
unfolding evaluate
the_earliest = (refl, refl, refl, refl)

-- ---- 11. A scale: on x the constant 3/2 with -2 behind it, on y two pairs of 1.3.12, on z one of 1.19.12; translation and rotation are left out

-- z's list has one frame; `rate` stands for bits 30 and 31 of its curve word: at half the rate it has no values
abbrev grow : ℕ → List ℕ
grow rate =
    stamp_of jnt ++ u32 0 ++ block 1 4 (u32 48) (zeros 16)
    ++ (0x4A ∷ 0x00 ∷ 0x41 ∷ 0x43 ∷ []) ++ u16 2 ++ u16 1 ++ zeros 12 ++ u16 22
    ++ u16 0x842 ++ u16 0 ++ u32 0x1800 ++ u32 0xFFFF_E000 ++ u32 (2 * 0x1_0000 + 0x1000_0000) ++ u32 50 ++ u32 (0x1_0000 + rate) ++ u32 58
    ++ u16 0x1000 ++ u16 0xFC00 ++ u16 0x2000 ++ u16 0x800 ++ u32 0x6_4000 ++ u32 0xFFFF_F800

abbrev scale_of : (axis index : ℕ) → List ℕ → Outcome Pair
scale_of axis index s = answer (on jnt 0 (of_object 0 (scale_value axis index))) s

-- both numbers in their format, and 9 from the first index on that is past the values; a constant has one value
pub its_pairs :
    (scale_of 0 0 (grow 0) ≡ accepted 114 (record { first = fin false 3 (negsuc 0); second = fin true 1 (pos 1) }))
    × (scale_of 0 1 (grow 0) ≡ refused 9)
    × (scale_of 1 0 (grow 0) ≡ accepted 114 (record { first = f1; second = fin true 1 (negsuc 1) }))
    × (scale_of 1 1 (grow 0) ≡ accepted 114 (record { first = fin false 1 (pos 1); second = fin false 1 (negsuc 0) }))
    × (scale_of 1 2 (grow 0) ≡ refused 9)
    × (scale_of 2 0 (grow 0) ≡ accepted 114 (record { first = fin false 25 (pos 2); second = fin true 1 (negsuc 0) }))
    × (scale_of 3 0 (grow 0) ≡ refused 9)
unfolding evaluate
its_pairs = (refl, refl, refl, refl, refl, refl, refl)

-- a list without values and a missing curve have none
pub no_pairs : (scale_of 2 0 (grow 0x4000_0000) ≡ refused 9) × (scale_of 0 0 walk ≡ refused 9)
unfolding evaluate
no_pairs = (refl, refl)

-- the record of the constant has both numbers; what is sampled is the first
pub first_sampled :
    (answer (on jnt 0 (of_object 0 (curve scale 0))) (grow 0) ≡ accepted 114 (always (record { first = fin false 3 (negsuc 0); second = fin true 1 (pos 1) })))
    × (answer (on jnt 0 (of_object 0 (matrix 1))) (grow 0)
    ≡ accepted 114 (record { c0 = col4 (fin false 3 (negsuc 0)) f0 f0 f0; c1 = col4 f0 (fin false 1 (pos 1)) f0 f0; c2 = col4 f0 f0 (fin false 25 (pos 2)) f0; c3 = col4 f0 f0 f0 f1 }))
unfolding evaluate
first_sampled = (refl, refl)

-- ---- 12. A crowd: at most 999 objects

abbrev repeated : ℕ → List ℕ → List ℕ
repeated zero bs = []
repeated (suc n) bs = bs ++ repeated n bs

-- n objects, all at 8 of the entry: the word there, which the header has no use for, makes one that nothing animates
abbrev pub crowd : ℕ → List ℕ
crowd n =
    stamp_of jnt ++ u32 0 ++ block 1 4 (u32 48) (zeros 16)
    ++ (0x4A ∷ 0x00 ∷ 0x41 ∷ 0x43 ∷ []) ++ u16 1 ++ u16 n ++ u32 1 ++ zeros 8 ++ repeated n (u16 8)

abbrev crowd_record : ℕ → EntryRecord
crowd_record n = record { name = zeros 16; frames = 1; count = n; samples = 0 }

pub its_objects :
    (answer (check 0) (crowd 99) ≡ accepted 266 (crowd_record 99))
    × (answer (check 0) (crowd 100) ≡ accepted 268 (crowd_record 100))
    × (answer (check 0) (crowd 240) ≡ accepted 548 (crowd_record 240))
    × (answer (check 0) (crowd 999) ≡ accepted 2066 (crowd_record 999))
    × (answer (check 0) (crowd 1000) ≡ refused 12)
unfolding evaluate
its_objects = (refl, refl, refl, refl, refl)

-- the last object's matrix, the identity; none after it; 12 for this call too
pub last_of_a_crowd :
    (answer (on jnt 0 (of_object 239 (matrix 5))) (crowd 240) ≡ accepted 548 (record { c0 = col4 f1 f0 f0 f0; c1 = col4 f0 f1 f0 f0; c2 = col4 f0 f0 f1 f0; c3 = col4 f0 f0 f0 f1 }))
    × (answer (on jnt 0 (of_object 240 (matrix 5))) (crowd 240) ≡ refused 9)
    × (answer (on jnt 0 (of_object 0 (matrix 5))) (crowd 1000) ≡ refused 12)
unfolding evaluate
last_of_a_crowd = (refl, refl, refl)

-- 12 comes after the offsets: with a byte of them missing the front is too short
pub offsets_first : answer (check 0) (take 2067 (crowd 1000)) ≡ refused 2
unfolding evaluate
offsets_first = refl

-- ---- 13. The frames that a rate leaves over: three lists of eleven frames

-- at rate 1 on the translation's x, at rate 2 in the rotation, at rate 3 on the scale's x; both references lead to the pivot data at 88
abbrev eleven : List ℕ
eleven =
    stamp_of jnt ++ u32 0 ++ block 1 4 (u32 48) (zeros 16)
    ++ (0x4A ∷ 0x00 ∷ 0x41 ∷ 0x43 ∷ []) ++ u16 12 ++ u16 1 ++ zeros 4 ++ u32 88 ++ u32 0 ++ u16 22
    ++ u16 0x3030 ++ u16 0 ++ u32 (11 * 0x1_0000 + 0x6000_0000) ++ u32 74 ++ zeros 8
    ++ u32 (1 + 12 * 0x1_0000 + 0x8000_0000) ++ u32 84 ++ u32 (11 * 0x1_0000 + 0xC000_0000) ++ u32 94 ++ zeros 16
    ++ zeros 10 ++ u16 0x8000 ++ u16 0x8000 ++ zeros 6 ++ zeros 8

-- an SRT0 track whose u channel is a list of three frames
abbrev three : List ℕ
three =
    stamp_of srt ++ u32 0 ++ block 1 4 (u32 48) (zeros 16)
    ++ zeros 4 ++ u16 3 ++ u16 0
    ++ block 1 40 (zeros 24 ++ u16 3 ++ u8 0 ++ u8 16 ++ u32 84 ++ zeros 8) (zeros 16) ++ zeros 6

-- five values and one frame, two and three, one and three; the widths, 2 on the translation's x and else 0, tell nothing of it, nor do SRT0's flags
pub its_rests :
    (answer (on jnt 0 (of_object 0 (curve translation 0))) eleven ≡ accepted 150 (listed (record { start = 0; end = 11; place = 122; size = 2; rate = 1; rest = 1 }) 5))
    × (answer (on jnt 0 (of_object 0 rotation_curve)) eleven ≡ accepted 150 (listed (record { start = 1; end = 12; place = 132; size = 2; rate = 2; rest = 3 }) 2))
    × (answer (on jnt 0 (of_object 0 (curve scale 0))) eleven ≡ accepted 150 (listed (record { start = 0; end = 11; place = 142; size = 8; rate = 3; rest = 3 }) 1))
    × (answer (on srt 0 (of_material 0 (channel_curve 3))) three ≡ accepted 138 (listed (record { start = 0; end = 3; place = 132; size = 2; rate = 0; rest = 0 }) 3))
unfolding evaluate
its_rests = (refl, refl, refl, refl)

-- ---- 14. One answer per material

-- a name of three letters, with a zero and these bytes behind it
abbrev named : List ℕ → ℕ → List ℕ
named letters leftovers = letters ++ u8 0 ++ replicate 12 leftovers

abbrev sea : List ℕ
sea = 0x73 ∷ 0x65 ∷ 0x61 ∷ []

abbrev sky : List ℕ
sky = 0x73 ∷ 0x6B ∷ 0x79 ∷ []

abbrev sun : List ℕ
sun = 0x73 ∷ 0x75 ∷ 0x6E ∷ []

abbrev fog : List ℕ
fog = 0x66 ∷ 0x6F ∷ 0x67 ∷ []

abbrev ice : List ℕ
ice = 0x69 ∷ 0x63 ∷ 0x65 ∷ []

-- a track whose u and v are lists of one frame, at these offsets
abbrev moving : ℕ → ℕ → List ℕ
moving u v = zeros 24 ++ u16 1 ++ u8 0 ++ u8 16 ++ u32 u ++ u16 1 ++ u8 0 ++ u8 16 ++ u32 v

-- sea with leftovers is shifted by 1 and -2, sky and ice are not shifted, and a later sea is shifted by -2 and 1; 316 bytes
abbrev drift : List ℕ
drift =
    stamp_of srt ++ u32 0 ++ block 1 4 (u32 48) (zeros 16)
    ++ zeros 4 ++ u16 1 ++ u16 0
    ++ block 4 40 (moving 264 266 ++ zeros 40 ++ moving 266 264 ++ zeros 40) (named sea 0xFF ++ named sky 0 ++ named sea 0 ++ named ice 0)
    ++ u16 32 ++ u16 0xFFC0

-- sky has no keys, sea with leftovers palette 1, a later sea and sun palette 0; 228 bytes
abbrev flip : List ℕ
flip =
    stamp_of pat ++ u32 0 ++ block 1 4 (u32 48) (zeros 16)
    ++ zeros 4 ++ u16 10 ++ u8 1 ++ u8 2 ++ u16 148 ++ u16 148
    ++ block 4 8 (u32 0 ++ u16 0 ++ u16 140 ++ u32 1 ++ u16 0 ++ u16 140 ++ u32 1 ++ u16 0 ++ u16 144 ++ u32 1 ++ u16 0 ++ u16 144) (named sky 0 ++ named sea 0xEE ++ named sea 0 ++ named sun 0)
    ++ u16 3 ++ u8 0 ++ u8 1 ++ u16 3 ++ u8 0 ++ u8 0 ++ zeros 32

abbrev of : List ℕ → Verdict Material
of name = material 0 0 (named name 0) 5 drift flip

-- the earliest track on each side, though a later one has all sixteen bytes of the name; a track without lists is a track; 10 before a default
pub its_materials :
    (of sea ≡ answered (record { shift = record { u = f1; v = fin true 1 (pos 1) }; choice = some (record { texture = 0; palette = 1 }) }))
    × (of ice ≡ answered (record { shift = no_shift; choice = none }))
    × (of sun ≡ answered (record { shift = no_shift; choice = some (record { texture = 0; palette = 0 }) }))
    × (of sky ≡ denied 10)
    × (of fog ≡ denied 14)
unfolding evaluate material joined
its_materials = (refl, refl, refl, refl, refl)

-- the SRT0 section's refusals first, then the PAT0 section's, and then the name's; exchanged sections are of another stamp
pub each_in_turn :
    (material 0 0 (named fog 0) 5 flip drift ≡ denied 1)
    × (material 4 0 (named fog 0) 5 drift [] ≡ denied 9)
    × (material 0 4 (named fog 0) 5 (take 315 drift) flip ≡ denied 2)
    × (material 0 4 (named fog 0) 5 drift flip ≡ denied 9)
    × (material 0 0 (named fog 0) 5 drift (take 227 flip) ≡ denied 2)
    × (material 0 0 (named fog 0) 5 (drift ++ u8 7) (flip ++ u8 7) ≡ denied 14)
unfolding evaluate material joined
each_in_turn = (refl, refl, refl, refl, refl, refl)

-- ---- 15. Poses and clips

-- two objects: one that nothing animates, and one that is at 0 and then at 1 on its x axis; 104 bytes
abbrev pair : List ℕ
pair =
    stamp_of jnt ++ u32 0 ++ block 1 4 (u32 48) (zeros 16)
    ++ (0x4A ∷ 0x00 ∷ 0x41 ∷ 0x43 ∷ []) ++ u16 5 ++ u16 2 ++ zeros 12 ++ u16 24 ++ u16 28
    ++ u16 1 ++ u16 0
    ++ u16 0x270 ++ u16 0 ++ u32 (2 * 0x1_0000) ++ u32 48 ++ zeros 8
    ++ u32 0 ++ u32 0x1000

-- the sixteen floats of an object that is moved by x
abbrev moved : Float → List Float
moved x = f1 ∷ f0 ∷ f0 ∷ f0 ∷ f0 ∷ f1 ∷ f0 ∷ f0 ∷ f0 ∷ f0 ∷ f1 ∷ f0 ∷ x ∷ f0 ∷ f0 ∷ f1 ∷ []

-- both objects at frame 1, and the last float as it was; a float less is too small
pub its_pose :
    (answer (on jnt 0 (pose 1 (replicate 33 (neg f1)))) pair ≡ accepted 104 (record { objects = 2; slice = moved f0 ++ moved f1 ++ neg f1 ∷ [] }))
    × (answer (on jnt 0 (pose 1 (replicate 31 f0))) pair ≡ refused 11)
unfolding evaluate
its_pose = (refl, refl)

-- frame by frame, and in each frame object by object; no frames write nothing; 9 past the last frame comes before 11
pub its_clip :
    (answer (on jnt 0 (clip 0 2 (replicate 64 (neg f1)))) pair ≡ accepted 104 (record { objects = 2; slice = moved f0 ++ moved f0 ++ moved f0 ++ moved f1 }))
    × (answer (on jnt 0 (clip 0 2 (replicate 63 f0))) pair ≡ refused 11)
    × (answer (on jnt 0 (clip 65535 0 (f1 ∷ []))) pair ≡ accepted 104 (record { objects = 2; slice = f1 ∷ [] }))
    × (answer (on jnt 0 (clip 65535 2 [])) pair ≡ refused 9)
    × (answer (on jnt 1 (clip 65535 2 [])) pair ≡ refused 9)
    × (answer (on jnt 0 (clip 65535 2 [])) (take 103 pair) ≡ refused 2)
unfolding evaluate
its_clip = (refl, refl, refl, refl, refl, refl)
