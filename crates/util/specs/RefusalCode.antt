-- Document 01's number of each refusal. Assumes nothing.
use Rattle.std.specs.Prelude.{ℕ}
use Rattle.util.specs.declared.refusal.Refusal.{Refusal}
use Rattle.util.specs.declared.refusal.Refusal.TheVariants.{WrongStamp, TooShort, BlockStart, DatumSize, AnimationStamp, NoFrames, ListFrames, KeyIndex, NoSuchIndex, EmptyList, SmallSlice, ManyObjects, LongSection, NoSuchTrack, ManyItems, FarPlace, NothingPicked}

abbrev pub number_of : Refusal → ℕ
number_of WrongStamp = 1
number_of TooShort = 2
number_of BlockStart = 3
number_of DatumSize = 4
number_of AnimationStamp = 5
number_of NoFrames = 6
number_of ListFrames = 7
number_of KeyIndex = 8
number_of NoSuchIndex = 9
number_of EmptyList = 10
number_of SmallSlice = 11
number_of ManyObjects = 12
number_of LongSection = 13
number_of NoSuchTrack = 14
number_of ManyItems = 15
number_of FarPlace = 16
number_of NothingPicked = 17
