-- What the program motion-list prints. Assumes nothing.
use Rattle.std.specs.Prelude.{ℕ, suc, ◌≤◌, cond, List, [], ◌∷◌, ◌++◌, ◌≡◌, refl, ltb, length, take, replicate}
use Prim.Native.String.{String}
use Rattle.util.specs.Reader.{Reader, done, bind, Outcome, accepted, refused, run}
use Rattle.util.specs.Sums.{sum_to}
use Rattle.info_block.specs.InfoBlock.{Block}
use Rattle.info_block.specs.Name.{Name}
use Rattle.nitro.specs.Container.{Kind, jnt, srt, pat, stamp_of, all_kinds, stamped, section, EntryRecord}
use Rattle.calls.specs.Calls.{check, answer}
use Rattle.calls.specs.Samples.{adds}
use Rattle.calls.specs.Evaluate.{evaluate}
use Rattle.calls.specs.Pinned.{walk}
use Rattle.calls.specs.Examples.{crowd}
use Rattle.text.specs.Writes.{room}
use Rattle.text.specs.Text.{ascii, digits, places, decimal, numeral, hex, line}

abbrev pub stamp_text : Kind → String
stamp_text jnt = "JNT0"
stamp_text srt = "SRT0"
stamp_text pat = "PAT0"

-- objects are told in three digits, which hold the greatest count that is accepted
abbrev pub object_digits : ℕ → List ℕ
object_digits n = digits 3 n

-- tracks unpadded
abbrev pub count_line : Kind → ℕ → List ℕ
count_line jnt n = line "objects" (object_digits n)
count_line srt n = line "tracks" (decimal n)
count_line pat n = line "tracks" (decimal n)

-- of an accepted entry
abbrev pub record_lines : Kind → ℕ → ℕ → ℕ → List ℕ
record_lines k reach frames count = line "answer" (decimal 0) ++ line "reach" (decimal reach) ++ line "frames" (decimal frames) ++ count_line k count

-- after its answer, a refused entry has nothing further
unfoldable pub outcome_lines : Kind → Outcome EntryRecord → List ℕ
outcome_lines k (accepted reach e) = record_lines k reach e.frames e.count
outcome_lines k (refused n) = line "answer" (decimal n)

unfoldable pub entry_lines : Kind → List ℕ → ℕ → Name → List ℕ
entry_lines k s i name = line "entry" (decimal i) ++ line "name" (hex name) ++ outcome_lines k (answer (check i) s)

-- the entries from index i on
unfoldable pub entries_from : Kind → List ℕ → ℕ → List Name → List ℕ
entries_from k s i [] = []
entries_from k s i (name ∷ names) = entry_lines k s i name ++ entries_from k s (suc i) names

-- ---- the totals, after the last entry

abbrev pub total_lines : ℕ → ℕ → ℕ → List ℕ
total_lines whole damaged samples = line "accepted" (decimal whole) ++ line "refused" (decimal damaged) ++ line "samples" (decimal samples)

-- what a check adds to the refused
abbrev pub refusals : Outcome EntryRecord → ℕ
refusals (accepted m e) = 0
refusals (refused n) = 1

-- of the n entries of a section: how many are accepted, how many are refused, and the samples of the accepted ones
module _ (s : List ℕ) where
  abbrev pub accepted_in : ℕ → ℕ
  accepted_in n = sum_to n (λ i. adds (λ _. 1) (answer (check i) s))

  abbrev pub refused_in : ℕ → ℕ
  refused_in n = sum_to n (λ i. refusals (answer (check i) s))

  abbrev pub samples_in : ℕ → ℕ
  samples_in n = sum_to n (λ i. adds (λ e. e.samples) (answer (check i) s))

-- ---- the listing

-- the section by itself: its kind and its info block
pub record Header : Type 0 where
  pub kind : Kind
  pub block : Block

unfoldable pub header : Reader Header
header = bind (stamped all_kinds) (λ k. bind section (λ b. done (record { kind = k; block = b })))

-- the lines above the totals
unfoldable pub entry_listing : List ℕ → Header → List ℕ
entry_listing s h = line "section" (ascii (stamp_text h.kind)) ++ line "entries" (decimal h.block.count) ++ entries_from h.kind s 0 h.block.names

-- a refused section has its answer alone
unfoldable pub section_lines : List ℕ → Outcome Header → List ℕ
section_lines s (accepted m h) = let n = h.block.count in entry_listing s h ++ total_lines (accepted_in s n) (refused_in s n) (samples_in s n)
section_lines s (refused n) = line "answer" (decimal n)

-- what stands below the first line. Over 65,536 bytes are refused first of all, 13
unfoldable pub body : List ℕ → List ℕ
body s = cond (ltb 65536 (length s)) (line "answer" (decimal 13)) (section_lines s (run header s 0))

-- the first line of every listing, whatever stands below it. Listings of an earlier form have no such line, and two digits for the objects.
abbrev pub form_line : List ℕ
form_line = line "listing" (decimal 2)

unfoldable pub listing : List ℕ → List ℕ
listing s = form_line ++ body s

-- no listing is longer than the array that it is written into. Proved in proofs/Fits.antt.
abbrev pub Fits : List ℕ → Type 0
Fits s = length (listing s) ≤ room

-- no digit of a count is lost: what stands after objects= tells the objects of every accepted entry. Proved in proofs/ObjectsTold.antt.
abbrev pub ObjectsTold : List ℕ → Type 0
ObjectsTold s = (i m : ℕ) (e : EntryRecord) → answer (check i) s ≡ accepted m e → numeral (object_digits e.count) ≡ e.count

-- ---- the printed example, and others

pub printed :
    listing walk
    ≡ ascii "listing=2\nsection=JNT0\nentries=1\nentry=0\nname=77616c6b000000000000000000000000\nanswer=0\nreach=86\nframes=12\nobjects=001\naccepted=1\nrefused=0\nsamples=0\n"
unfolding evaluate digits places hex outcome_lines entry_lines entries_from sum_to header entry_listing section_lines body listing
printed = refl

-- the same without its last byte; a section of no entries; one that is refused
pub few_lines :
    (listing (take 85 walk) ≡ ascii "listing=2\nsection=JNT0\nentries=1\nentry=0\nname=77616c6b000000000000000000000000\nanswer=2\naccepted=0\nrefused=1\nsamples=0\n")
    × (listing (stamp_of jnt ++ replicate 16 0 ++ (4 ∷ 0 ∷ 0 ∷ 0 ∷ [])) ≡ ascii "listing=2\nsection=JNT0\nentries=0\naccepted=0\nrefused=0\nsamples=0\n")
    × (listing (take 47 walk) ≡ ascii "listing=2\nanswer=2\n")
unfolding evaluate digits places hex outcome_lines entry_lines entries_from sum_to header entry_listing section_lines body listing
few_lines = (refl, refl, refl)

-- of 99 objects, of 240, of 1,000
pub crowd_lines :
    (outcome_lines jnt (answer (check 0) (crowd 99)) ≡ ascii "answer=0\nreach=266\nframes=1\nobjects=099\n")
    × (outcome_lines jnt (answer (check 0) (crowd 240)) ≡ ascii "answer=0\nreach=548\nframes=1\nobjects=240\n")
    × (outcome_lines jnt (answer (check 0) (crowd 1000)) ≡ ascii "answer=12\n")
unfolding evaluate digits places outcome_lines
crowd_lines = (refl, refl, refl)
