-- What the code of pat finds of a track. Assumes nothing.
use Rattle.std.specs.Prelude.{ℕ, ◌+◌, ◌*◌, ◌≤◌, List, ◌≡◌, length, Result, MatchResult}
use Rattle.util.specs.declared.refusal.Refusal.{Refusal}
use Rattle.util.specs.RefusalCode.{number_of}
use Rattle.util.specs.Reader.{answered, denied, told}
use Rattle.pattern.specs.PatternCode.{keys_at}
use Rattle.nitro.specs.Container.{pat}
use Rattle.pattern.specs.declared.ItemList.{ItemList}
use Rattle.calls.specs.Calls.{PatternQuery, chosen, keys, chosen_of, of_pattern, on, answer}

-- where the keys of track t of entry i stand: the calls on it are answered from them
pub record KeysAt (s : List ℕ) (i t : ℕ) (l : ItemList) : Type 0 where
  pub inside : l.place + 4 * l.count ≤ length s
  pub listed : told (answer (on pat i (of_pattern t keys)) s) ≡ answered (record { place = l.place; length = l.count })
  pub choices : (frame : ℕ) → told (answer (on pat i (of_pattern t (chosen frame))) s) ≡ chosen_of (keys_at s l) frame

abbrev pub KeysAre : List ℕ → ℕ → ℕ → Result ItemList Refusal → Type 0
KeysAre s i t x = MatchResult x (KeysAt s i t) (λ e. (q : PatternQuery) → told (answer (on pat i (of_pattern t q)) s) ≡ denied (number_of e))
