use mathlib.Core.Path.{refl}
use mathlib.Core.List.{[]}
use native.Mathlib.Omega.{arith}
use Rattle.words.proofs.WordsLaws.{name_words_lem}
use Rattle.words.proofs.put_name.Goals as goal

-- `words::put_name` meets its contract. Assumes nothing.
pub returns-in-Ok : goal.returns-in-Ok
returns-in-Ok c = let n = c.in-Ok.name in rw c.in-Ok.is (record { number = refl; array = name_words_lem n (omega arith) (omega arith) c.args.out.now [] })
