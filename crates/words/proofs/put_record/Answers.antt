use mathlib.Core.Path.{refl}
use mathlib.Core.List.{[], ◌∷◌}
use native.Mathlib.Omega.{arith}
use Rattle.words.proofs.WordsLaws.{name_words_lem}
use Rattle.words.proofs.put_record.Goals as goal

-- `words::put_record` meets its contract. Assumes nothing.
pub returns-in-Ok : goal.returns-in-Ok
returns-in-Ok c = let e = c.in-Ok.e in rw c.in-Ok.is (record { number = refl; array = name_words_lem e.name (omega arith) (omega arith) c.args.out.now (e.reach ∷ e.frames ∷ e.count ∷ []) })
