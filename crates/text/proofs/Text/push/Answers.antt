use Prim.Native.Nat.{ℕ, ◌-◌}
use mathlib.Core.Path.{◌≡◌, refl, sym, ap, ◌∙◌}
use lib.ListN.{take}
use Rattle.std.proofs.lemmas.List.{take_min}
use Rattle.text.specs.Writes.{room}
use Rattle.text.specs.WritesCode.{kept, pushed}
use Rattle.text.proofs.WritesLaws.{no_room}
use Rattle.text.proofs.Text.push.Goals as goal

pub returns-then-at-lt-ROOM : goal.returns-then-at-lt-ROOM
unfolding pushed
returns-then-at-lt-ROOM c =
    let t = c.args.self.now in
    let bytes = c.args.bytes.now in
    let k : take c.min-n.result bytes ≡ kept t bytes = ap (λ (n : ℕ). take n bytes) c.min-n.ensures ∙ take_min (room - t.len) bytes in
    let e = c.put_bytes-self.ensures in
    rw (e.0, e.1, k) refl

pub returns-else-at-lt-ROOM : goal.returns-else-at-lt-ROOM
returns-else-at-lt-ROOM c = sym (no_room c.args.self.now c.args.bytes.now c.if-at-lt-ROOM.false)
