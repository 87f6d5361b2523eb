-- Text that code has written into a lent array. Assumes nothing.
use Rattle.std.specs.Prelude.{ℕ, ◌+◌, ◌-◌, List, length, take}
use Rattle.std.proofs.lemmas.List.Edits.{sets}
use Rattle.text.specs.declared.Text.{Text}
use Rattle.text.specs.Writes.{room}

-- what there is room for
abbrev pub kept : Text → List ℕ → List ℕ
kept t bytes = take (room - t.len) bytes

-- a text in the same array, with more bytes behind those that were written; the rest of the array is as it was
unfoldable pub pushed : Text → List ℕ → Text
pushed t bytes =
    let more = kept t bytes in
    record {
      out = record { ref_ptr = t.out.ref_ptr; ghost_name = t.out.ghost_name; now = sets t.out.now t.len more };
      len = t.len + length more;
    }
