use mathlib.Core.Path.{sym, ap, ◌∙◌}
use native.Mathlib.Omega.{arith}
use Rattle.util.specs.Reader.{answered, told}
use Rattle.util.proofs.TryLaws.{passed_on}
use Rattle.nitro.specs.ContainerCode.{kind_means}
use Rattle.nitro.proofs.ContainerLaws.{stamp_of_lem}
use Rattle.calls.specs.AnswersCode.{found_means}
use Rattle.calls.proofs.CallsLaws.{find_unstamped, find_headless, find_earliest}
use Rattle.motion.proofs.find.Goals as goal

-- `motion::find` meets its contract. Assumes nothing.
pub read_section-requires : goal.read_section-requires
read_section-requires c = (stamp_of_lem c.args.s.now 4 (kind_means c.in_ok-read_stamp.field-0) c.in_ok-read_stamp.ensures).0

pub find_name-requires : goal.find_name-requires
find_name-requires c = let w = c.in_ok-b.ensures.holds in omega arith

pub returns-in_err-read_stamp : goal.returns-in_err-read_stamp
returns-in_err-read_stamp c =
    let a = c.args in
    ap found_means (passed_on _ _ c.from_residual.ensures.1) ∙ sym (ap told (find_unstamped a.s.now a.name.now _ c.in_err-read_stamp.ensures))

pub returns-in_err-b : goal.returns-in_err-b
returns-in_err-b c =
    let a = c.args in
    ap found_means (passed_on _ _ c.from_residual-in_err-b.ensures.1)
    ∙ sym (ap told (find_headless a.s.now a.name.now (kind_means c.in_ok-read_stamp.field-0) c.in_ok-read_stamp.ensures _ c.in_err-b.ensures.reads))

pub returns : goal.returns
returns c =
    let a = c.args in
    ap answered c.find_name.ensures
    ∙ sym (ap told (find_earliest a.s.now a.name.now (kind_means c.in_ok-read_stamp.field-0) c.in_ok-read_stamp.ensures _ _ c.in_ok-b.ensures.reads))
