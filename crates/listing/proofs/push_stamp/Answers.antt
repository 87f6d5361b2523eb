use mathlib.Core.Path.{refl}
use Rattle.listing.proofs.push_stamp.Goals as goal

pub returns-in-Jnt : goal.returns-in-Jnt
returns-in-Jnt c = rw (c.push.ensures, c.in-Jnt.is) refl

pub returns-in-Srt : goal.returns-in-Srt
returns-in-Srt c = rw (c.push-in-Srt.ensures, c.in-Srt.is) refl

pub returns-in-Pat : goal.returns-in-Pat
returns-in-Pat c = rw (c.push-in-Pat.ensures, c.in-Pat.is) refl
