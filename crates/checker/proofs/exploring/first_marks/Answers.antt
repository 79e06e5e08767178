-- The first marks, and none past them.
use Rattle.checker.proofs.Replying.{marks_kept}
use Rattle.checker.proofs.exploring.first_marks.Goals as goal

pub returns : goal.returns
returns c = let a = c.args in
    marks_kept a.marks.now c.copy_from_slice.new.self a.count c.requires c.told-marks c.copy_from_slice.ensures.after
