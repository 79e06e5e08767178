-- The change at place i is taken in its turn.
use mathlib.Core.Path.{sym, ◌∙◌}
use lib.ListN.{set, get_or}
use Rattle.checker.specs.Layout.{no_change}
use Rattle.checker.proofs.Finding.{ports_begin, ports_unmarked, ports_elsewhere, ports-put, ports_past}
use Rattle.checker.proofs.ways.ports_of.Goals.{then-marks-i+then-is_at+then-change-le32, else-marks-i, else-marks-i-via-then-marks-i+then-is_at+else-change-le32, else-marks-i-via-then-marks-i+else-is_at, else-marks-i-via-else-marks-i}
use Rattle.checker.proofs.ways.ports_of.Goals as goal

pub loop-i-init : goal.loop-i-init
loop-i-init c = let a = c.args in ports_begin a.changes.now a.marks.now a.switch a.address

pub loop-i-preserved : goal.loop-i-preserved
loop-i-preserved c = let a = c.args in
    let i = c.loop-i.i in
    let change = get_or a.changes.now i no_change in
    let same = c.loop-i.invariant in
    elim c.if-marks-i.branch [
      | then-marks-i+then-is_at+then-change-le32 w ↦ w.ports-is
          ∙ (λ k. set (same k) change.length change.port)
          ∙ ports-put a.changes.now a.marks.now a.switch a.address i w.if-marks-i.true (sym w.is_at.ensures ∙ w.if-is_at.true)
      | else-marks-i w ↦ w.ports-is ∙ same ∙ elim w.else-marks-i.branch [
        | else-marks-i-via-then-marks-i+then-is_at+else-change-le32 v ↦ ports_past a.changes.now a.marks.now a.switch a.address i
            v.if-marks-i.true (sym v.is_at.ensures ∙ v.if-is_at.true) v.if-change-le32.false
        | else-marks-i-via-then-marks-i+else-is_at v ↦ ports_elsewhere a.changes.now a.marks.now a.switch a.address i
            v.if-marks-i.true (sym v.is_at.ensures ∙ v.if-is_at.false)
        | else-marks-i-via-else-marks-i v ↦ ports_unmarked a.changes.now a.marks.now a.switch a.address i v.if-marks-i.false
      ]
    ]
