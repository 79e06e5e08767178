-- `longest` meets its contract. The loop's invariant: the entry held gives what the entries so far give. Assumes nothing.
use Rattle.std.proofs.Common.{rules, ◌≡◌, ◌∙◌, sym, ap, true, false, arith}
use Rattle.std.proofs.lemmas.Grind.{common_steps}
use Rattle.std.proofs.lemmas.List.{reverse-reverse}
use Rattle.std.proofs.lemmas.Iterator.Adapters.{YieldsList-from_rev_slice}
use Rattle.std.proofs.lemmas.Iterator.Consumers.{YieldsList-end}
use Rattle.flow.specs.Lookups.{Best, best_of}
use Rattle.flow.proofs.Bests.{held, beats, taken, left, passed, turned}
use Rattle.flow.proofs.lookups.longest.Goals as goal
use Rattle.flow.proofs.lookups.longest.Goals.{else-covers-via-then-covers+else-is_none_or, else-covers-via-else-covers}

pub loop-entry-init : goal.loop-entry-init
unfolding best_of
loop-entry-init c = search rules

pub loop-entry-preserved-then-is_none_or : goal.loop-entry-preserved-then-is_none_or
loop-entry-preserved-then-is_none_or c =
    let at = c.loop-entry in
    let l : beats c.in-Some.entry.now at.best ≡ true = grind (arith, common_steps) in
    rw (turned at.yielded c.in-Some.entry)
    (taken c.args.address _ _ at.best at.invariant (sym c.covers.ensures ∙ c.if-covers.true) l)

pub loop-entry-preserved : goal.loop-entry-preserved
loop-entry-preserved c =
    let at = c.loop-entry in
    elim c.else-covers.branch [
      | else-covers-via-then-covers+else-is_none_or w ↦
          let l : beats c.in-Some.entry.now at.best ≡ false = grind (arith, common_steps) in
          rw (turned at.yielded c.in-Some.entry)
          (left c.args.address _ _ at.best at.invariant (sym c.covers.ensures ∙ w.if-covers.true) l)
      | else-covers-via-else-covers w ↦
          rw (turned at.yielded c.in-Some.entry)
          (passed c.args.address _ _ at.best at.invariant (sym c.covers.ensures ∙ w.if-covers.false))
    ]

pub returns : goal.returns
returns c =
    let es = c.args.entries.now in
    let all = YieldsList-end (YieldsList-from_rev_slice es (cc)) c.loop-entry.yielded c.loop-entry.entry-iterator
    c.loop-entry.yielded_by _ _ c.in-None.is c.next.ensures.steps in
    let best : best_of c.args.address es ≡ held c.loop-entry.best = rw (all.0, reverse-reverse es) at c.loop-entry.invariant in
    let found : c.map.result ≡ (held c.loop-entry.best).0 = grind (arith, common_steps) in
    found ∙ sym (ap (λ (b : Best). b.0) best)
