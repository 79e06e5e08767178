-- `make_share` meets its contract: it writes with the keys of its controller, and the branch decides whether the share
-- was written.
use native.Mathlib.Omega.{arith}
use Rattle.rehearsal.proofs.Making.{share-refused, share-made}
use Rattle.rehearsal.proofs.steps.make_share.Goals as goal

pub returns-then-written-ne-DONE : goal.returns-then-written-ne-DONE
returns-then-written-ne-DONE c = let a = c.args in
    share-refused a.c a.controller a.switch c.controller_keys-keys.ensures c.write_share-written.ensures
    c.if-written-ne-DONE.true

pub returns : goal.returns
returns c = let a = c.args in
    share-made a.c a.controller a.switch c.controller_keys-keys.ensures c.write_share-written.ensures
    (omega arith)
