-- The differences of the bytes that were looked at are gathered.
use Rattle.std.proofs.Common.{◌≡◌, get_or, length, sym, rules}
use Rattle.std.proofs.lemmas.List.{length_push}
use Rattle.std.proofs.lemmas.Slice.Zip.{zip_turn}
use Rattle.tag.proofs.Tags.{equal-length}
use Rattle.tag.proofs.Compared.{same_none, same_step}
use Rattle.tag.proofs.mac.same.Goals as goal

pub returns-then-a-b : goal.returns-then-a-b
returns-then-a-b c = sym (equal-length c.args.a.now c.args.b.now c.if-a-b.true)

pub loop-x-init : goal.loop-x-init
loop-x-init c = same_none c.args.a.now c.args.b.now

pub loop-x-preserved : goal.loop-x-preserved
loop-x-preserved c = let a = c.args.a.now in
    let b = c.args.b.now in
    let loop = c.loop-x in
    let i = length loop.yielded in
    let turn = zip_turn a b loop.yielded c.into_iter-x-iterator.result loop.x-iterator c.next.new.self c.next.result
    (search rules) (search rules) loop.yielded_by (c.in-Some.x, c.in-Some.y) c.in-Some.is c.next.ensures.steps in
    let at_a : c.in-Some.x.now ≡ get_or a i 0 = turn.2 0 in
    let at_b : c.in-Some.y.now ≡ get_or b i 0 = turn.3 0 in
    rw (length_push loop.yielded (c.in-Some.x, c.in-Some.y), at_a, at_b)
    (same_step a b loop.difference i turn.0 turn.1 loop.invariant)
