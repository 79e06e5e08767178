-- `write_flow_mod` meets its contract: both questions are asked before the part of the frame is lent. Assumes nothing.
use mathlib.Core.Path.{◌≡◌, sym, ◌∙◌}
use mathlib.Core.Bool.{true}
use Prim.Native.Nat.{◌+◌, ◌≤◌}
use native.Mathlib.Omega.{arith}
use borrow.Author.Tests.{leb-true, leb-false}
use lib.ListN.{length, length-take, length-drop}
use Rattle.lists.proofs.Frames.{part_back}
use Rattle.flow.specs.Rules.{well_formed}
use Rattle.openflow.specs.FlowMods.{length_of, bytes_of}
use Rattle.openflow.specs.declared.Written.{Written}
use Rattle.openflow.proofs.Lengths.{bytes-length}
use Rattle.openflow.proofs.Ranges.{formed_length}
use Rattle.openflow.proofs.Frames.{done, malformed, too_long, all_written}
use Rattle.openflow.proofs.writing.write_flow_mod.Goals as goal

pub returns-then-not-well_formed : goal.returns-then-not-well_formed
returns-then-not-well_formed c = let a = c.args in
    let bad = sym c.well_formed-2.ensures ∙ c.if-not-well_formed.true in
    sym (malformed a.number a.rule a.frame.now a.at bad)

pub returns-then-not-fits : goal.returns-then-not-fits
returns-then-not-fits c =
    let formed : well_formed c.args.rule ≡ true = sym c.well_formed-2.ensures ∙ c.if-not-well_formed.false in
    let a = c.args in
    let long = c.length_of-n in
    let over = sym c.fits.ensures ∙ c.if-not-fits.true in
    let past = rw long.ensures at (leb-false (a.at + long.result) (length a.frame.now) over) in
    sym (too_long a.number a.rule a.frame.now a.at formed past)

pub slice_bounds-put-count : goal.slice_bounds-put-count
slice_bounds-put-count c =
    let room : (let a = c.args in
    a.at + length_of a.rule ≤ length a.frame.now) = let a = c.args in
    let long = c.length_of-n in
    let fits = sym c.fits.ensures ∙ c.if-not-fits.false in
    rw long.ensures at (leb-true (a.at + long.result) (length a.frame.now) fits) in
    omega (arith, room)

pub slice_bounds-put-start : goal.slice_bounds-put-start
slice_bounds-put-start c =
    let room : (let a = c.args in
    a.at + length_of a.rule ≤ length a.frame.now) = let a = c.args in
    let long = c.length_of-n in
    let fits = sym c.fits.ensures ∙ c.if-not-fits.false in
    rw long.ensures at (leb-true (a.at + long.result) (length a.frame.now) fits) in
    omega (arith, room)

pub put-requires : goal.put-requires
put-requires c =
    let formed : well_formed c.args.rule ≡ true = sym c.well_formed-2.ensures ∙ c.if-not-well_formed.false in
    let room : (let a = c.args in
    a.at + length_of a.rule ≤ length a.frame.now) = let a = c.args in
    let long = c.length_of-n in
    let fits = sym c.fits.ensures ∙ c.if-not-fits.false in
    rw long.ensures at (leb-true (a.at + long.result) (length a.frame.now) fits) in
    let a = c.args in
    (simp (length-take, length-drop) (omega (arith, room)), formed_length a.rule formed)

pub returns : goal.returns
returns c =
    let formed : well_formed c.args.rule ≡ true = sym c.well_formed-2.ensures ∙ c.if-not-well_formed.false in
    let room : (let a = c.args in
    a.at + length_of a.rule ≤ length a.frame.now) = let a = c.args in
    let long = c.length_of-n in
    let fits = sym c.fits.ensures ∙ c.if-not-fits.false in
    rw long.ensures at (leb-true (a.at + long.result) (length a.frame.now) fits) in
    let a = c.args in
    let w = bytes_of a.number a.rule in
    let fit : a.at + length w ≤ length a.frame.now = rw (bytes-length a.number a.rule) room in
    let back = part_back a.frame.now w a.at fit c.put.ensures in
    let said : ◌≡◌ {A = Written} (record { answer = 0; length = c.length_of-n.result }) (done a.rule) =
    λ i. record { answer = 0; length = c.length_of-n.ensures i } in
    (λ i. (said i, back i)) ∙ sym (all_written a.number a.rule a.frame.now a.at formed room)
