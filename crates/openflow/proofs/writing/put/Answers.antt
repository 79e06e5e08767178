-- `put` meets its contract: header, fields, match and instruction stand one behind the other. Assumes nothing.
use Prim.Native.Nat.{◌+◌, ◌≤◌}
use native.Mathlib.Omega.{arith}
use borrow.Author.Rules.{rules}
use lib.ListN.{length, length-take, length-drop}
use Rattle.openflow.proofs.Lengths.{length_most, length_least, length-set}
use Rattle.openflow.proofs.Putting.{instruction_back, removal_put, set-put}
use Rattle.openflow.proofs.writing.put.Goals as goal

pub overflow_cast-size : goal.overflow_cast-size
overflow_cast-size c = let most = length_most c.args.rule in
    let size = c.length_of-size.ensures in
    search rules

pub put_header-requires : goal.put_header-requires
put_header-requires c = let r = c.args.rule in
    omega (arith, c.requires.0, length_least r)

pub put_flow_mod-requires : goal.put_flow_mod-requires
put_flow_mod-requires c = let r = c.args.rule in
    omega (arith, c.requires.0, length_least r)

pub put_match-requires : goal.put_match-requires
put_match-requires c = let r = c.args.rule in
    (omega (arith, c.requires.0, length_least r), c.requires.1)

pub put_instruction-requires : goal.put_instruction-requires
put_instruction-requires c =
    let room :
    c.match_end-end.result + 24 ≤ length c.put_match.new.part =
    let whole = length-set c.args.rule _ c.in-Set.is in
    omega (arith, c.requires.0, c.match_end-end.ensures, whole) in
    simp (length-take, length-drop) (omega (arith, room))

pub returns-in_default : goal.returns-in_default
returns-in_default c = let a = c.args in
    removal_put a.part.now a.number a.rule c.length_of-size.ensures c.command_of-command.ensures
    c.put_header.ensures c.put_flow_mod.ensures c.put_match.ensures c.in_default.is

pub returns-in-Set : goal.returns-in-Set
returns-in-Set c =
    let room :
    c.match_end-end.result + 24 ≤ length c.put_match.new.part =
    let whole = length-set c.args.rule _ c.in-Set.is in
    omega (arith, c.requires.0, c.match_end-end.ensures, whole) in
    let a = c.args in
    set-put a.part.now a.number a.rule c.length_of-size.ensures c.command_of-command.ensures
    c.put_header.ensures c.put_flow_mod.ensures c.put_match.ensures _ _
    c.in-Set.is c.match_end-end.ensures
    (instruction_back c.put_match.new.part _ _ room c.put_instruction.ensures)

pub slice_bounds-put_instruction-count : goal.slice_bounds-put_instruction-count
slice_bounds-put_instruction-count c =
    let room :
    c.match_end-end.result + 24 ≤ length c.put_match.new.part =
    let whole = length-set c.args.rule _ c.in-Set.is in
    omega (arith, c.requires.0, c.match_end-end.ensures, whole) in
    omega (arith, room)

pub slice_bounds-put_instruction-start : goal.slice_bounds-put_instruction-start
slice_bounds-put_instruction-start c =
    let room :
    c.match_end-end.result + 24 ≤ length c.put_match.new.part =
    let whole = length-set c.args.rule _ c.in-Set.is in
    omega (arith, c.requires.0, c.match_end-end.ensures, whole) in
    omega (arith, room)
