-- `Reader::read` meets its contract: each record leads where the definition goes on. Assumes nothing.
use mathlib.Core.Path.{◌≡◌, sym, ap, ◌∙◌}
use mathlib.Core.List.{List}
use Prim.Native.Nat.{ℕ, ◌-◌}
use native.Mathlib.Omega.{arith}
use borrow.Author.Rules.{rules}
use lib.ListN.{length, take, drop, length-drop}
use Rattle.std.specs.Prelude.{Ok}
use Rattle.std.proofs.lemmas.Result.{err_from_is_err_and}
use Rattle.lists.proofs.Stores.{length_mapped, lent_rest}
use Rattle.playbook.specs.Limits.{max_plans, max_changes, plan_size, change_size, end_size}
use Rattle.playbook.specs.Books.{book_of, Trigger, with_plan, with_change}
use Rattle.playbook.specs.Reading.{read_from}
use Rattle.playbook.specs.Asking.{record_at, bytes_of_record}
use Rattle.playbook.specs.declared.records.Record.TheVariants.{Opens, Lists, Ends}
use Rattle.playbook.proofs.Past.{record_within}
use Rattle.playbook.proofs.Turns.{so_refused, so_ended, opens_refused, opens_on, lists_refused, lists_on, stored_means}
use Rattle.playbook.proofs.Turns.{store-sound, stays_sound}
use Rattle.playbook.proofs.reading.Reader.read.Goals as goal

pub loop-record-init : goal.loop-record-init
loop-record-init c =
    let p = c.args.self.now.playbook in
    let plans : length p.plans ≡ max_plans = search (rules, length_mapped) in
    let changes : length p.changes ≡ max_changes = search (rules, length_mapped) in
    let none : length c.args.s.now - length c.args.s.now ≡ 0 = omega arith in (
      store-sound p plans changes c.args.self.now.stored,
      (omega arith, ap (λ (n : ℕ). read_from 0 c.args.s.now n (book_of p)) (sym none)),
    )

pub returns-in_err-record : goal.returns-in_err-record
returns-in_err-record c =
    let rest : List ℕ = c.loop-record.rest.now in
    let b = book_of c.loop-record.self.playbook in
    let begun = book_of c.args.self.now.playbook in
    let p = err_from_is_err_and c.from_residual.result c.from_residual.ensures.1 in
    rw (p.1, p.2)
    (sym (so_refused c.args.s.now begun rest b c.loop-record.invariant.1 _ (sym c.record_at.ensures ∙ c.in_err-record.was)))

pub slice_bounds-rest-count : goal.slice_bounds-rest-count
slice_bounds-rest-count c =
    let rest : List ℕ = c.loop-record.rest.now in
    let b = book_of c.loop-record.self.playbook in
    let begun = book_of c.args.self.now.playbook in
    omega (arith, c.size.ensures, record_within rest c.in_ok-record.record (sym c.record_at.ensures ∙ c.in_ok-record.was))

pub slice_bounds-rest-start : goal.slice_bounds-rest-start
slice_bounds-rest-start c =
    let rest : List ℕ = c.loop-record.rest.now in
    let b = book_of c.loop-record.self.playbook in
    let begun = book_of c.args.self.now.playbook in
    omega (arith, c.size.ensures, record_within rest c.in_ok-record.record (sym c.record_at.ensures ∙ c.in_ok-record.was))

pub loop-record-smaller-in-Continue-branch-2 : goal.loop-record-smaller-in-Continue-branch-2
loop-record-smaller-in-Continue-branch-2 c =
    let rest : List ℕ = c.loop-record.rest.now in
    let b = book_of c.loop-record.self.playbook in
    let begun = book_of c.args.self.now.playbook in
    let t : Trigger = (c.in-Opens.switch, c.in-Opens.cause) in
    let here : record_at rest ≡ Ok (Opens t.0 t.1) =
    sym c.record_at.ensures ∙ c.in_ok-record.was ∙ ap Ok c.in-Opens.is in
    let wide : c.size.result ≡ plan_size = c.size.ensures ∙ ap bytes_of_record c.in-Opens.is in
    let left : take (length rest - c.size.result) (drop c.size.result rest) ≡ drop plan_size rest =
    lent_rest rest c.size.result ∙ ap (λ (n : ℕ). drop n rest) wide in
    rw left (simp length-drop (omega (arith, record_within rest (Opens t.0 t.1) here)))

pub loop-record-preserved-in-Continue-branch-2 : goal.loop-record-preserved-in-Continue-branch-2
loop-record-preserved-in-Continue-branch-2 c =
    let rest : List ℕ = c.loop-record.rest.now in
    let b = book_of c.loop-record.self.playbook in
    let begun = book_of c.args.self.now.playbook in
    let t : Trigger = (c.in-Opens.switch, c.in-Opens.cause) in
    let here : record_at rest ≡ Ok (Opens t.0 t.1) =
    sym c.record_at.ensures ∙ c.in_ok-record.was ∙ ap Ok c.in-Opens.is in
    let wide : c.size.result ≡ plan_size = c.size.ensures ∙ ap bytes_of_record c.in-Opens.is in
    let left : take (length rest - c.size.result) (drop c.size.result rest) ≡ drop plan_size rest =
    lent_rest rest c.size.result ∙ ap (λ (n : ℕ). drop n rest) wide in
    let r = c.open.new.self in
    let is = c.in_ok-open-in-Opens.ensures.opened in
    rw (left, stored_means r.playbook (with_plan b t) r.stored is) (
      stays_sound r.playbook (with_plan b t) r.stored is,
      opens_on c.args.s.now begun rest b c.loop-record.invariant.1 t here c.open.result c.open.ensures.asked
          c.in_ok-open-in-Opens.was,
    )

pub returns-in_err-open-in-Opens : goal.returns-in_err-open-in-Opens
returns-in_err-open-in-Opens c =
    let rest : List ℕ = c.loop-record.rest.now in
    let b = book_of c.loop-record.self.playbook in
    let begun = book_of c.args.self.now.playbook in
    let t : Trigger = (c.in-Opens.switch, c.in-Opens.cause) in
    let here : record_at rest ≡ Ok (Opens t.0 t.1) =
    sym c.record_at.ensures ∙ c.in_ok-record.was ∙ ap Ok c.in-Opens.is in
    let e = c.from_residual-in_err-open-in-Opens in
    let p = err_from_is_err_and e.result e.ensures.1 in
    rw (p.1, p.2)
    (sym (opens_refused c.args.s.now begun rest b c.loop-record.invariant.1 t here c.open.result c.open.ensures.asked _
    c.in_err-open-in-Opens.was))

pub loop-record-smaller : goal.loop-record-smaller
loop-record-smaller c =
    let rest : List ℕ = c.loop-record.rest.now in
    let b = book_of c.loop-record.self.playbook in
    let begun = book_of c.args.self.now.playbook in
    let here : record_at rest ≡ Ok (Lists c.in-Lists.change) =
    sym c.record_at.ensures ∙ c.in_ok-record.was ∙ ap Ok c.in-Lists.is in
    let wide : c.size.result ≡ change_size = c.size.ensures ∙ ap bytes_of_record c.in-Lists.is in
    let left : take (length rest - c.size.result) (drop c.size.result rest) ≡ drop change_size rest =
    lent_rest rest c.size.result ∙ ap (λ (n : ℕ). drop n rest) wide in
    rw left (simp length-drop (omega (arith, record_within rest (Lists c.in-Lists.change) here)))

pub loop-record-preserved : goal.loop-record-preserved
loop-record-preserved c =
    let rest : List ℕ = c.loop-record.rest.now in
    let b = book_of c.loop-record.self.playbook in
    let begun = book_of c.args.self.now.playbook in
    let here : record_at rest ≡ Ok (Lists c.in-Lists.change) =
    sym c.record_at.ensures ∙ c.in_ok-record.was ∙ ap Ok c.in-Lists.is in
    let wide : c.size.result ≡ change_size = c.size.ensures ∙ ap bytes_of_record c.in-Lists.is in
    let left : take (length rest - c.size.result) (drop c.size.result rest) ≡ drop change_size rest =
    lent_rest rest c.size.result ∙ ap (λ (n : ℕ). drop n rest) wide in
    let r = c.list.new.self in
    let next = with_change b c.in-Lists.change in
    let is = c.in_ok-list-in-Lists.ensures.listed in
    rw (left, stored_means r.playbook next r.stored is) (
      stays_sound r.playbook next r.stored is,
      lists_on c.args.s.now begun rest b c.loop-record.invariant.1 c.in-Lists.change here c.list.result
          c.list.ensures.asked c.in_ok-list-in-Lists.was,
    )

pub returns-in_err-list-in-Lists : goal.returns-in_err-list-in-Lists
returns-in_err-list-in-Lists c =
    let rest : List ℕ = c.loop-record.rest.now in
    let b = book_of c.loop-record.self.playbook in
    let begun = book_of c.args.self.now.playbook in
    let here : record_at rest ≡ Ok (Lists c.in-Lists.change) =
    sym c.record_at.ensures ∙ c.in_ok-record.was ∙ ap Ok c.in-Lists.is in
    let e = c.from_residual-in_err-list-in-Lists in
    let p = err_from_is_err_and e.result e.ensures.1 in
    rw (p.1, p.2)
    (sym (lists_refused c.args.s.now begun rest b c.loop-record.invariant.1 c.in-Lists.change here c.list.result
    c.list.ensures.asked _ c.in_err-list-in-Lists.was))

pub returns-in-Ends : goal.returns-in-Ends
returns-in-Ends c =
    let rest : List ℕ = c.loop-record.rest.now in
    let b = book_of c.loop-record.self.playbook in
    let begun = book_of c.args.self.now.playbook in
    let here : record_at rest ≡ Ok Ends = sym c.record_at.ensures ∙ c.in_ok-record.was ∙ ap Ok c.in-Ends.is in
    let wide : c.size.result ≡ end_size = c.size.ensures ∙ ap bytes_of_record c.in-Ends.is in
    let left : take (length rest - c.size.result) (drop c.size.result rest) ≡ drop end_size rest =
    lent_rest rest c.size.result ∙ ap (λ (n : ℕ). drop n rest) wide in
    rw left
    (so_ended c.args.s.now begun rest b c.loop-record.invariant.1 c.loop-record.self.playbook c.loop-record.invariant.0
    here)
