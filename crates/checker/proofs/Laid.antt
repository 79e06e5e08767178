-- Agreed changes laid out and read back: what fits, is numbered by its places and has rules with ports comes back as it
-- was; so do the agreed changes of a setting, which is what `agree` answers of its playbook. Assumes nothing.
use mathlib.Core.Path.{◌≡◌, sym, ap, ◌∙◌}
use mathlib.Core.Bool.{true}
use mathlib.Core.List.{List, map}
use Prim.Native.Nat.{ℕ, ◌+◌, ◌≤◌, ◌<◌}
use native.Mathlib.Omega.{arith}
use lib.ListN.{length, get_or, take, length-map}
use Rattle.std.proofs.lemmas.List.{get_or-map}
use lib.Seq.{ext_get_or}
use Rattle.answer.proofs.Bools.{and_parts}
use Rattle.lists.proofs.Padding.{pad-take}
use Rattle.flow.specs.Rules.{rule_key, prefix_ok, port_ok}
use Rattle.flow.proofs.Actions.{port-rule}
use Rattle.playbook.proofs.Kept.{read-stored}
use Rattle.controller.specs.Changes.{empty_undone}
use Rattle.controller.specs.declared.Undone.{Undone}
use Rattle.domain.specs.Settings.{Setting, Valid, playbook}
use Rattle.domain.specs.Claim.{agreed}
use Rattle.domain.proofs.Courses.{agreed-fine}
use Rattle.domain.proofs.Reached.{ranged}
use Rattle.checker.specs.Layout.{no_change, numbered_as, change_at, changes_in}
use Rattle.checker.specs.Agreeing.{laid_as, laid_out, agreed_of, in_use}
use Rattle.checker.proofs.Laying.{laid_array}
use Rattle.checker.proofs.Listing.{listed-length, listed_at}

-- a change that has the number after its place, and a rule that sets no port 0
change_back : (u : Undone) (number : ℕ) → u.number ≡ number → port_ok u.rule.action ≡ true
    → numbered_as number (laid_as u) ≡ u
change_back u number e ok = λ k. record {
  number = sym e k;
  first = u.first;
  flow = u.flow;
  switch = u.switch;
  rule = port-rule u.rule ok k;
}

module _ (us : List Undone) where
  laid_at : (i : ℕ) → i < length us → get_or (map laid_as us) i no_change ≡ laid_as (get_or us i empty_undone)
  laid_at i h = get_or-map laid_as us i empty_undone no_change h

  changes_back : ((i : ℕ) → i < length us → (get_or us i empty_undone).number ≡ i + 1)
      → ((i : ℕ) → i < length us → port_ok (get_or us i empty_undone).rule.action ≡ true)
      → changes_in (map laid_as us) ≡ us
  changes_back numbers ok =
      let laid = map laid_as us in
      let n : length laid ≡ length us = length-map us laid_as in
      let m : length (changes_in laid) ≡ length laid = listed-length (change_at laid) 0 (length laid) in
      ext_get_or empty_undone (changes_in laid) us (m ∙ n)
      (λ i h.
      let l : i < length us = omega arith in
      let few : i < length laid = omega arith in
      let z : 0 + i ≡ i = omega arith in
      listed_at (change_at laid) 0 (length laid) i empty_undone few ∙ ap (change_at laid) z
      ∙ ap (numbered_as (i + 1)) (laid_at i l) ∙ change_back (get_or us i empty_undone) (i + 1) (numbers i l) (ok i l))

  in_use_laid : length us ≤ 256 → in_use (laid_out us) ≡ map laid_as us
  in_use_laid few =
      let n : length (map laid_as us) ≡ length us = length-map us laid_as in
      ap (λ (k : ℕ). take k (laid_array us)) (sym n) ∙ pad-take 256 no_change (map laid_as us) (omega arith)

-- the agreed changes of a setting: what is answered of its playbook and its decisions, and what is read back
module _ (S : Setting) where
  pub agreed_laid : agreed_of (playbook S) S.agreed ≡ laid_out (agreed S)
  unfolding agreed_of
  agreed_laid = rw (read-stored S.book)

  pub agreed_back : Valid S → length (agreed S) ≤ 256 → changes_in (in_use (laid_out (agreed S))) ≡ agreed S
  agreed_back v few =
      let fine = agreed-fine (playbook S) (read-stored S.book) (ranged S v) S.agreed in
      ap changes_in (in_use_laid (agreed S) few)
      ∙ changes_back (agreed S) (λ i h. (fine i h).numbered)
      (λ i h. (and_parts (prefix_ok (rule_key (get_or (agreed S) i empty_undone).rule)) _ (fine i h).formed).1)
