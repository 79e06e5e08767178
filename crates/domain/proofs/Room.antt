-- Room. The agreed changes on a switch name at most 64 prefixes with lengths: they come from the playbook, of which
-- question 37 says so. A table that agreed changes made has no other keys, and so has room for each of them.
-- Assumes nothing.
use mathlib.Core.Path.{◌≡◌, refl, sym, ap, ◌∙◌, subst}
use mathlib.Core.Bool.{true}
use mathlib.Core.List.{List, [], ◌∷◌, map}
use Prim.Native.Nat.{ℕ, zero, suc, ◌+◌, ◌-◌, ◌≤◌, ◌<◌}
use native.Mathlib.Omega.{arith}
use lib.Dec.{eqb}
use lib.ListN.{length, get_or}
use borrow.Author.Tests.{eqb-true, eq-eqb}
use Rattle.answer.proofs.Bools.{by_bool, by_or, tf, or_left, or_right, pick-keeps}
use Rattle.lists.specs.Arrays.{every_tail, every}
use Rattle.lists.specs.Counts.{passing}
use Rattle.lists.specs.Kinds.{among, kinds}
use Rattle.lists.proofs.Pigeonhole.{kinds-within}
use Rattle.flow.specs.Rules.{Key, rule_key, same_key}
use Rattle.flow.specs.Tables.{entries_of}
use Rattle.flow.specs.Changes.{apply_rule, changed}
use Rattle.flow.specs.declared.Rule.{Rule}
use Rattle.flow.specs.declared.Table.{Table}
use Rattle.flow.proofs.Kept.{Ordered, table_meaning}
use Rattle.flow.proofs.Keys.{Within, Takes, takes, table-few}
use Rattle.flow.proofs.Order.{key_sound, key_mine}
use Rattle.playbook.specs.Books as books
use Rattle.playbook.specs.Printing.{InRange}
use Rattle.playbook.proofs.Few.{stored-kinds}
use Rattle.controller.specs.Changes.{empty_undone}
use Rattle.controller.specs.declared.Undone.{Undone}
use Rattle.protocol.proofs.Ends as protocol
use Rattle.protocol.proofs.Worlds.{Agreed}
use Rattle.protocol.proofs.Claims.{table_after, Roomy}
use Rattle.domain.specs.Settings.{Setting, Valid, playbook}
use Rattle.domain.specs.Claim.{agreed}
use Rattle.domain.proofs.View.{domain_of}
use Rattle.domain.proofs.Agreed.{stored, change-fine}

-- the prefixes with lengths of the changes on a switch
abbrev pub keys_at : ℕ → List Undone → List Key
keys_at s us = map (λ (u : Undone). rule_key u.rule) (passing (λ u. eqb u.switch s) us)

-- a change's key is among those of its switch, and each of these is that of some change
key_at_lem : (us : List Undone) (i : ℕ) → i < length us →
    let u = get_or us i empty_undone in among same_key (rule_key u.rule) (keys_at u.switch us) ≡ true
unfolding passing among
key_at_lem [] i l = absurd (omega arith)
key_at_lem (u ∷ us) zero l = rw (eq-eqb u.switch u.switch refl) (or_left _ _ (key_mine (rule_key u.rule)))
key_at_lem (u ∷ us) (suc i) l =
    let v = get_or us i empty_undone in
    let rest = key_at_lem us i (omega arith) in
    by_bool (eqb u.switch v.switch)
    (λ e. rw e (or_right (same_key (rule_key u.rule) (rule_key v.rule)) _ rest)) (λ e. rw e rest)

keys_from : (s : ℕ) (ks : List Key) (us : List Undone)
    → ((i : ℕ) → i < length us → (get_or us i empty_undone).switch ≡ s
    → among same_key (rule_key (get_or us i empty_undone).rule) ks ≡ true)
    → (k : Key) → among same_key k (keys_at s us) ≡ true → among same_key k ks ≡ true
unfolding passing among
keys_from s ks [] each k h = tf h refl
keys_from s ks (u ∷ us) each k h =
    let rest = keys_from s ks us (λ i l. each (suc i) (omega arith)) k in
    by_bool (eqb u.switch s)
    (λ e. by_or (same_key (rule_key u.rule) k) _ (rw e at h)
    (λ q. ap (λ (j : Key). among same_key j ks) (sym (key_sound (rule_key u.rule) k q))
    ∙ each 0 (omega arith) (eqb-true _ _ e)) rest)
    (λ e. rest (rw e at h))

module _ (S : Setting) (v : Valid S) (ranged : InRange (playbook S)) where
  abbrev D : protocol.Domain Rule Table
  D = domain_of S

  -- the bound over the agreed changes on a switch
  pub few-keys : (s : ℕ) → s < 16 → kinds same_key (keys_at s (agreed S)) ≤ 64
  few-keys s l =
      let drawn = kinds-within same_key key_sound key_mine (keys_at s (agreed S))
      (books.keys_on s (books.book_of (playbook S)).changes)
      (keys_from s _ (agreed S) (λ i n on.
      let place : i + 1 - 1 ≡ i = omega arith in
      let key = (change-fine S v ranged (i + 1) (omega arith, omega arith)).key in
      rw (place, on) at key)) in
      omega (arith, stored-kinds (playbook S) s (stored S v ranged) l)

  -- a table in order that has no other keys
  pub record Drawn (s : ℕ) (t : Table) : Type 0 where
    pub ordered : Ordered (entries_of t)
    pub within : Within (keys_at s (agreed S)) (entries_of t)

  module _ (k : ℕ) (g : Agreed D k) (t : Table) (d : Drawn (D.switch k) t) where
    -- it takes each agreed change of its switch, and is then such a table again
    taken : Takes (keys_at (D.switch k) (agreed S)) (D.content k) (entries_of t)
    taken =
        let fine = change-fine S v ranged k g in
        takes (keys_at (D.switch k) (agreed S)) (D.content k) (entries_of t) (few-keys (D.switch k) fine.known)
        fine.formed (key_at_lem (agreed S) (k - 1) (omega (arith, g.0, g.1))) d.ordered d.within

    drawn_next : Drawn (D.switch k) (changed (D.content k) t)
    drawn_next =
        let es = apply_rule (D.content k) (entries_of t) in
        let few : length es ≤ 64 =
        omega (
          arith,
          table-few (keys_at (D.switch k) (agreed S)) es taken.ordered taken.within,
          few-keys (D.switch k) (change-fine S v ranged k g).known,
        ) in
        let is = table_meaning es few in
        record { ordered = rw is taken.ordered; within = rw is taken.within }

  drawn_after : (ks : List ℕ) → ((k : ℕ) → among eqb k ks ≡ true → Agreed D k) → (s : ℕ) → Drawn s (table_after D ks s)
  unfolding table_after among every_tail every
  drawn_after [] all s = record { ordered = refl; within = λ k h. tf h refl }
  drawn_after (k ∷ ks) all s =
      let rest = drawn_after ks (λ j h. all j (or_right (eqb k j) _ h)) s in
      pick-keeps (Drawn s) (eqb (D.switch k) s) _ _
      (λ e.
      let on = eqb-true (D.switch k) s e in
      let t = table_after D ks s in
      subst (λ u. Drawn u (changed (D.content k) t)) on
      (drawn_next k (all k (or_left _ _ (eq-eqb k k refl))) t (subst (λ u. Drawn u t) (sym on) rest)))
      (λ e. rest)

  pub roomy : Roomy D
  roomy ks all k g = (taken k g (table_after D ks (D.switch k)) (drawn_after ks all (D.switch k))).room
