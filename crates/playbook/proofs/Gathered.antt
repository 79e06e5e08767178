-- The different keys of a switch as the code gathers them, in the order in which they come; and how many changes each
-- switch has. Assumes nothing.
use mathlib.Core.Path.{◌≡◌, refl, sym, ap, ◌∙◌}
use mathlib.Core.List.{List, [], ◌∷◌, ◌++◌}
use mathlib.Core.Bool.{true, false}
use Prim.Native.Nat.{ℕ, zero, suc, ◌+◌, ◌≤◌, ◌<◌}
use native.Mathlib.Numerals.{add-one}
use native.Mathlib.Omega.{arith}
use lib.Dec.{leb, eqb}
use lib.ListN.{length, drop, set, get_or, replicate, length-set, length-append, get_or-replicate}
use lib.Seq.{get_or-set_same, get_or-set_other}
use borrow.Author.Tests.{le-leb, lt-leb, eq-eqb, ne_eqb}
use Rattle.std.proofs.lemmas.Bool.{leb-false}
use Rattle.answer.specs.Limits.{switch_count}
use Rattle.answer.proofs.Bools.{by_bool, by_eq, tf}
use Rattle.lists.specs.Kinds.{among, kinds}
use Rattle.lists.proofs.Members.{among_snoc, kinds-known, kinds_new, kinds_more, kinds-few}
use Rattle.lists.proofs.Pigeonhole.{kinds-within}
use Rattle.flow.specs.Rules.{Key, rule_key, same_key}
use Rattle.flow.proofs.Order.{key_sound, key_mine}
use Rattle.playbook.specs.Limits.{max_keys}
use Rattle.playbook.specs.Books.{keys_on, kinds_on}
use Rattle.playbook.specs.Storing.{few_keys_below}
use Rattle.playbook.specs.Gathering.{with_key, Gathered, Collected}
use Rattle.playbook.specs.declared.Change.{Change}
use Rattle.playbook.proofs.Few.{keys_on_lem, keys_off, few_below}

-- a key behind others counts as in front of them
kinds-turned : (k : Key) (ks : List Key) → kinds same_key (ks ++ k ∷ []) ≡ kinds same_key (k ∷ ks)
unfolding among
kinds-turned k ks =
    let here = kinds-within same_key key_sound key_mine (ks ++ k ∷ []) (k ∷ ks)
    (λ j e. sym (among_snoc same_key j k ks) ∙ e) in
    let there = kinds-within same_key key_sound key_mine (k ∷ ks) (ks ++ k ∷ [])
    (λ j e. among_snoc same_key j k ks ∙ e) in
    omega arith

pub gathered_none : Gathered [] []
unfolding among kinds
gathered_none = record { counted = refl; members = λ k. refl }

-- a key that was gathered, and one that was not
module _ {ms ks : List Key} (g : Gathered ms ks) (k : Key) where
  gathered_known : among same_key k ms ≡ true → Gathered ms (ks ++ k ∷ [])
  gathered_known e = record {
    counted = g.counted ∙ sym (kinds-known same_key k ks (sym (g.members k) ∙ e)) ∙ sym (kinds-turned k ks);
    members = λ j. by_bool (same_key k j)
        (λ s. ap (λ (i : Key). among same_key i ms) (sym (key_sound k j s)) ∙ e
        ∙ sym (among_snoc same_key j k ks ∙ rw s))
        (λ s. g.members j ∙ sym (among_snoc same_key j k ks ∙ rw s));
  }

  gathered_new : among same_key k ms ≡ false → Gathered (ms ++ k ∷ []) (ks ++ k ∷ [])
  gathered_new e = record {
    counted =
        let more = length-append ms (k ∷ []) in
        let next = kinds-turned k ks ∙ kinds_new same_key k ks (sym (g.members k) ∙ e) in
        omega (arith, g.counted);
    members = λ j. rw (among_snoc same_key j k ms, among_snoc same_key j k ks, g.members j);
  }

  pub gathered_more : Gathered (with_key k ms) (ks ++ k ∷ [])
  gathered_more =
      by_bool (among same_key k ms) (λ e. rw e (gathered_known e)) (λ e. rw e (gathered_new e))

  -- the same for a key in front
  pub gathered_before : Gathered (with_key k ms) (k ∷ ks)
  unfolding among
  gathered_before =
      by_bool (among same_key k ms)
      (λ e. rw e (record {
        counted = g.counted ∙ sym (kinds-known same_key k ks (sym (g.members k) ∙ e));
        members = λ j. by_bool (same_key k j)
            (λ s. rw s (ap (λ (i : Key). among same_key i ms) (sym (key_sound k j s)) ∙ e))
            (λ s. rw s (g.members j));
      }))
      (λ e. rw e (record {
        counted =
            let more = length-append ms (k ∷ []) in
            let next = kinds_new same_key k ks (sym (g.members k) ∙ e) in
            omega (arith, g.counted);
        members = λ j. rw (among_snoc same_key j k ms, g.members j);
      }))

-- a change more, on the switch whose keys are gathered, and on another; and whether its switch has too many keys
pub own_more : (ms : List Key) (s : ℕ) (cs : List Change) (c : Change) → Gathered ms (keys_on s cs) → c.switch ≡ s
    → Gathered (with_key (rule_key c.rule) ms) (keys_on s (cs ++ c ∷ []))
own_more ms s cs c g e = rw (keys_on_lem s cs c e) (gathered_more g (rule_key c.rule))

pub other_more : (ms : List Key) (s : ℕ) (cs : List Change) (c : Change) → Gathered ms (keys_on s cs)
    → (c.switch ≡ s → ⊥) → Gathered ms (keys_on s (cs ++ c ∷ []))
other_more ms s cs c g ne = rw (keys_off s cs c ne) g

pub gathered_fits : (ms : List Key) (s : ℕ) (cs : List Change) → Gathered ms (keys_on s cs)
    → leb (length ms) max_keys ≡ leb (kinds_on s cs) max_keys
gathered_fits ms s cs g = ap (λ (n : ℕ). leb n max_keys) g.counted

-- a change in front
pub own_before : (ms : List Key) (s : ℕ) (cs : List Change) (c : Change) → Gathered ms (keys_on s cs) → c.switch ≡ s
    → Gathered (with_key (rule_key c.rule) ms) (keys_on s (c ∷ cs))
unfolding keys_on
own_before ms s cs c g e = rw (eq-eqb c.switch s e) (gathered_before g (rule_key c.rule))

pub other_before : (ms : List Key) (s : ℕ) (cs : List Change) (c : Change) → Gathered ms (keys_on s cs)
    → (c.switch ≡ s → ⊥) → Gathered ms (keys_on s (c ∷ cs))
unfolding keys_on
other_before ms s cs c g ne = rw (ne_eqb c.switch s ne) g

kinds-later : (s : ℕ) (cs : List Change) (i : ℕ) → kinds_on s (drop i cs) ≤ kinds_on s cs
unfolding keys_on
kinds-later s cs zero = omega arith
kinds-later s [] (suc i) = omega arith
kinds-later s (c ∷ cs) (suc i) =
    let h = kinds-later s cs i in
    by_bool (eqb c.switch s) (λ e. rw e (omega (arith, kinds_more same_key (rule_key c.rule) (keys_on s cs))))
    (λ e. rw e h)

-- too many keys of later changes are too many keys
pub kinds-over : (s : ℕ) (cs : List Change) (i : ℕ) → leb (kinds_on s (drop i cs)) max_keys ≡ false
    → leb (kinds_on s cs) max_keys ≡ false
kinds-over s cs i h =
    lt-leb (kinds_on s cs) max_keys
    (omega (arith, leb-false (kinds_on s (drop i cs)) max_keys h, kinds-later s cs i))

-- the keys of every switch
pub collected_none : (sets : List (List Key)) → sets ≡ replicate switch_count [] → Collected sets []
unfolding keys_on
collected_none sets e = record {
  switches = rw e;
  each = λ s h. rw (e, get_or-replicate {A = List Key} switch_count s [] [] h) gathered_none;
}

module _ {sets : List (List Key)} {cs : List Change} (g : Collected sets cs) (c : Change)
    (known : c.switch < switch_count) where
  pub collected_fits : leb (length (with_key (rule_key c.rule) (get_or sets c.switch []))) max_keys
      ≡ leb (kinds_on c.switch (cs ++ c ∷ [])) max_keys
  collected_fits = gathered_fits _ c.switch (cs ++ c ∷ []) (own_more _ c.switch cs c (g.each c.switch known) refl)

  pub collected_more : Collected (set sets c.switch (with_key (rule_key c.rule) (get_or sets c.switch []))) (cs ++ c ∷ [])
  collected_more = record {
    switches = rw length-set g.switches;
    each = λ s h. by_eq c.switch s
        (λ e. rw (← e, get_or-set_same sets c.switch _ [] (omega (arith, g.switches)))
        (own_more _ c.switch cs c (g.each c.switch known) refl))
        (λ ne. rw (get_or-set_other sets c.switch s _ [] (λ q. ne (sym q))) (other_more _ s cs c (g.each s h) ne));
  }

keys_length : (s : ℕ) (cs : List Change) → length (keys_on s cs) ≤ length cs
unfolding keys_on
keys_length s [] = omega arith
keys_length s (c ∷ cs) =
    let h = keys_length s cs in
    by_bool (eqb c.switch s) (λ e. rw e (omega arith)) (λ e. rw e (omega arith))

-- a count for each switch, of the changes on it
abbrev pub Counted : List ℕ → List Change → Type 0
Counted counts cs = (s : ℕ) → s < switch_count → get_or counts s 0 ≡ length (keys_on s cs)

pub record Tally (counts : List ℕ) (cs : List Change) : Type 0 where
  pub full : length counts ≡ switch_count
  pub each : Counted counts cs

pub tally_none : (cs : List Change) → cs ≡ [] → Tally (replicate switch_count 0) cs
unfolding keys_on
tally_none cs e = record { full = refl; each = λ s h. rw e (get_or-replicate switch_count s 0 0 h) }

pub tally_room : {counts : List ℕ} {cs : List Change} → Tally counts cs → (s : ℕ) → s < switch_count
    → get_or counts s 0 ≤ length cs
tally_room {cs} t s h = omega (arith, t.each s h, keys_length s cs)

-- a change more at the end, on a known switch
module _ {counts next : List ℕ} {cs : List Change} (t : Tally counts cs) (c : Change) where
  pub tally_on : c.switch < switch_count → next ≡ set counts c.switch (get_or counts c.switch 0 + 1)
      → Tally next (cs ++ c ∷ [])
  tally_on k e = record {
    full = rw (e, length-set) t.full;
    each = λ s h. rw e (by_eq c.switch s
        (λ q. rw (keys_on_lem s cs c q, length-append, q, get_or-set_same counts s _ 0 (omega arith), t.each s h))
        (λ n. rw (keys_off s cs c n, get_or-set_other counts c.switch s _ 0 (λ q. n (sym q))) (t.each s h)));
  }

-- a switch with few changes has few keys
pub tally_few : {counts : List ℕ} {cs : List Change} → Tally counts cs → (s : ℕ) → s < switch_count
    → get_or counts s 0 ≤ max_keys → kinds_on s cs ≤ max_keys
tally_few {counts} {cs} t s l h = omega (arith, t.each s l, kinds-few same_key (keys_on s cs))

-- a turn of the loop over the switches, from the first on, and where one has too many
pub few-next : (s : ℕ) (cs : List Change) → few_keys_below s cs ≡ true → kinds_on s cs ≤ max_keys
    → few_keys_below (s + 1) cs ≡ true
unfolding few_keys_below
few-next s cs h k = rw (add-one, h, le-leb _ _ k)

pub few-fails : (n s : ℕ) (cs : List Change) → s < n → leb (kinds_on s cs) max_keys ≡ false
    → few_keys_below n cs ≡ false
few-fails n s cs l h =
    by_bool (few_keys_below n cs) (λ e. tf (le-leb _ _ (few_below n s cs e l)) h) (λ e. e)
