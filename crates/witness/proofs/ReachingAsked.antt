-- What calls make, by the shares that they bring to switches: without one nothing; where all ask for k, k some times.
-- Each number is made once, so where k is made in the end, it is made once.
use mathlib.Core.Path.{◌≡◌, refl, ◌∙◌}
use mathlib.Core.Bool.{true, false}
use mathlib.Core.List.{List, [], ◌∷◌}
use mathlib.Core.Logic.{◌⊎◌, inl, inr, ⊎_elim}
use Prim.Native.Nat.{ℕ, zero, suc, ◌<◌}
use native.Mathlib.Omega.{arith}
use lib.Dec.{eqb}
use borrow.Author.Tests.{eq-eqb}
use Rattle.answer.specs.Ask.{pick}
use Rattle.answer.proofs.Bools.{by_bool, tf, or_left, pick-keeps}
use Rattle.lists.specs.Bytes.{field}
use Rattle.lists.specs.Kinds.{among, is_among}
use Rattle.message.specs.Layout.{number_at}
use Rattle.switch.specs.Calls.{receives, writes, manages, reply_to}
use Rattle.protocol.specs.Runs.{run, Every}
use Rattle.protocol.proofs.Runs.{every_join}
use Rattle.protocol.proofs.Claims.{Lawful}
use Rattle.domain.specs.Settings.{Decision, Setting, switch_keys}
use Rattle.domain.specs.Calls.{Call, at_switch, at_controller, Run, step}
use Rattle.domain.specs.Claim.{made, answered}
use Rattle.domain.proofs.View.{domain_of}
use Rattle.witness.specs.Played.{tells, for_each, first_half}
use Rattle.witness.specs.Reaching.{deciding, deciding_below, bringing}

-- a call that brings no share to a switch, and one that brings at most a share of k
abbrev pub Silent : Call → Type 0
Silent (at_switch s (receives bytes)) = ⊥
Silent (at_switch s (writes kind c frame at)) = Unit {0}
Silent (at_switch s (manages m)) = Unit {0}
Silent (at_controller c x) = Unit {0}

abbrev pub AsksFor : ℕ → Call → Type 0
AsksFor k (at_switch s (receives bytes)) = field bytes number_at 4 ≡ k
AsksFor k (at_switch s (writes kind c frame at)) = Unit {0}
AsksFor k (at_switch s (manages m)) = Unit {0}
AsksFor k (at_controller c x) = Unit {0}

-- a number some times in front of a list
unfoldable times : ℕ → ℕ → List ℕ → List ℕ
times zero k ms = ms
times (suc i) k ms = k ∷ times i k ms

module _ (S : Setting) where
  -- what every call has that a loop makes, wherever Q holds, the loop has
  pub each-every : (Q : Run → Type 0) (P : Run → Call → Type 0) (k : ℕ) (calls : Run → ℕ → List Call)
      → ((u : Run) → Q u → (i : ℕ) → i < k → Every (step S) P u (calls u i) × Q (run (step S) u (calls u i)))
      → (r : Run) → Q r → Every (step S) P r (for_each S k calls r)
  unfolding for_each
  each-every Q P zero calls keep r q = tt
  each-every Q P (suc k) calls keep r q =
      let one = keep r q k (omega arith) in
      every_join (step S) P r (calls r k) _ one.0
      (each-every Q P k calls (λ u h i l. keep u h i (omega arith)) (run (step S) r (calls r k)) one.1)

  -- one call
  call_silent : (r : Run) (x : Call) → Silent x → answered S (step S r x) ≡ answered S r
  unfolding step made
  call_silent r (at_switch s (receives bytes)) h = absurd h
  call_silent r (at_switch s (writes kind c frame at)) h =
      by_bool (eqb (reply_to (switch_keys S s) (r.switches s) (writes kind c frame at)).answer 1) (λ e. rw e)
      (λ e. rw e)
  call_silent r (at_switch s (manages m)) h =
      by_bool (eqb (reply_to (switch_keys S s) (r.switches s) (manages m)).answer 1) (λ e. rw e) (λ e. rw e)
  call_silent r (at_controller c x) h = refl

  call_asks : (k : ℕ) (r : Run) (x : Call) → AsksFor k x
      → (answered S (step S r x) ≡ answered S r) ⊎ (answered S (step S r x) ≡ k ∷ answered S r)
  call_asks k r (at_switch s (receives bytes)) h = unfold step made in
      by_bool (eqb (reply_to (switch_keys S s) (r.switches s) (receives bytes)).answer 1) (λ e. inr (rw (e, h)))
      (λ e. inl (rw e))
  call_asks k r (at_switch s (writes kind c frame at)) h = inl (call_silent r (at_switch s (writes kind c frame at)) tt)
  call_asks k r (at_switch s (manages m)) h = inl (call_silent r (at_switch s (manages m)) tt)
  call_asks k r (at_controller c x) h = inl (call_silent r (at_controller c x) tt)

  -- and a list of calls
  pub silent_makes : (r : Run) (xs : List Call) → Every (step S) (λ u x. Silent x) r xs
      → answered S (run (step S) r xs) ≡ answered S r
  silent_makes r [] h = refl
  silent_makes r (x ∷ xs) h = silent_makes (step S r x) xs h.1 ∙ call_silent r x h.0

  asked_times : (k : ℕ) (ms : List ℕ) (r : Run) (xs : List Call) → Every (step S) (λ u x. AsksFor k x) r xs → (i : ℕ)
      → answered S r ≡ times i k ms → (j : ℕ) × (answered S (run (step S) r xs) ≡ times j k ms)
  unfolding times
  asked_times k ms r [] h i is = (i, is)
  asked_times k ms r (x ∷ xs) h i is =
      ⊎_elim (λ same. asked_times k ms (step S r x) xs h.1 i (same ∙ is))
      (λ more. asked_times k ms (step S r x) xs h.1 (suc i) (more ∙ rw is)) (call_asks k r x h.0)

  once : (k : ℕ) (ms : List ℕ) → is_among k ms ≡ false → (i : ℕ) (l : List ℕ) → l ≡ times i k ms
      → Lawful (domain_of S) l → is_among k l ≡ true → l ≡ k ∷ ms
  unfolding times among
  once k ms new zero l is lawful there = tf (rw is at there) new
  once k ms new (suc zero) l is lawful there = is
  once k ms new (suc (suc i)) l is lawful there =
      let again = rw is at lawful in tf (or_left (eqb k k) _ (eq-eqb k k refl)) again.0.new

  pub asked_makes : (k : ℕ) (ms : List ℕ) (r : Run) (xs : List Call) → is_among k ms ≡ false → answered S r ≡ ms
      → Every (step S) (λ u x. AsksFor k x) r xs → Lawful (domain_of S) (answered S (run (step S) r xs))
      → is_among k (answered S (run (step S) r xs)) ≡ true → answered S (run (step S) r xs) ≡ k ∷ ms
  unfolding times
  asked_makes k ms r xs new is asks lawful there =
      let some = asked_times k ms r xs asks 0 is in once k ms new some.0 _ some.1 lawful there

  -- acknowledgements and decisions are silent
  pub first_silent : (r : Run) → Every (step S) (λ u x. Silent x) r (first_half S r)
  first_silent r =
      each-every (λ u. Unit {0}) _ _ _ (λ u q s l. (
        each-every (λ w. Unit {0}) _ S.n (tells S s) (λ w z c m. (
          pick-keeps (Every (step S) (λ u x. Silent x) w) (S.strays c) _ _ (λ e. tt) (λ e. (tt, (tt, tt))),
          tt,
        )) u tt,
        tt,
      )) r tt

  deciding_silent : (d : Decision) (k : ℕ) (r : Run) → Every (step S) (λ u x. Silent x) r (deciding_below S d k)
  unfolding deciding_below
  deciding_silent d zero r = tt
  deciding_silent d (suc k) r =
      every_join (step S) (λ u x. Silent x) r (pick (S.strays k) [] (deciding d k ∷ [])) (deciding_below S d k)
      (pick-keeps (Every (step S) (λ u x. Silent x) r) (S.strays k) [] (deciding d k ∷ []) (λ e. tt) (λ e. (tt, tt)))
      (deciding_silent d k _)

  pub bringing_silent : (ds : List Decision) (r : Run) → Every (step S) (λ u x. Silent x) r (bringing S ds)
  unfolding bringing
  bringing_silent [] r = tt
  bringing_silent (d ∷ ds) r =
      every_join (step S) (λ u x. Silent x) r (deciding_below S d S.n) (bringing S ds) (deciding_silent d S.n r)
      (bringing_silent ds _)
