-- From wherever a run within the premises has come to, the rounds as lists of calls are full rounds, and with them the
-- run goes on within the premises; so it can always be brought to its end. Assumes nothing.
use mathlib.Core.Path.{◌≡◌, refl, sym, ap, ap₂, ◌∙◌, subst}
use mathlib.Core.Bool.{true, not, ◌&&◌}
use mathlib.Core.List.{List, [], ◌∷◌, ◌++◌, append-nil, append_assoc, Memᴰ}
use Prim.Native.Nat.{ℕ, zero, suc, ◌<◌}
use native.Mathlib.Omega.{arith}
use lib.ListN.{replicate}
use borrow.Author.Tests.{not-true}
use Rattle.answer.proofs.Bools.{by_eq, and_parts, pick-keeps}
use Rattle.lists.specs.Kinds.{is_among}
use Rattle.lists.specs.Bytes.{part}
use Rattle.message.specs.Layout.{acknowledgement_length}
use Rattle.message.specs.Writing.{encode, length_of, is_message}
use Rattle.message.proofs.Stores.{joined_length}
use Rattle.switch.specs.Calls.{receives, writes}
use Rattle.switch.specs.Writing.{acknowledgement, acknowledgement_written}
use Rattle.switch.proofs.Sent.{sent-bytes}
use Rattle.controller.specs.Calls.{writes_share}
use Rattle.controller.specs.Calls as controller
use Rattle.controller.specs.Readiness.{ready_for}
use Rattle.controller.specs.Writing.{share_written}
use Rattle.controller.specs.declared.Undone.{Undone}
use Rattle.controller.proofs.Sent.{share-there, ready_sent, share-bytes}
use Rattle.protocol.specs.Runs.{run, Sometime, Rounds}
use Rattle.protocol.proofs.Runs.{now, later}
use Rattle.domain.specs.Settings.{Decision, Setting, Valid, Keeps, switch_keys, controller_keys}
use Rattle.domain.specs.Calls.{Call, at_switch, at_controller, Run, start, step}
use Rattle.domain.specs.Premises.{SwitchWrote, ControllerWrote, InRun, Unforged, Premises}
use Rattle.domain.specs.Premises as premises
use Rattle.domain.specs.Rounds.{acknowledgement_now, share_now, Delivered, Round}
use Rattle.domain.specs.Claim.{changes_of, answered, unmade, AllBrought}
use Rattle.domain.proofs.Reached.{Begun, Reached, run_reached}
use Rattle.domain.proofs.Wrote.{entry, logged, share-wrote, switch-wrote}
use Rattle.domain.proofs.Delivered.{switch-key, controller-key, acknowledgement-answered}
use Rattle.domain.proofs.Turns.{Fair, walked}
use Rattle.domain.proofs.Theorem.{demand3}
use Rattle.witness.specs.Deliveries.{Honest}
use Rattle.witness.specs.Played.{tells, shares, for_each, first_half, second_half, round, rounds}
use Rattle.witness.proofs.Deliveries.{honest_call, share-arrives, switch-arrives}
use Rattle.witness.proofs.Extended.{NoDecision, fair_join, fair_call, premises_join}

module _ (S : Setting) (v : Valid S) where
  pub nothing_fair : (r : Run) → Begun S r → Fair S v r []
  nothing_fair r b = record { in_run = tt; unforged = tt; begun = b }

  -- a list of calls for each number below k: within the premises if each is, wherever it begins
  pub each_fair : (k : ℕ) (calls : Run → ℕ → List Call)
      → ((u : Run) → Reached S u → Begun S u → (i : ℕ) → i < k → Fair S v u (calls u i))
      → (r : Run) → Reached S r → Begun S r → Fair S v r (for_each S k calls r)
  unfolding for_each
  each_fair zero calls fair r R b = nothing_fair r b
  each_fair (suc k) calls fair r R b =
      let f = fair r R b k (omega arith) in
      fair_join S v r (calls r k) _ f
      (each_fair k calls (λ u U c i l. fair u U c i (omega arith)) (run (step S) r (calls r k))
      (walked S v r R (calls r k) f).reached f.begun)

  -- and with a moment of each of them among its own
  each_moment : (M : Run → List Call → Type 0) (k : ℕ) (calls : Run → ℕ → List Call) (i : ℕ) → i < k
      → ((u : Run) (rest : List Call) → Sometime (step S) M u (calls u i ++ rest))
      → (r : Run) (rest : List Call) → Sometime (step S) M r (for_each S k calls r ++ rest)
  unfolding for_each
  each_moment M zero calls i l moment r rest = absurd (omega arith)
  each_moment M (suc k) calls i l moment r rest =
      let after = run (step S) r (calls r k) in
      rw (append_assoc (calls r k))
      (by_eq i k
      (λ e. subst (λ (j : ℕ). Sometime (step S) M r (calls r j ++ (for_each S k calls after ++ rest))) e
      (moment r (for_each S k calls after ++ rest)))
      (λ other. later (step S) M r (calls r k) _ (each_moment M k calls i (omega arith) moment after rest)))

  -- two calls, the second of which brings what it may
  at_once : (r : Run) → Begun S r → (x y : Call) → InRun S r x → Unforged S r x → NoDecision x
      → InRun S (step S r x) y → Honest S (step S r x) y → NoDecision y → Fair S v r (x ∷ y ∷ [])
  at_once r b x y h unforged quiet k honest silent =
      let f = fair_call S v r x h unforged quiet b in
      fair_join S v r (x ∷ []) (y ∷ []) f
      (fair_call S v (step S r x) y k (honest_call S (step S r x) y honest) silent f.begun)

  module _ (r : Run) (R : Reached S r) (b : Begun S r) (s c : ℕ) (l : s < 16) (keeps : Keeps S c) where
    -- an acknowledgement that is written and arrives
    abbrev acknowledging : Call
    acknowledging = at_switch s (writes acknowledgement c (replicate acknowledgement_length 0) 0)

    acknowledgement-arrives : Fair S v r
        (acknowledging ∷ at_controller c (controller.receives (encode (S.key c s) (acknowledgement_now r s c))) ∷ [])
    acknowledgement-arrives =
        let frame : List ℕ = replicate acknowledgement_length 0 in
        let t = r.switches s in
        let m = acknowledgement_now r s c in
        let bytes = encode (S.key c s) m in
        let none = acknowledgement-answered S v r s c l keeps.0 (R.switches s l) frame 0 (omega arith) in
        let whole : part acknowledgement_length 0 (acknowledgement_written t (switch_keys S s) c frame 0).1 ≡ bytes =
        sent-bytes t (switch_keys S s) c m true frame 0 none
        ∙ ap (λ (key : List ℕ). encode key m) (switch-key S v s c l keeps.0) in
        let kept = ap₂ (entry acknowledging) none whole in
        let next = step S r acknowledging in
        let wrote : SwitchWrote next.log s c bytes =
        rw (logged S r acknowledging) (premises.by_switch {kind = acknowledgement} (Memᴰ.head (sym kept))) in
        let named = rw whole at (switch-wrote S r R frame 0 acknowledgement s c l none) in
        at_once r b acknowledging (at_controller c (controller.receives bytes)) l tt tt keeps
        (switch-arrives S next s c bytes named wrote) tt

    -- a share that is written and arrives
    abbrev sharing : Call
    sharing = at_controller c (writes_share s (replicate (length_of (share_now r c s)) 0) 0)

    share_comes : is_message (share_now r c s) ≡ true
        → Fair S v r (sharing ∷ at_switch s (receives (encode (S.key c s) (share_now r c s))) ∷ [])
    share_comes there =
        let t = r.controllers c in
        let frame : List ℕ = replicate (length_of (share_now r c s)) 0 in
        let bytes = encode (S.key c s) (share_now r c s) in
        let some = share-there t.id s (ready_for t s) there in
        let none = ready_sent t (controller_keys S c) s frame 0 (R.controllers c keeps).ok
        (joined_length (S.key c) 16 (v.keys c keeps.0)) l (rw some.1 (omega arith)) some.0 some.1 in
        let whole : part (length_of (share_now r c s)) 0 (share_written t (controller_keys S c) s frame 0).1 ≡ bytes =
        share-bytes t (controller_keys S c) s frame 0 none
        ∙ ap (λ (key : List ℕ). encode key (share_now r c s)) (controller-key S v c s keeps.0 l) in
        let kept = ap₂ (entry sharing) none whole in
        let next = step S r sharing in
        let wrote : ControllerWrote next.log c s bytes =
        rw (logged S r sharing) (premises.by_controller (Memᴰ.head (sym kept))) in
        let named = rw whole at (share-wrote S r R frame 0 c s keeps none) in
        at_once r b sharing (at_switch s (receives bytes)) keeps tt tt l (share-arrives S next s c bytes named wrote) tt

  -- the two halves of a round
  tells_fair : (s : ℕ) → s < 16 → (r : Run) → Reached S r → Begun S r → (c : ℕ) → c < S.n → Fair S v r (tells S s r c)
  tells_fair s l r R b c known =
      pick-keeps (Fair S v r) (S.strays c) _ _ (λ e. nothing_fair r b)
      (λ e. acknowledgement-arrives r R b s c l (known, e))

  pub shares_fair : (s : ℕ) → s < 16 → (r : Run) → Reached S r → Begun S r → (c : ℕ) → c < S.n
      → Fair S v r (shares S s r c)
  shares_fair s l r R b c known =
      pick-keeps (Fair S v r) (not (S.strays c) && is_message (share_now r c s)) _ _
      (λ e. let both = and_parts (not (S.strays c)) (is_message (share_now r c s)) e in
      share_comes r R b s c l (known, not-true _ both.0) both.1)
      (λ e. nothing_fair r b)

  pub first_fair : (r : Run) → Reached S r → Begun S r → Fair S v r (first_half S r)
  first_fair = each_fair _ _ (λ u U b s l. each_fair S.n (tells S s) (tells_fair s (omega arith)) u U b)

  second_fair : (r : Run) → Reached S r → Begun S r → Fair S v r (second_half S r)
  second_fair = each_fair _ _ (λ u U b s l. each_fair S.n (shares S s) (shares_fair s (omega arith)) u U b)

  round_fair : (r : Run) → Reached S r → Begun S r → Fair S v r (round S r)
  round_fair r R b =
      let f = first_fair r R b in
      fair_join S v r (first_half S r) _ f
      (second_fair (run (step S) r (first_half S r)) (walked S v r R (first_half S r) f).reached f.begun)

  pub rounds_fair : (k : ℕ) (r : Run) → Reached S r → Begun S r → Fair S v r (rounds S k r)
  unfolding rounds
  rounds_fair zero r R b = nothing_fair r b
  rounds_fair (suc k) r R b =
      let f = round_fair r R b in
      fair_join S v r (round S r) _ f
      (rounds_fair k (run (step S) r (round S r)) (walked S v r R (round S r) f).reached f.begun)

  -- in which what each end would write reaches the other
  module _ (s c : ℕ) (l : s < 16) (keeps : Keeps S c) where
    abbrev Told : Run → List Call → Type 0
    Told u rest = is_message (acknowledgement_now u s c) ≡ true
        → Memᴰ (at_controller c (controller.receives (encode (S.key c s) (acknowledgement_now u s c)))) rest

    abbrev Sent : Run → List Call → Type 0
    Sent u rest = is_message (share_now u c s) ≡ true
        → Memᴰ (at_switch s (receives (encode (S.key c s) (share_now u c s)))) rest

    pub told : (r : Run) → Delivered S (S.key c s) (λ u. acknowledgement_now u s c)
        (λ bytes. at_controller c (controller.receives bytes)) r (first_half S r)
    told r =
        subst (Sometime (step S) Told r) (append-nil (first_half S r))
        (each_moment Told _ _ s (omega arith)
        (each_moment Told S.n (tells S s) c keeps.0
        (λ u rest. rw keeps.1 (now (step S) Told u _ (λ e. Memᴰ.tail (Memᴰ.head refl))))) r [])

    -- the shares for s alone, with any calls behind them
    shared : (r : Run) (rest : List Call) → Sometime (step S) Sent r (for_each S S.n (shares S s) r ++ rest)
    shared =
        each_moment Sent S.n (shares S s) c keeps.0
        (λ u rest. now (step S) Sent u (shares S s u c ++ rest) (λ e.
        rw (keeps.1, e) (Memᴰ.tail (Memᴰ.head refl))))

    pub shared_here : (r : Run) → Delivered S (S.key c s) (λ u. share_now u c s)
        (λ bytes. at_switch s (receives bytes)) r (for_each S S.n (shares S s) r)
    shared_here r = subst (Sometime (step S) Sent r) (append-nil (for_each S S.n (shares S s) r)) (shared r [])

    sent : (r : Run) → Delivered S (S.key c s) (λ u. share_now u c s) (λ bytes. at_switch s (receives bytes)) r (second_half S r)
    sent r =
        subst (Sometime (step S) Sent r) (append-nil (second_half S r))
        (each_moment Sent _ _ s (omega arith) shared r [])

  round_full : (r : Run) → Round S r (round S r)
  round_full r c keeps = record {
    first = first_half S r;
    second = second_half S (run (step S) r (first_half S r));
    cut = refl;
    acknowledged = λ s l. told s c l keeps r;
    shared = λ s l. sent s c l keeps (run (step S) r (first_half S r));
  }

  pub rounds_full : (k : ℕ) (r : Run) → Rounds (step S) (Round S) k r (rounds S k r)
  unfolding rounds
  rounds_full zero r = tt
  rounds_full (suc k) r =
      let after = run (step S) r (round S r) in
      ([], round S r, rounds S k after, refl, round_full r, rounds_full k after)

  module _ (calls : List Call) (p : Premises S calls) where
    abbrev reached : Run
    reached = run (step S) (start S) calls

    -- a run goes on with as many full rounds as one likes
    pub rounds-follow : (k : ℕ) → Premises S (calls ++ rounds S k reached)
    rounds-follow k =
        premises_join S v calls _ p (rounds_fair k reached (run_reached S v calls p) p.beginning)

    -- and so, where the controllers were brought the same decisions, to where all changes of these are made
    pub brought_to_end : (ds : List Decision) → AllBrought S ds reached
        → (u : Undone) → Memᴰ u (changes_of S ds)
        → is_among u.number (answered S (run (step S) (start S)
        (calls ++ rounds S (unmade S (changes_of S ds) reached) reached))) ≡ true
    brought_to_end ds same =
        let k = unmade S (changes_of S ds) reached in
        (demand3 S v).live calls (rounds S k reached) (rounds-follow k) ds same (rounds_full k reached)
