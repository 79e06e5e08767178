-- Full rounds of a run are full rounds of the protocol: a moment of the one is a moment of the other, and what is
-- delivered in the one is delivered in the other. Assumes nothing.
use mathlib.Core.Path.{◌≡◌, refl, sym, ap, ◌∙◌, subst}
use mathlib.Core.Bool.{true, false}
use mathlib.Core.List.Memᴰ
use mathlib.Core.List.{List, [], ◌∷◌, ◌++◌, Memᴰ}
use mathlib.Core.Logic.{inl, inr, ⊎_elim}
use Prim.Native.Nat.{ℕ, zero, suc, ◌<◌}
use Rattle.flow.specs.declared.Rule.{Rule}
use Rattle.flow.specs.declared.Table.{Table}
use Rattle.message.specs.Writing.{encode, is_message}
use Rattle.message.specs.declared.Message.{Message}
use Rattle.switch.specs.Calls as switch-calls
use Rattle.controller.specs.Calls as controller-calls
use Rattle.protocol.specs.Runs.{run, Every, Sometime, Rounds}
use Rattle.protocol.proofs.Ends as protocol
use Rattle.protocol.proofs.Worlds as protocol-worlds
use Rattle.protocol.proofs.Claims as protocol-claims
use Rattle.protocol.proofs.Runs.{run-append, every_append}
use Rattle.domain.specs.Settings.{Setting, Valid, Keeps}
use Rattle.domain.specs.Calls.{Call, at_switch, at_controller, Run, start, step}
use Rattle.domain.specs.Premises.{InRun, Unforged, Premises}
use Rattle.domain.specs.Rounds.{acknowledgement_now, share_now, Delivered, Turn, Round}
use Rattle.domain.proofs.View.{domain_of, view, seen}
use Rattle.domain.proofs.Agreed.{change-fine}
use Rattle.domain.proofs.Reached.{Begun, Reached, Walked, begun_early, ranged, last_small, call_seen}
use Rattle.domain.proofs.Reached.{call_reached}
use Rattle.domain.proofs.Reached.{seen_all, walk}
use Rattle.domain.proofs.Delivered.{acknowledgement-delivered, share-there, share-delivered}

abbrev World : Type 0
World = protocol-worlds.World Rule Table

abbrev Calls : Type 0
Calls = List (protocol-worlds.Call Rule)

module _ (S : Setting) (v : Valid S) where
  abbrev D : protocol.Domain Rule Table
  D = domain_of S

  -- what the protocol sees of a list of calls, and its runs
  abbrev calls : Run → List Call → Calls
  calls r xs = seen_all S v r xs

  abbrev runs : World → Calls → World
  runs w xs = run (protocol-worlds.step D) w xs

  -- a list of calls from a state on, within the premises
  pub record Fair (r : Run) (xs : List Call) : Type 0 where
    pub in_run : Every (step S) (InRun S) r xs
    pub unforged : Every (step S) (Unforged S) r xs
    pub begun : Begun S (run (step S) r xs)

  pub premises_fair : (xs : List Call) → Premises S xs → Fair (start S) xs
  premises_fair xs p = record { in_run = p.in_run; unforged = p.unforged; begun = p.beginning }

  pub fair_first : (r : Run) (xs ys : List Call) → Fair r (xs ++ ys) → Fair r xs
  fair_first r xs ys f = record {
    in_run = (every_append (step S) (InRun S) r xs ys f.in_run).0;
    unforged = (every_append (step S) (Unforged S) r xs ys f.unforged).0;
    begun = begun_early S (run (step S) r xs) ys (rw (run-append (step S) r xs ys) at f.begun);
  }

  pub fair_rest : (r : Run) (xs ys : List Call) → Fair r (xs ++ ys) → Fair (run (step S) r xs) ys
  fair_rest r xs ys f = record {
    in_run = (every_append (step S) (InRun S) r xs ys f.in_run).1;
    unforged = (every_append (step S) (Unforged S) r xs ys f.unforged).1;
    begun = rw (run-append (step S) r xs ys) at f.begun;
  }

  pub walked : (r : Run) → Reached S r → (xs : List Call) → Fair r xs → Walked S v r xs
  walked r R xs f = walk S v r R xs f.in_run f.unforged f.begun

  -- a run of two lists is seen one after the other
  seen_append : (r : Run) (xs ys : List Call)
      → calls r (xs ++ ys) ≡ calls r xs ++ calls (run (step S) r xs) ys
  unfolding seen_all
  seen_append r [] ys = refl
  seen_append r (x ∷ xs) ys = ap (λ l. seen S r x ∷ l) (seen_append (step S r x) xs ys)

  -- a call that is seen as one thing whenever it is made
  seen_there : (y : Call) (z : protocol-worlds.Call Rule) → ((u : Run) → seen S u y ≡ z) → (r : Run) (xs : List Call)
      → Memᴰ y xs → Memᴰ z (calls r xs)
  unfolding seen_all
  seen_there y z is r [] h = absurd (Memᴰ.not-nil h)
  seen_there y z is r (x ∷ xs) h =
      ⊎_elim (λ e. Memᴰ.head (sym (is r) ∙ ap (seen S r) e))
      (λ t. Memᴰ.tail (seen_there y z is (step S r x) xs t)) (Memᴰ.cases_cons h)

  -- a moment of a run is a moment of the protocol's
  moment_seen : (P : Run → List Call → Type 0) (Q : World → Calls → Type 0)
      → ((u : Run) → Reached S u → Begun S u → (rest : List Call) → P u rest → Q (view u) (calls u rest))
      → (r : Run) → Reached S r → (xs : List Call) → Fair r xs → Sometime (step S) P r xs
      → Sometime (protocol-worlds.step D) Q (view r) (calls r xs)
  unfolding seen_all
  moment_seen P Q now r R [] f h = now r R f.begun [] h
  moment_seen P Q now r R (x ∷ xs) f h =
      let b = begun_early S (step S r x) xs f.begun in
      let s = call_seen S v r R x f.in_run.0 f.unforged.0 b in
      let R2 = call_reached S v r R x f.in_run.0 f.unforged.0 b in
      ⊎_elim (λ p. inl (now r R (begun_early S r (x ∷ xs) f.begun) (x ∷ xs) p))
      (λ q. inr (subst (λ w. Sometime (protocol-worlds.step D) Q w (calls (step S r x) xs)) s.is
      (moment_seen P Q now (step S r x) R2 xs (fair_rest r (x ∷ []) xs f) q))) h

  -- what a delivery says of a moment
  abbrev Brings : List ℕ → (Run → Message) → (List ℕ → Call) → Run → List Call → Type 0
  Brings key now receives u rest = is_message (now u) ≡ true → Memᴰ (receives (encode key (now u))) rest

  -- the acknowledgement of a number's switch is among the calls still to come
  abbrev Told : ℕ → ℕ → World → Calls → Type 0
  Told c k w rest =
      Memᴰ (protocol-worlds.takes_acknowledgement c (D.switch k) (w.switches (D.switch k)).last) rest

  -- where each switch's acknowledgement reaches a controller, that of a number's switch does in the protocol
  pub told_seen : (c : ℕ) → c < S.n → (r : Run) → Reached S r → (xs : List Call) → Fair r xs
      → ((s : ℕ) → s < 16 → Delivered S (S.key c s) (λ u. acknowledgement_now u s c)
      (λ bytes. at_controller c (controller-calls.receives bytes)) r xs)
      → (k : ℕ) → protocol-worlds.Agreed D k → Sometime (protocol-worlds.step D) (Told c k) (view r) (calls r xs)
  told_seen c l r R xs f told k a =
      let s = D.switch k in
      let known = (change-fine S v (ranged S v) k a).known in
      moment_seen (Brings (S.key c s) (λ u. acknowledgement_now u s c)
      (λ bytes. at_controller c (controller-calls.receives bytes))) (Told c k)
      (λ u U begun rest p.
      let fine = U.switches s known in
      seen_there _ _ (acknowledgement-delivered S v u s c known l fine (last_small S v u U s)) u rest (p refl))
      r R xs f (told s known)

  -- the share of a ready number is among the calls still to come
  abbrev Comes : ℕ → ℕ → World → Calls → Type 0
  Comes c k w rest = protocol-worlds.Ready D (w.controllers c) k
      → Memᴰ (protocol-worlds.takes_share (D.switch k) c k (D.content k)) rest

  -- where a controller's share for the switch of a number reaches that switch, it does in the protocol
  pub shared_seen : (c : ℕ) → Keeps S c → (r : Run) → Reached S r → (xs : List Call) → Fair r xs → (k : ℕ)
      → Delivered S (S.key c (D.switch k)) (λ u. share_now u c (D.switch k))
      (λ bytes. at_switch (D.switch k) (switch-calls.receives bytes)) r xs
      → Sometime (protocol-worlds.step D) (Comes c k) (view r) (calls r xs)
  shared_seen c keeps r R xs f k shared =
      moment_seen (Brings (S.key c (D.switch k)) (λ u. share_now u c (D.switch k))
      (λ bytes. at_switch (D.switch k) (switch-calls.receives bytes))) (Comes c k)
      (λ u U begun rest p ready.
      let b = begun c keeps in
      let fine = U.controllers c keeps in
      seen_there _ _ (share-delivered S v u c keeps.0 (ranged S v) _ b.0 b.1 fine k ready) u rest
      (p (share-there S v u c keeps.0 (ranged S v) _ b.0 b.1 fine k ready)))
      r R xs f shared

  -- a full round is one of the protocol's
  module _ (r : Run) (R : Reached S r) (xs : List Call) (f : Fair r xs) (round : Round S r xs) where
    module _ (c : ℕ) (l : c < S.n) (keeps : S.strays c ≡ false) where
      abbrev turn : Turn S c r xs
      turn = round c (l, keeps)

      abbrev middle : Run
      middle = run (step S) r turn.first

      both : Fair r (turn.first ++ turn.second)
      both = subst (Fair r) turn.cut f

      early : Fair r turn.first
      early = fair_first r turn.first turn.second both

      turn_shared : (k : ℕ) → protocol-worlds.Agreed D k
          → Sometime (protocol-worlds.step D) (Comes c k) (view middle) (calls middle turn.second)
      turn_shared k a =
          shared_seen c (l, keeps) middle (walked r R turn.first early).reached turn.second
          (fair_rest r turn.first turn.second both) k
          (turn.shared (D.switch k) (change-fine S v (ranged S v) k a).known)

    round_seen : protocol-claims.Round D (view r) (calls r xs)
    round_seen c i serves =
        let l = serves.known in
        let keeps = serves.keeps in
        let t = round c (l, keeps) in
        record {
          first = calls r t.first;
          second = calls (middle c l keeps) t.second;
          cut = ap (calls r) t.cut ∙ seen_append r t.first t.second;
          acknowledged = told_seen c l r R t.first (early c l keeps) t.acknowledged;
          shared = λ k still.
              subst (λ w. Sometime (protocol-worlds.step D) (Comes c k) w (calls (middle c l keeps) t.second))
              (walked r R t.first (early c l keeps)).is (turn_shared c l keeps k still.agreed);
        }

  -- and so are any number of rounds, one after the other
  pub rounds_seen : (k : ℕ) (r : Run) → Reached S r → (xs : List Call) → Fair r xs
      → Rounds (step S) (Round S) k r xs
      → Rounds (protocol-worlds.step D) (protocol-claims.Round D) k (view r) (calls r xs)
  rounds_seen zero r R xs f rounds = tt
  rounds_seen (suc k) r R xs f (gap, turns, rest, cut, round, more) =
      let f0 = subst (Fair r) cut f in
      let a = run (step S) r gap in
      let b = run (step S) a turns in
      let f1 = fair_rest r gap (turns ++ rest) f0 in
      let ft = fair_first a turns rest f1 in
      let wa = walked r R gap (fair_first r gap (turns ++ rest) f0) in
      let wb = walked a wa.reached turns ft in
      let pieces : calls r xs ≡ calls r gap ++ (calls a turns ++ calls b rest) =
      ap (calls r) cut
      ∙ seen_append r gap (turns ++ rest)
      ∙ ap (λ l. calls r gap ++ l) (seen_append a turns rest) in
      let end : view b ≡ runs (runs (view r) (calls r gap)) (calls a turns) =
      wb.is ∙ ap (λ w. runs w (calls a turns)) wa.is in (
        calls r gap,
        calls a turns,
        calls b rest,
        pieces,
        subst (λ w. protocol-claims.Round D w (calls a turns)) wa.is
            (round_seen a wa.reached turns ft round),
        subst (λ w. Rounds (protocol-worlds.step D) (protocol-claims.Round D) k w (calls b rest)) end
            (rounds_seen k b wb.reached rest (fair_rest a turns rest f1) more),
      )
