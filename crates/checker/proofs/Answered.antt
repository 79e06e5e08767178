-- What the check's answers mean for every run. The agreed changes of a setting's playbook and list, as `agree` lays them
-- out, are read back by `check`, so where it says that all is fine, that is the verdict that the theorems of isolation
-- speak of, and a packet that it says fails is a failure that a run within the premises shows.
use mathlib.Core.Path.{◌≡◌, refl, sym, ap, ◌∙◌}
use mathlib.Core.Bool.{Bool, true, false, ◌&&◌}
use mathlib.Core.List.{List}
use Prim.Native.Nat.{ℕ, ◌≤◌}
use lib.Dec.{leb}
use lib.ListN.{length}
use borrow.Author.Tests.{leb-true}
use Rattle.std.specs.Prelude.{Result, Ok, Err}
use Rattle.answer.specs.Ask.{pick}
use Rattle.answer.proofs.Bools.{and_parts}
use Rattle.controller.specs.declared.Undone.{Undone}
use Rattle.domain.specs.Settings.{Setting, Valid, playbook}
use Rattle.domain.specs.Claim.{agreed}
use Rattle.witness.specs.Reaching.{FewAgreed}
use Rattle.isolation.specs.Networks.{Network, network_ok}
use Rattle.isolation.specs.Traces.{not_lost_past}
use Rattle.isolation.specs.Claim.{Isolated, Wanted, Always, Crosses}
use Rattle.isolation.specs.Check.{Failure, Verdict, fine, fails, undecided}
use Rattle.isolation.specs.Flights.{IsolatedInFlight}
use Rattle.isolation.proofs.Theorem.{always_wanted, always_isolated}
use Rattle.isolation.proofs.InFlight.{isolated_in_flight}
use Rattle.isolation.proofs.Reached.{no_reached}
use Rattle.checker.specs.Layout.{changes_in, network_in}
use Rattle.checker.specs.Checked.{aimed, outcome_of, is_network, checked_of}
use Rattle.checker.specs.Agreeing.{laid_out, in_use, agreed_of}
use Rattle.checker.specs.declared.Agreed.{Agreed}
use Rattle.checker.specs.declared.Aim.{Aim}
use Rattle.checker.specs.declared.Aim.TheVariants.{Resting, Losing, Moving}
use Rattle.checker.specs.declared.FailingPacket.{FailingPacket}
use Rattle.checker.specs.declared.Line.{Line}
use Rattle.checker.specs.declared.PortLink.{PortLink}
use Rattle.checker.specs.declared.Refusal.{Refusal}
use Rattle.checker.specs.declared.Refusal.TheVariants.{Fails, NoNetwork}
use Rattle.checker.proofs.Laid.{agreed_laid, agreed_back}

-- the verdict behind an outcome
yes_fine : (v : Verdict) (left : ℕ) → outcome_of v ≡ Ok left → v ≡ fine left
yes_fine (fine b) left e = let same : b ≡ left = cc in ap fine same
yes_fine (fails f) left e = cc
yes_fine undecided left e = cc

no_fails : (v : Verdict) (packet : FailingPacket) → outcome_of v ≡ Err (Fails packet) → (f : Failure) × (v ≡ fails f)
no_fails (fine b) packet e = cc
no_fails (fails f) packet e = (f, refl)
no_fails undecided packet e = cc

-- an outcome that says more than that there is no network is that of one
answers : (b : Bool) (r told : Result ℕ Refusal) → (Err NoNetwork ≡ told → ⊥) → pick b r (Err NoNetwork) ≡ told
    → (b ≡ true) × (r ≡ told)
answers true r told some e = (refl, e)
answers false r told some e = absurd (some e)

module _ (S : Setting) (v : Valid S) (settled budget : ℕ) (links : List PortLink) (lines : List Line) where
  abbrev N : Network
  N = network_in links lines

  -- what the check answers about the agreed changes as they are laid out, where there is room for all of them
  abbrev pub reply_of : Aim → Agreed → Result ℕ Refusal
  reply_of aim a = pick (leb a.count 256) (checked_of aim settled budget (in_use a) links lines) (Err NoNetwork)

  abbrev reply : Aim → Result ℕ Refusal
  reply aim = reply_of aim (agreed_of (playbook S) S.agreed)

  -- an outcome of a network is that of the verdict on the agreed changes
  record Said (aim : Aim) (told : Result ℕ Refusal) : Type 0 where
    network : network_ok N ≡ true
    verdict : outcome_of (aimed aim (agreed S) settled N budget) ≡ told

  said : (aim : Aim) (told : Result ℕ Refusal) → (Err NoNetwork ≡ told → ⊥) → reply aim ≡ told → Said aim told
  unfolding checked_of
  said aim told some e =
      let us = agreed S in
      let cs = in_use (laid_out us) in
      let r : Result ℕ Refusal = outcome_of (aimed aim (changes_in cs) settled N budget) in
      let room = answers (leb (length us) 256) (checked_of aim settled budget cs links lines) told some
      (sym (ap (reply_of aim) (agreed_laid S)) ∙ e) in
      let both = answers (is_network cs links lines) r told some room.1 in
      let parts = and_parts (leb (length cs) 256 && leb (length links) 256 && leb (length lines) 64) (network_ok N) both.0 in
      record {
        network = parts.1;
        verdict = ap (λ (us : List Undone). outcome_of (aimed aim us settled N budget))
            (sym (agreed_back S v (leb-true _ _ room.0))) ∙ both.1;
      }

  -- all is fine: at every moment of every run within demand 3's premises no packet leaves its client's links
  pub yes_at_rest : (left : ℕ) → reply Resting ≡ Ok left → Always S settled (Isolated N)
  yes_at_rest left e =
      let s = said Resting (Ok left) (λ z. cc) e in
      always_isolated S v N s.network settled budget left (yes_fine _ left s.verdict)

  -- nor one under way, over any number of switches
  pub yes_under_way : (left : ℕ) → reply Moving ≡ Ok left → IsolatedInFlight S settled N
  yes_under_way left e =
      let s = said Moving (Ok left) (λ z. cc) e in
      isolated_in_flight S v N s.network settled budget left (yes_fine _ left s.verdict)

  -- and none is lost past its first switch
  pub yes_none_lost : (left : ℕ) → reply Losing ≡ Ok left → Always S settled (Wanted (λ t. not_lost_past t.entry) N)
  yes_none_lost left e =
      let s = said Losing (Ok left) (λ z. cc) e in
      always_wanted S v N s.network (λ t. not_lost_past t.entry) settled budget left (yes_fine _ left s.verdict)

  -- a packet fails: a run within the premises in which a packet crosses, where at most 64 changes are agreed
  pub no_at_rest : FewAgreed S → settled ≤ length (agreed S) → (packet : FailingPacket)
      → reply Resting ≡ Err (Fails packet) → Crosses S settled N
  no_at_rest few made packet e =
      let s = said Resting (Err (Fails packet)) (λ z. cc) e in
      let y = no_fails (aimed Resting (agreed S) settled N budget) packet s.verdict in
      no_reached S v few settled made N s.network budget y.0 y.1
