-- What a controller holds after every list of calls, whatever bytes were received: of all the changes that decisions
-- gave numbers to, exactly those that are not done. So a change that was given and is not held is done, and so is
-- everything given that a ready change would have to wait for.
use mathlib.Core.Path.{◌≡◌, refl}
use mathlib.Core.Bool.{true, not}
use mathlib.Core.List.{List, [], ◌∷◌, ◌++◌, append-nil, append_assoc}
use Prim.Native.Nat.{ℕ, ◌≤◌}
use native.Mathlib.Omega.{arith}
use lib.Dec.{eqb}
use borrow.Author.Tests.{ltb-false, ne_eqb, not-true}
use Rattle.answer.specs.Ask.{pick}
use Rattle.answer.proofs.Bools.{by_bool, tf}
use Rattle.lists.specs.Counts.{passing}
use Rattle.lists.proofs.Tails.{every_at}
use Rattle.playbook.specs.Storing.{stored_ok}
use Rattle.playbook.specs.declared.Playbook.{Playbook}
use Rattle.controller.specs.Changes.{empty_undone, undone_of, is_undone, still_undone}
use Rattle.controller.specs.States.{setup_of, controller_ok}
use Rattle.controller.specs.Acknowledgements.{acknowledged_of}
use Rattle.controller.specs.Readiness.{waits_for, is_ready}
use Rattle.controller.specs.Decisions.{given_by}
use Rattle.controller.specs.Calls.{decides, Call, receives, writes_share, manages, reply_to, after}
use Rattle.controller.specs.declared.Controller.{Controller}
use Rattle.controller.specs.declared.Reply.{Reply}
use Rattle.controller.specs.declared.Undone.{Undone}
use Rattle.controller.proofs.Waiting.{Stands}
use Rattle.controller.proofs.Staying.{stands_passing}
use Rattle.controller.proofs.Taken.{Received, refused, offered, repeated, acknowledged, received}
use Rattle.controller.proofs.Deciding.{Decided, declined, taken, decision}
use Rattle.controller.proofs.Kept.{setup-good, setup-kept, acknowledge-kept, decided-kept}
use Rattle.controller.proofs.Effects.{acknowledge-leaves, decided-leaves}
use Rattle.controller.proofs.Sent.{written_state}

-- a controller within its limits that holds exactly those of some changes that are not done
pub record Holds (c : Controller) (all : List Undone) : Type 0 where
  pub limits : controller_ok c ≡ true
  pub undone : undone_of c ≡ still_undone c.progress.acknowledged all

-- the changes that a call gives numbers to: those of a decision answered 0
abbrev pub given_in : ℕ → Controller → Call → List Undone
given_in answer c (receives bytes) = []
given_in answer c (manages (decides s serial cause)) = pick (eqb answer 0) (given_by c (s, cause)) []
given_in answer c (writes_share s frame at) = []

module _ (keys : List ℕ) where
  -- those of a list of calls, in their order
  unfoldable pub given_along : Controller → List Call → List Undone
  given_along c [] = []
  given_along c (x ∷ xs) = given_in (reply_to keys c x).answer c x ++ given_along (reply_to keys c x).state xs

  module _ (c : Controller) (all : List Undone) (h : Holds c all) where
    -- each case of a reception and of a decision
    reception_holds : {bytes : List ℕ} {r : Reply} → Received c keys bytes r → Holds r.state all
    reception_holds (refused l) = h
    reception_holds (offered a above) = h
    reception_holds (repeated a old) = h
    reception_holds (acknowledged {s} {number} a above) = record {
      limits = acknowledge-kept c h.limits s number;
      undone = acknowledge-leaves c all h.undone s number h.limits (omega arith);
    }

    decision_holds : {s serial cause : ℕ} {r : Reply} → Decided c s serial cause r
        → Holds r.state (all ++ given_in r.answer c (manages (decides s serial cause)))
    decision_holds (declined {k} l) = rw (ne_eqb k 0 (λ e. omega arith), append-nil) h
    decision_holds {s} {serial} {cause} (taken d) = record {
      limits = decided-kept c h.limits s serial cause d.room;
      undone = decided-leaves c all h.undone s serial cause d.room;
    }

    pub call-holds : (x : Call) → Holds (reply_to keys c x).state (all ++ given_in (reply_to keys c x).answer c x)
    call-holds (receives bytes) = rw append-nil (reception_holds (received c keys bytes))
    call-holds (manages (decides s serial cause)) = decision_holds (decision c s serial cause)
    call-holds (writes_share s frame at) = rw (append-nil, written_state c keys s frame at) h

  -- a list of calls
  pub after_holds : (c : Controller) (all : List Undone) (xs : List Call) → Holds c all
      → Holds (after keys c xs) (all ++ given_along c xs)
  unfolding after given_along
  after_holds c all [] h = rw append-nil h
  after_holds c all (x ∷ xs) h =
      rw (← append_assoc) (after_holds (reply_to keys c x).state _ xs (call-holds c all h x))

  -- from a setup with a playbook that was read
  pub setup-holds : (id n : ℕ) (p : Playbook) → (setup_of id n p).answer ≡ 0 → stored_ok p ≡ true → (xs : List Call)
      → Holds (after keys (setup_of id n p).state xs) (given_along (setup_of id n p).state xs)
  unfolding passing
  setup-holds id n p good stored xs =
      after_holds (setup_of id n p).state [] xs (record {
        limits = setup-kept id n p good stored;
        undone = rw (setup-good id n p good).1 refl;
      })

module _ {c : Controller} {all : List Undone} (h : Holds c all) where
  -- what was given and is not held is done
  pub not_held_done : (u : Undone) → Stands all u → (Stands (undone_of c) u → ⊥)
      → u.number ≤ acknowledged_of c u.switch
  not_held_done u given none =
      by_bool (is_undone c.progress.acknowledged u)
      (λ e. absurd (none (rw h.undone (stands_passing (is_undone c.progress.acknowledged) all u given e))))
      (λ e. ltb-false _ _ e)

  -- so everything that a ready change would have to wait for is done
  pub ready_rest_done : (u v : Undone) → is_ready (undone_of c) u ≡ true → Stands all v → waits_for u v ≡ true
      → v.number ≤ acknowledged_of c v.switch
  ready_rest_done u v ready given waits =
      not_held_done v given (λ held.
      let free = rw held.there at
      (every_at (λ w. not (waits_for u w)) (undone_of c) held.place empty_undone ready held.inside) in
      tf waits (not-true _ free))
