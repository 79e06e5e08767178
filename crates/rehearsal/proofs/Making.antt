-- Messages made and delivered with the keys of a rehearsal.
use mathlib.Core.Path.{◌≡◌, refl, sym, ap, ◌∙◌}
use mathlib.Core.List.{List, [], ◌∷◌, ◌++◌}
use Prim.Native.Nat.{ℕ, zero, suc, ◌+◌, ◌*◌, ◌≤◌, ◌<◌}
use native.Mathlib.Omega.{arith}
use borrow.Author.Tests.{ne_eqb}
use lib.Dec.{eqb}
use lib.ListN.{length, take, drop, get_or, replicate}
use lib.Seq.{take_all, take-append-le}
use Rattle.std.specs.Prelude.{Ok, Err}
use Rattle.answer.specs.Ask.{pick}
use Rattle.answer.proofs.Bools.{by_le}
use Rattle.lists.specs.Arrays.{pad}
use Rattle.lists.specs.Frames.{placed}
use Rattle.message.specs.Keys.{key_of, joined}
use Rattle.message.specs.Layout.{share_length, acknowledgement_length}
use Rattle.message.proofs.Stores.{joined_length}
use Rattle.switch.specs.Receiving as switch-receives
use Rattle.switch.specs.Writing.{acknowledgement_written}
use Rattle.switch.specs.declared.Reply as switch
use Rattle.switch.specs.declared.Switch.{Switch}
use Rattle.controller.specs.States as controllers
use Rattle.controller.specs.Receiving as controller-receives
use Rattle.controller.specs.Writing.{share_written}
use Rattle.controller.specs.declared.Reply as controller
use Rattle.controller.specs.declared.Controller.{Controller}
use Rattle.controller.proofs.Sent.{frame_is}
use Rattle.rehearsal.specs.Worlds.{switch_keys, controller_keys, longest_share}
use Rattle.rehearsal.specs.Steps.{delivered, share_made, reported}
use Rattle.rehearsal.proofs.Shares.{current_share, writing, written-length}

-- an element that is there, whatever stands where none is
pub get_d_any : {A : Type 0} (l : List A) (i : ℕ) (d e : A) → i < length l → get_or l i d ≡ get_or l i e
get_d_any [] i d e h = absurd (omega arith)
get_d_any (x ∷ l) zero d e h = refl
get_d_any (x ∷ l) (suc i) d e h = get_d_any l i d e (omega arith)

-- the first n keys of more
keys-first : (key : ℕ → List ℕ) → ((i : ℕ) → length (key i) ≡ 32) → (n m : ℕ) → n ≤ m
    → take (32 * n) (joined key m) ≡ joined key n
unfolding joined
keys-first key long zero zero h = refl
keys-first key long (suc n) zero h = absurd (omega arith)
keys-first key long n (suc m) h =
    by_le n m
    (λ below.
    take-append-le (32 * n) (joined key m) (key m) (omega (arith, joined_length key m (λ i l. long i)))
    ∙ keys-first key long n m below)
    (λ above.
    let e : n ≡ suc m = omega arith in
    rw e (take_all (32 * suc m) (joined key (suc m)) (omega (arith, joined_length key (suc m) (λ i l. long i)))))

-- sixteen keys, of which n are lent
lent : (n to : ℕ) (keys : List ℕ) → n ≤ 16 → keys ≡ joined (λ (i : ℕ). key_of i to) 16
    → take (32 * n) keys ≡ switch_keys n to
lent n to keys few e = rw e (keys-first (λ (i : ℕ). key_of i to) (λ i. refl) n 16 few)

pub delivered_by : (n to : ℕ) (s : Switch) (bytes : List ℕ) {keys : List ℕ} {r : switch.Reply} → n ≤ 16
    → keys ≡ joined (λ (i : ℕ). key_of i to) 16 → r ≡ switch-receives.received_by s (take (32 * n) keys) bytes
    → r ≡ delivered n s to bytes
delivered_by n to s bytes few e h = rw (← lent n to _ few e) h

-- bytes written to the front of an array of zeros
pub padded : (n : ℕ) (bytes : List ℕ) → length bytes ≤ n → bytes ++ drop (length bytes) (replicate n 0) ≡ pad n 0 bytes
unfolding pad
padded zero [] h = refl
padded zero (x ∷ bytes) h = absurd (omega arith)
padded (suc n) [] h = ap (λ (l : List ℕ). 0 ∷ l) (padded n [] (omega arith))
padded (suc n) (x ∷ bytes) h = ap (λ (l : List ℕ). x ∷ l) (padded n bytes (omega arith))

in_front : (n : ℕ) (bytes : List ℕ) → length bytes ≤ n → placed bytes (replicate n 0) 0 ≡ pad n 0 bytes
in_front n bytes h =
    let e : 0 + length bytes ≡ length bytes = omega arith in
    rw e (padded n bytes h)

-- a share made from what its controller wrote into an array of zeros
module _ (c : Controller) (from to : ℕ) {keys : List ℕ} {r : controller.Reply} {frame : List ℕ}
    (own : keys ≡ controller_keys from)
    (written : (r, frame) ≡ share_written c keys to (replicate longest_share 0) 0) where
  same : (r, frame) ≡ writing c from to
  same = written ∙ rw own

  same_answer : r.answer ≡ (writing c from to).0.answer
  same_answer = ap (λ (w : controller.Reply × List ℕ). w.0.answer) same

  pub share-refused : (r.answer ≡ 0 → ⊥) → Err r.answer ≡ share_made c from to
  unfolding share_made
  share-refused refused = rw (← same_answer, ne_eqb r.answer 0 refused)

  module _ (passed : r.answer ≡ 0) where
    answered : (writing c from to).0.answer ≡ 0
    answered = sym same_answer ∙ passed

    frame_stored : frame ≡ pad longest_share 0 (current_share c from to)
    frame_stored =
        ap (λ (w : controller.Reply × List ℕ). w.1) same
        ∙ frame_is c (controller_keys from) to (replicate longest_share 0) 0 answered
        ∙ in_front longest_share (current_share c from to) (omega (arith, written-length c from to answered))

    pub share-made : Ok (record { bytes = frame; length = share_length }) ≡ share_made c from to
    unfolding share_made
    share-made = rw (answered, frame_stored, written-length c from to answered)

pub reported_by : (n from to : ℕ) (s : Switch) (c : Controller) {keys : List ℕ} {r : switch.Reply} {frame : List ℕ}
    → n ≤ 16 → keys ≡ joined (λ (i : ℕ). key_of i from) 16
    → (r, frame) ≡ acknowledgement_written s (take (32 * n) keys) to (replicate acknowledgement_length 0) 0
    → reported n s c from to
    ≡ pick (eqb r.answer 0) (controller-receives.received_by c (controller_keys to) frame)
    (controllers.unchanged c r.answer)
unfolding reported
reported_by n from to s c {keys} few e h =
    let written = rw (lent n from keys few e) at h in
    ap
    (λ (w : switch.Reply × List ℕ).
    pick (eqb w.0.answer 0) (controller-receives.received_by c (controller_keys to) w.1)
    (controllers.unchanged c w.0.answer))
    (sym written)
