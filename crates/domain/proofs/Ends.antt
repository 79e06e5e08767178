-- What holds of the ends between calls besides the protocol's invariant: they pass question 20, and a controller that
-- keeps the rules has come along the agreed list as far as it was brought decisions: it holds those of the agreed
-- changes so far that are not done. Assumes nothing.
use mathlib.Core.Path.{◌≡◌, refl, sym, ap, ◌∙◌}
use mathlib.Core.Bool.{true, not}
use mathlib.Core.List.{List, [], ◌∷◌, ◌++◌, append-nil}
use Prim.Native.Nat.{ℕ, ◌≤◌, ◌<◌}
use native.Mathlib.Omega.{arith}
use lib.Dec.{leb, eqb}
use lib.ListN.{length, set, length-append, length-set}
use borrow.Author.Tests.{leb-true, leb-false, lt-ltb, le-leb, eq-eqb, ne_eqb}
use Rattle.answer.specs.Ask.{Question, reply}
use Rattle.answer.proofs.Asked as ask
use Rattle.answer.proofs.Asked.{asked, none_asked, reply-append, by_replies}
use Rattle.answer.proofs.Bools.{by_bool}
use Rattle.lists.specs.Counts.{passing}
use Rattle.playbook.proofs.Kept.{read-stored}
use Rattle.switch.specs.States as switch
use Rattle.switch.specs.States.{switch_ok}
use Rattle.switch.specs.Calls as switch-calls
use Rattle.switch.specs.declared.Switch.{Switch}
use Rattle.switch.proofs.Kept as switch_kept
use Rattle.controller.specs.Changes.{undone_of, still_undone}
use Rattle.controller.specs.States as controller
use Rattle.controller.specs.States.{unchanged, controller_ok}
use Rattle.controller.specs.Receiving.{received_by}
use Rattle.controller.specs.Decisions.{given_by, held_after, agreement_questions, decided, decided_by}
use Rattle.controller.specs.Writing.{share_written}
use Rattle.controller.specs.Calls as controller-calls
use Rattle.controller.specs.declared.Controller.{Controller}
use Rattle.controller.specs.declared.Reply.{Reply}
use Rattle.controller.specs.declared.Undone.{Undone}
use Rattle.controller.proofs.Effects.{acknowledge-leaves, decided-leaves}
use Rattle.controller.proofs.Kept as controller-kept
use Rattle.controller.proofs.Sent.{written_state}
use Rattle.controller.proofs.Taken.{Received, refused, offered, repeated, acknowledged, received}
use Rattle.domain.specs.Settings.{Decision, Setting, Valid, playbook}
use Rattle.domain.specs.Calls.{at_controller}
use Rattle.domain.specs.Premises.{decision_in, is_brought}
use Rattle.domain.specs.Agreement.{Course, beginning, next, course_questions, onward, advance, along}
use Rattle.domain.proofs.Courses.{along-append}

module _ (S : Setting) where
  -- switch s
  pub record SwitchFine (s : ℕ) (t : Switch) : Type 0 where
    pub id : t.id ≡ s
    pub n : t.n ≡ S.n
    pub ok : switch_ok t ≡ true
    pub slots : length t.slots ≡ 16

  pub switch-set : Valid S → (s : ℕ) → s < 16
      → switch.setup_of s S.n ≡ switch.unchanged (switch.fresh s S.n) 0
  switch-set v s l =
      asked _ _ 20 _ [] (rw (lt-ltb s 16 l, le-leb 1 S.n v.some, le-leb S.n 16 v.few)) ∙ none_asked _ _

  pub switch-start : Valid S → (s : ℕ) → s < 16 → SwitchFine s (switch.setup_of s S.n).state
  switch-start v s l =
      let is = switch-set v s l in
      record {
        id = rw is;
        n = rw is;
        ok = switch_kept.setup-kept s S.n (rw is);
        slots = switch_kept.setup_slots s S.n;
      }

  pub switch-after : (keys : List ℕ) (s : ℕ) (t : Switch) (x : switch-calls.Call) → SwitchFine s t
      → SwitchFine s (switch-calls.reply_to keys t x).state
  switch-after keys s t x f =
      let names = switch_kept.call_names keys t x in
      record {
        id = names.0 ∙ f.id;
        n = names.1 ∙ f.n;
        ok = switch_kept.call_kept keys t x f.ok;
        slots = switch_kept.call_slots keys t x ∙ f.slots;
      }

  -- a controller that has come along the list as far as a
  pub record Follows (a : Course) (t : Controller) : Type 0 where
    pub book : t.playbook ≡ a.playbook
    pub serials : t.progress.serials ≡ a.serials
    pub last : t.progress.last ≡ length a.changes
    pub undone : undone_of t ≡ still_undone t.progress.acknowledged a.changes

  abbrev pub course_of : List Decision → Course
  course_of ds = along (beginning (playbook S)) ds

  -- controller c, brought the decisions ds
  pub record ControllerFine (c : ℕ) (ds : List Decision) (t : Controller) : Type 0 where
    pub id : t.id ≡ c
    pub ok : controller_ok t ≡ true
    pub long : length t.progress.acknowledged ≡ 16
    pub follows : Follows (course_of ds) t

  pub controller-set : Valid S → (c : ℕ) → c < S.n
      → controller.setup_of c S.n (playbook S) ≡ unchanged (controller.fresh c S.n (playbook S)) 0
  controller-set v c l =
      asked _ _ 20 _ [] (rw (le-leb 1 S.n v.some, le-leb S.n 16 v.few, lt-ltb c S.n l)) ∙ none_asked _ _

  pub controller-start : Valid S → (c : ℕ) → c < S.n
      → ControllerFine c [] (controller.setup_of c S.n (playbook S)).state
  unfolding passing
  controller-start v c l =
      let is = controller-set v c l in
      record {
        id = rw is;
        ok = controller-kept.setup-kept c S.n (playbook S) (rw is) (read-stored S.book);
        long = rw is;
        follows = rw is (record { book = refl; serials = refl; last = refl; undone = refl });
      }

  module _ (c : ℕ) (ds : List Decision) (t : Controller) (f : ControllerFine c ds t) where
    -- what is received: an acknowledgement taken, or the state stays
    received_after : (keys bytes : List ℕ) {r : Reply} → Received t keys bytes r → ControllerFine c ds r.state
    received_after keys bytes (refused l) = f
    received_after keys bytes (offered a above) = f
    received_after keys bytes (repeated a old) = f
    received_after keys bytes (acknowledged {s} {number} a above) = record {
      id = f.id;
      ok = controller-kept.acknowledge-kept t f.ok s number;
      long = length-set t.progress.acknowledged s number ∙ f.long;
      follows = record {
        book = f.follows.book;
        serials = f.follows.serials;
        last = f.follows.last;
        undone = acknowledge-leaves t (course_of ds).changes f.follows.undone s number f.ok (omega arith);
      };
    }

    pub reception_after : (keys bytes : List ℕ) → ControllerFine c ds (received_by t keys bytes).state
    reception_after keys bytes = received_after keys bytes (received t keys bytes)

    pub writing_after : (keys : List ℕ) (s : ℕ) (frame : List ℕ) (at : ℕ)
        → ControllerFine c ds (share_written t keys s frame at).0.state
    writing_after keys s frame at = rw (written_state t keys s frame at) f

    -- a decision: taken, refused for want of room, or refused by 12, 22 or 23, and then the agreed list gives nothing
    module _ (s serial cause : ℕ) where
      abbrev decision : Decision
      decision = record { switch = s; serial = serial; cause = cause }

      abbrev course : Course
      course = course_of ds

      given_is : given_by t (s, cause) ≡ next course decision
      given_is = rw (f.follows.book, f.follows.last)

      -- a controller within its limits asks what the agreed list asks, and then for room
      asked_so : decided_by t s serial cause
          ≡ reply (course_questions course decision) (unchanged t)
          (reply ((24, leb (length (held_after t (s, cause))) 64) ∷ []) (unchanged t)
          (unchanged (decided t s serial cause) 0))
      unfolding decided_by
      asked_so =
          asked (unchanged t) _ 20 _ _ f.ok
          ∙ reply-append (agreement_questions t.progress.serials t.progress.last (given_by t (s, cause)) s serial) _ (unchanged t) _
          ∙ ap (λ (qs : List Question). reply qs (unchanged t)
          (reply ((24, leb (length (held_after t (s, cause))) 64) ∷ []) (unchanged t)
          (unchanged (decided t s serial cause) 0)))
          (λ i. agreement_questions (f.follows.serials i) (f.follows.last i) (given_is i) s serial)

      pub by_decision : {C : Type 0}
          → (length (held_after t (s, cause)) ≤ 64 → decided_by t s serial cause ≡ unchanged (decided t s serial cause) 0
          → advance course decision ≡ onward course decision → C)
          → (64 < length (held_after t (s, cause)) → decided_by t s serial cause ≡ unchanged t 24
          → advance course decision ≡ onward course decision → C)
          → ((q : ℕ) → (q ≡ 0 → ⊥) → (q ≡ 24 → ⊥) → decided_by t s serial cause ≡ unchanged t q
          → advance course decision ≡ course → C)
          → C
      by_decision taken full declined =
          let room = leb (length (held_after t (s, cause))) 64 in
          by_replies 24 (course_questions course decision) (unchanged t) _ (λ k. course) (onward course decision) refl refl
          (λ q n m is on. declined q n m (asked_so ∙ is) on)
          (λ is on. by_bool room
          (λ e. taken (leb-true _ _ e) (asked_so ∙ is ∙ asked (unchanged t) _ 24 _ [] e ∙ none_asked _ _) on)
          (λ e. full (leb-false _ _ e) (asked_so ∙ is ∙ ask.refused (unchanged t) _ 24 _ [] e) on))

      -- what is then brought so far
      abbrev more : List Decision
      more = decision_in is_brought c (decided_by t s serial cause).answer
          (at_controller c (controller-calls.manages (controller-calls.decides s serial cause)))

      one_more : course_of (ds ++ decision ∷ []) ≡ advance course decision
      one_more = along-append (beginning (playbook S)) ds (decision ∷ [])

      other_brought : (q : ℕ) → (q ≡ 24 → ⊥) → is_brought q ≡ true
      other_brought q other = ap not (ne_eqb q 24 other)

      brought_more : (q : ℕ) → (q ≡ 24 → ⊥) → (decided_by t s serial cause).answer ≡ q → more ≡ decision ∷ []
      brought_more q other e = rw (e, eq-eqb c c refl, other_brought q other)

      pub decision_after : ControllerFine c (ds ++ more) (decided_by t s serial cause).state
      decision_after =
          by_decision
          (λ room is on.
          let list = ap (λ (l : List Decision). ds ++ l)
          (brought_more 0 (λ z. omega arith) (ap (λ (r : Reply). r.answer) is)) in
          rw (list, is) (record {
            id = f.id;
            ok = controller-kept.decided-kept t f.ok s serial cause room;
            long = f.long;
            follows = rw (one_more ∙ on) (record {
              book = f.follows.book;
              serials = ap (λ (l : List ℕ). set l s serial) f.follows.serials;
              last = rw (length-append, given_is, f.follows.last);
              undone = decided-leaves t course.changes f.follows.undone s serial cause room
                  ∙ ap (λ (l : List Undone). still_undone t.progress.acknowledged (course.changes ++ l)) given_is;
            });
          }))
          (λ large is on.
          let none : more ≡ [] = rw (is, eq-eqb c c refl) in
          rw (none, append-nil, is) f)
          (λ q n m is on.
          let list = ap (λ (l : List Decision). ds ++ l) (brought_more q m (ap (λ (r : Reply). r.answer) is)) in
          rw (list, is) (record {
            id = f.id;
            ok = f.ok;
            long = f.long;
            follows = rw (one_more ∙ on) f.follows;
          }))

      -- the decisions taken so far have the same changes as those brought: one refused by 12, 22 or 23 has none
      pub decision_took : (ts : List Decision) → course_of ds ≡ course_of ts
          → course_of (ds ++ more)
          ≡ course_of (ts ++ decision_in (λ answer. eqb answer 0) c (decided_by t s serial cause).answer
          (at_controller c (controller-calls.manages (controller-calls.decides s serial cause))))
      decision_took ts same =
          let grown = along-append (beginning (playbook S)) ts (decision ∷ [])
          ∙ ap (λ (a : Course). advance a decision) (sym same) in
          by_decision
          (λ room is on.
          rw (is, eq-eqb c c refl) (one_more ∙ sym grown))
          (λ large is on. rw (is, eq-eqb c c refl, append-nil, append-nil) same)
          (λ q n m is on.
          rw (is, eq-eqb c c refl, ne_eqb q 24 m, ne_eqb q 0 n, append-nil) (one_more ∙ on ∙ same))
