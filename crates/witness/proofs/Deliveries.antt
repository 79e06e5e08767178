-- The tag premise holds of every run in which messages that name a controller which keeps the rules are only ever
-- brought after they were written. What an end wrote names that end and its receiver, so it may arrive at any time
-- later, and again. Assumes nothing.
use mathlib.Core.Path.{◌≡◌, refl, sym, ◌∙◌, subst}
use mathlib.Core.Bool.{true}
use mathlib.Core.List.{List, [], ◌∷◌}
use Prim.Native.Nat.{ℕ}
use Rattle.answer.proofs.Bools.{tf}
use Rattle.message.specs.Reading.{decode}
use Rattle.message.specs.declared.End.TheVariants as ends
use Rattle.message.specs.declared.Message.{Message}
use Rattle.message.specs.declared.Message.TheVariants.{Event, Share, Acknowledgement, Refused}
use Rattle.switch.specs.Calls.{receives, writes, manages}
use Rattle.controller.specs.Calls.{writes_share}
use Rattle.controller.specs.Calls as controller
use Rattle.protocol.specs.Runs.{Every}
use Rattle.domain.specs.Settings.{Setting, Keeps}
use Rattle.domain.specs.Calls.{Call, at_switch, at_controller, Run, step}
use Rattle.domain.specs.Premises.{SwitchWrote, ControllerWrote, FromSwitch, FromController, Unforged}
use Rattle.domain.specs.Premises as premises
use Rattle.witness.specs.Deliveries.{Honest}

module _ (S : Setting) where
  pub honest_call : (r : Run) (x : Call) → Honest S r x → Unforged S r x
  honest_call r (at_switch s (receives bytes)) h = λ c from keeps tagged. h c from keeps
  honest_call r (at_switch s (writes kind c frame at)) h = tt
  honest_call r (at_switch s (manages m)) h = tt
  honest_call r (at_controller c (controller.receives bytes)) h = λ s from known tagged. h s from known
  honest_call r (at_controller c (writes_share s frame at)) h = tt
  honest_call r (at_controller c (controller.manages m)) h = tt

  -- the tag premise
  pub honest_run : (r : Run) (calls : List Call) → Every (step S) (Honest S) r calls
      → Every (step S) (Unforged S) r calls
  honest_run r [] h = tt
  honest_run r (x ∷ xs) h = (honest_call r x h.0, honest_run (step S r x) xs h.1)

-- the sender that a message names
abbrev sender_of : Message → ℕ
sender_of (Event s c serial cause) = s
sender_of (Share c s number rule) = c
sender_of (Acknowledgement s c number) = s
sender_of (Refused k) = 0

switch_named : {s c : ℕ} {m : Message} → FromSwitch s c m → sender_of m ≡ s
switch_named premises.event = refl
switch_named premises.acknowledgement = refl

controller_named : {c s : ℕ} {m : Message} → FromController c s m → sender_of m ≡ c
controller_named premises.share = refl

-- what names a stray names no controller that keeps the rules
pub stray_alone : (S : Setting) (s c : ℕ) {m : Message} → FromController c s m → S.strays c ≡ true → (d : ℕ)
    → FromController d s m → Keeps S d → ⊥
stray_alone S s c named strays d from keeps =
    let same = sym (controller_named named) ∙ controller_named from in
    tf (rw same at strays) keeps.1

module _ (S : Setting) (r : Run) (s c : ℕ) (bytes : List ℕ) where
  -- what names its sender and was written by it may arrive
  pub share-arrives : FromController c s (decode ends.Switch bytes) → ControllerWrote r.log c s bytes
      → Honest S r (at_switch s (receives bytes))
  share-arrives named wrote d from keeps =
      subst (λ (i : ℕ). ControllerWrote r.log i s bytes) (sym (controller_named named) ∙ controller_named from) wrote

  pub switch-arrives : FromSwitch s c (decode ends.Controller bytes) → SwitchWrote r.log s c bytes
      → Honest S r (at_controller c (controller.receives bytes))
  switch-arrives named wrote t from known =
      subst (λ (i : ℕ). SwitchWrote r.log i c bytes) (sym (switch_named named) ∙ switch_named from) wrote

  -- and so may whatever names a controller that strays
  pub stray_arrives : FromController c s (decode ends.Switch bytes) → S.strays c ≡ true
      → Honest S r (at_switch s (receives bytes))
  stray_arrives named strays d from keeps = absurd (stray_alone S s c named strays d from keeps)
