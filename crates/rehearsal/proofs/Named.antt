-- A record alters nothing but what it is about: decide and report one controller, send, raw and deliver one switch,
-- keep one place, and a refused keep nothing. What a record does not name comes back as it was taken out.
-- Assumes nothing.
use mathlib.Core.Path.{◌≡◌, refl}
use mathlib.Core.List.{List}
use Prim.Native.Nat.{ℕ}
use lib.Seq.{set-get_or}
use Rattle.std.specs.Prelude.{Result, Ok, Err}
use Rattle.rehearsal.specs.Steps.{answer_of, kept, carried_out}
use Rattle.rehearsal.specs.Effects.{carried_in, world_after}
use Rattle.rehearsal.specs.declared.Kind.TheVariants.{Decide, Send, Report, Raw, Keep, Deliver}
use Rattle.rehearsal.specs.declared.Place.{Place}
use Rattle.rehearsal.specs.declared.Record.{Record}
use Rattle.rehearsal.specs.declared.Share.{Share}
use Rattle.rehearsal.specs.declared.World.{World}

-- what stays of a world
abbrev pub OnlyController : World → World → Type 0
OnlyController w v = (v.switches ≡ w.switches) × (v.places ≡ w.places)

abbrev pub OnlySwitch : World → World → Type 0
OnlySwitch w v = (v.controllers ≡ w.controllers) × (v.places ≡ w.places)

abbrev pub OnlyPlace : World → World → Type 0
OnlyPlace w v = (v.controllers ≡ w.controllers) × (v.switches ≡ w.switches)

-- a share that was not made leaves the place as it was
pub kept-refused : (m : Result Share ℕ) (to : ℕ) (p : Place) → (answer_of m ≡ 0 → ⊥) → kept m to p ≡ p
kept-refused (Ok share) to p refused = absurd (refused refl)
kept-refused (Err k) to p refused = refl

module _ (w : World) (r : Record) (bytes : List ℕ) where
  pub decide_alters : r.kind ≡ Decide → OnlyController w (world_after w r bytes)
  unfolding carried_out
  decide_alters e = (rw (e, set-get_or), rw (e, set-get_or))

  pub report_alters : r.kind ≡ Report → OnlyController w (world_after w r bytes)
  unfolding carried_out
  report_alters e = (rw (e, set-get_or), rw (e, set-get_or))

  pub send_alters : r.kind ≡ Send → OnlySwitch w (world_after w r bytes)
  unfolding carried_out
  send_alters e = (rw (e, set-get_or), rw (e, set-get_or))

  pub raw_alters : r.kind ≡ Raw → OnlySwitch w (world_after w r bytes)
  unfolding carried_out
  raw_alters e = (rw (e, set-get_or), rw (e, set-get_or))

  -- the place keeps what is delivered from it
  pub deliver_alters : r.kind ≡ Deliver → OnlySwitch w (world_after w r bytes)
  unfolding carried_out
  deliver_alters e = (rw (e, set-get_or), rw (e, set-get_or))

  pub keep_alters : r.kind ≡ Keep → OnlyPlace w (world_after w r bytes)
  unfolding carried_out
  keep_alters e = (rw (e, set-get_or), rw (e, set-get_or))

  pub keep_refused : r.kind ≡ Keep → ((carried_in w r bytes).answer ≡ 0 → ⊥) → (world_after w r bytes).places ≡ w.places
  unfolding carried_out
  keep_refused e refused = rw (e, kept-refused _ r.switch _ (rw e at refused), set-get_or)
