-- A share that is made is its message: sending delivers exactly the message's bytes, and keeping stores them.
use mathlib.Core.Path.{◌≡◌, ◌∙◌}
use mathlib.Core.List.{List}
use Prim.Native.Nat.{ℕ, ◌≤◌}
use native.Mathlib.Omega.{arith}
use lib.ListN.{length, replicate}
use borrow.Author.Tests.{ne_eqb}
use Rattle.std.specs.Prelude.{Ok}
use Rattle.answer.proofs.Bools.{by_eq}
use Rattle.lists.proofs.Padding.{pad-take}
use Rattle.message.specs.Keys.{key_at}
use Rattle.message.specs.Layout.{share_length}
use Rattle.message.specs.Writing.{encode}
use Rattle.message.proofs.Lengths.{encode-length}
use Rattle.switch.specs.declared.Switch.{Switch}
use Rattle.controller.specs.Writing.{share_for, share_written}
use Rattle.controller.specs.declared.Controller.{Controller}
use Rattle.controller.specs.declared.Reply.{Reply}
use Rattle.controller.proofs.Sent.{allowed}
use Rattle.rehearsal.specs.Worlds.{controller_keys, longest_share, stored, bytes_of}
use Rattle.rehearsal.specs.Steps.{delivered, share_made, sent, kept}
use Rattle.rehearsal.specs.declared.Place.{Place}
use Rattle.rehearsal.specs.declared.Share.{Share}

-- bytes put into an array and read back
pub stored_bytes : (bytes : List ℕ) → length bytes ≤ longest_share → bytes_of (stored bytes) ≡ bytes
stored_bytes bytes h = pad-take longest_share 0 bytes h

module _ (c : Controller) (from to : ℕ) where
  -- the bytes of the current share, and the writing that decides whether it is made
  abbrev pub current_share : List ℕ
  current_share = encode (key_at (controller_keys from) to) (share_for c to)

  abbrev pub writing : Reply × List ℕ
  writing = share_written c (controller_keys from) to (replicate longest_share 0) 0

  -- a share that is written has the one length that shares have
  pub written-length : writing.0.answer ≡ 0 → length current_share ≡ share_length
  written-length h =
      encode-length (key_at (controller_keys from) to) (share_for c to)
      ∙ rw (allowed c (controller_keys from) to (replicate longest_share 0) 0 h).ready

  -- a share that is made was written
  was_written : {share : Share} → share_made c from to ≡ Ok share → writing.0.answer ≡ 0
  unfolding share_made
  was_written h =
      by_eq writing.0.answer 0 (λ e. e)
      (λ n. let refused = rw (ne_eqb writing.0.answer 0 n) at h in cc)

  module _ {share : Share} (h : share_made c from to ≡ Ok share) where
    is_current : share ≡ stored current_share
    unfolding share_made
    is_current = let is = rw (was_written h) at h in cc

    pub made_bytes : bytes_of share ≡ current_share
    made_bytes = rw is_current (stored_bytes current_share (omega (arith, written-length (was_written h))))

    pub sent-share : (n : ℕ) (s : Switch) → sent n c s from to ≡ delivered n s to current_share
    unfolding sent
    sent-share n s = rw (h, made_bytes)

    pub kept-share : (p : Place) → bytes_of (kept (share_made c from to) to p).share ≡ current_share
    kept-share p = rw h made_bytes
