-- A no is a run: where the check fails, a run within demand 3's premises makes exactly the numbers of the failure, and
-- then the packet crosses. With at most 64 agreed changes each list that the ideal controller refuses none of is made by
-- some run; past that question 24 keeps some from being made.
use mathlib.Core.Path.{◌≡◌, ap, ◌∙◌}
use mathlib.Core.Bool.{true}
use mathlib.Core.List.{[], append-nil}
use Prim.Native.Nat.{ℕ, ◌≤◌}
use native.Mathlib.Omega.{arith}
use lib.ListN.{length}
use Rattle.lists.specs.Kinds.{is_among}
use Rattle.domain.specs.Settings.{Setting, Valid}
use Rattle.domain.specs.Claim.{agreed}
use Rattle.witness.specs.Reaching.{FewAgreed}
use Rattle.witness.proofs.Reaching.{reachable}
use Rattle.isolation.specs.Networks.{Network, network_ok}
use Rattle.isolation.specs.Claim.{Isolated, Always, Crosses}
use Rattle.isolation.specs.Check.{Failure, fails, check}
use Rattle.isolation.proofs.Complete.{crossing, run_crosses}

module _ (S : Setting) (v : Valid S) (few : FewAgreed S) (settled : ℕ) (agreed-upon : settled ≤ length (agreed S))
    (N : Network) (ok : network_ok N ≡ true) where
  pub no_reached : (budget : ℕ) (f : Failure) → check (agreed S) settled N budget ≡ fails f → Crosses S settled N
  no_reached budget f says =
      let c = crossing S v settled N ok budget f says in
      let r = reachable S v few f.made c.real.may in
      record {
        calls = r.0;
        within = r.1;
        made = λ k low high. ap (is_among k) r.2 ∙ c.real.known k low high (omega arith);
        traffic = f.traffic;
        listed = c.real.listed;
        address = f.address;
        inside = c.real.inside;
        switch = c.switch;
        port = c.port;
        way = run_crosses S v settled N ok budget f says r.0 r.1 r.2;
      }

  -- so a no is never too careful
  pub no_means_no : (budget : ℕ) (f : Failure) → check (agreed S) settled N budget ≡ fails f
      → Always S settled (Isolated N) → ⊥
  no_means_no budget f says always =
      let x = no_reached budget f says in
      always x.calls [] (rw (append-nil x.calls) x.within) x.made x.traffic x.listed x.address
      x.inside 16 x.switch x.port x.way
