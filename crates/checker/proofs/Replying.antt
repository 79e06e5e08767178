-- Lines of traffic in turn, the marks that a reply tells, and which lines are a network. Assumes nothing.
use mathlib.Core.Path.{◌≡◌, refl, sym, ap, ◌∙◌}
use mathlib.Core.Bool.{Bool, true, false, ◌&&◌}
use mathlib.Core.List.{List, [], ◌∷◌, ◌++◌}
use Prim.Native.Nat.{ℕ, zero, suc, ◌+◌, ◌-◌, ◌≤◌, ◌<◌}
use native.Mathlib.Omega.{arith}
use lib.Dec.{ltb}
use lib.ListN.{length, take, drop, get_or, replicate, length-take, drop_of_length-le, get_or-eq_default}
use lib.Seq.{ext_get_or, get_or-take, length-take-le}
use borrow.Author.Tests.{le-leb}
use Rattle.std.specs.Prelude.{Ok, Err}
use Rattle.std.proofs.lemmas.List.{drop-replicate}
use Rattle.answer.proofs.Bools.{by_bool, by_le}
use Rattle.lists.specs.Arrays.{pad, every}
use Rattle.lists.specs.Kinds.{is_among}
use Rattle.lists.proofs.Padding.{pad-length, pad_split}
use Rattle.lists.proofs.Stores.{rest}
use Rattle.isolation.specs.Networks.{Traffic, link_ok, traffic_ok, network_ok}
use Rattle.isolation.specs.Check.{Verdict, fine, and_then, in_turn}
use Rattle.checker.specs.Layout.{listed_from, link_of, links_in, traffic_from, traffic_in, network_in, changes_in}
use Rattle.checker.specs.Marks.{made_in}
use Rattle.checker.specs.Checked.{aimed, marks_of, outcome_of, is_network, checked_of}
use Rattle.checker.specs.declared.AgreedChange.{AgreedChange}
use Rattle.checker.specs.declared.Aim.{Aim}
use Rattle.checker.specs.declared.Line.{Line}
use Rattle.checker.specs.declared.PortLink.{PortLink}
use Rattle.checker.specs.declared.Refusal.{Refusal}
use Rattle.checker.specs.declared.Refusal.TheVariants.{NoNetwork}
use Rattle.checker.proofs.Listing.{listed-length, listed_at}
use Rattle.checker.proofs.Marking.{among-made, made_above}
use Rattle.checker.proofs.Outcomes.{goes_on, stops}

-- lines from a place on, tested, and asked about in turn: the line at hand stops the loop or goes on
module _ (lines : List Line) (i : ℕ) where
  abbrev pub lines_from : List Traffic
  lines_from = traffic_in (drop i lines)

  lines_ahead : (z : Line) → i < length lines
      → lines_from ≡ traffic_from (get_or lines i z) ∷ traffic_in (drop (i + 1) lines)
  lines_ahead z h = ap traffic_in (rest lines i z h)

  lines_none : length lines ≤ i → lines_from ≡ []
  lines_none h = ap traffic_in (drop_of_length-le lines {i = i} h)

  pub lines_tested : (z : Line) → i < length lines
      → every traffic_ok lines_from
      ≡ (traffic_ok (traffic_from (get_or lines i z)) && every traffic_ok (traffic_in (drop (i + 1) lines)))
  unfolding every
  lines_tested z h = ap (every traffic_ok) (lines_ahead z h)

  pub lines_passed : length lines ≤ i → every traffic_ok lines_from ≡ true
  unfolding every
  lines_passed h = ap (every traffic_ok) (lines_none h)

  module _ (one : Traffic → ℕ → Verdict) (b : ℕ) where
    lines_turn : (z : Line) → i < length lines
        → in_turn one lines_from b
        ≡ and_then (one (traffic_from (get_or lines i z)) b) (λ (b : ℕ). in_turn one (traffic_in (drop (i + 1) lines)) b)
    unfolding in_turn
    lines_turn z h = ap (λ (l : List Traffic). in_turn one l b) (lines_ahead z h)

    pub lines_done : length lines ≤ i → in_turn one lines_from b ≡ fine b
    unfolding in_turn
    lines_done h = ap (λ (l : List Traffic). in_turn one l b) (lines_none h)

    pub line_on : (z : Line) → i < length lines → (left : ℕ)
        → Ok left ≡ outcome_of (one (traffic_from (get_or lines i z)) b)
        → in_turn one lines_from b ≡ in_turn one (traffic_in (drop (i + 1) lines)) left
    line_on z h left ruled =
        lines_turn z h ∙ goes_on (one (traffic_from (get_or lines i z)) b) left _ ruled

    pub line_bad : (z : Line) → i < length lines → (r : Refusal)
        → Err r ≡ outcome_of (one (traffic_from (get_or lines i z)) b) → Err r ≡ outcome_of (in_turn one lines_from b)
    line_bad z h r ruled =
        stops (one (traffic_from (get_or lines i z)) b) r _ ruled ∙ ap outcome_of (sym (lines_turn z h))

-- numbers made, as marks again
pub pad_at : {A : Type 0} (n : ℕ) (z : A) (l : List A) (i : ℕ) → i < n → get_or (pad n z l) i z ≡ get_or l i z
unfolding pad
pad_at zero z l i h = absurd (omega arith)
pad_at (suc n) z [] zero h = refl
pad_at (suc n) z [] (suc i) h = pad_at n z [] i (omega arith)
pad_at (suc n) z (x ∷ l) zero h = refl
pad_at (suc n) z (x ∷ l) (suc i) h = pad_at n z l i (omega arith)

pub made_at : (marks : List Bool) (n i : ℕ) → is_among (0 + i + 1) (made_in marks n) ≡ get_or (take n marks) i false
made_at marks n i =
    by_le (suc i) n
    (λ h.
    let z : 0 + i + 1 - 1 ≡ i = omega arith in
    among-made marks n (0 + i + 1) (omega arith) (omega arith) ∙ ap (λ (k : ℕ). get_or marks k false) z
    ∙ sym (get_or-take n marks i false h))
    (λ h.
    let few : length (take n marks) ≤ i = simp length-take (omega arith) in
    made_above marks n (0 + i + 1) (omega arith) ∙ sym (get_or-eq_default (take n marks) false {n = i} few))

pub marks_back : (marks : List Bool) (count : ℕ) → marks_of (made_in marks count) ≡ pad 256 false (take count marks)
marks_back marks count =
    let is_made : ℕ → Bool = λ i. is_among (i + 1) (made_in marks count) in
    let long : length (listed_from is_made 0 256) ≡ 256 = listed-length is_made 0 256 in
    ext_get_or false (listed_from is_made 0 256) (pad 256 false (take count marks))
    (long ∙ sym (pad-length 256 false (take count marks)))
    (λ i h.
    let few : i < 256 = omega arith in
    listed_at is_made 0 256 i false few ∙ made_at marks count i ∙ sym (pad_at 256 false (take count marks) i few))

-- the first marks copied over an array of none
pub marks_kept : (marks kept : List Bool) (count : ℕ) → count ≤ 256 → length marks ≡ 256 → kept ≡ take count marks
    → kept ++ drop count (replicate 256 false) ≡ pad 256 false (take count marks)
marks_kept marks kept count few long e =
    let n : length (take count marks) ≡ count = length-take-le count marks (omega arith) in
    rw (e, drop-replicate, pad_split 256 false (take count marks) (omega arith), n)

-- every link that can be lent leads to a switch of the domain or outside
link_ok_lem : (l : PortLink) → link_ok (link_of l) ≡ true
link_ok_lem l = by_bool (ltb l.far 16) (λ e. rw (e, e)) (λ e. rw e)

links_ok : (links : List PortLink) → every link_ok (links_in links) ≡ true
unfolding every
links_ok [] = refl
links_ok (l ∷ links) = rw (link_ok_lem l) (links_ok links)

network_is : (links : List PortLink) (lines : List Line)
    → network_ok (network_in links lines) ≡ every traffic_ok (traffic_in lines)
network_is links lines = rw (links_ok links)

-- what there is room for is a network exactly if all lines of traffic are formed
pub has_room : (changes : List AgreedChange) (links : List PortLink) (lines : List Line)
    → length changes ≤ 256 → length links ≤ 256 → length lines ≤ 64
    → every traffic_ok (traffic_in lines) ≡ is_network changes links lines
has_room changes links lines f g h =
    sym (network_is links lines)
    ∙ rw (le-leb (length changes) 256 f, le-leb (length links) 256 g, le-leb (length lines) 64 h)

-- what is no network, and what is one
module _ (aim : Aim) (settled budget : ℕ) (changes : List AgreedChange) (links : List PortLink) (lines : List Line) where
  pub checked_none : is_network changes links lines ≡ false
      → Err NoNetwork ≡ checked_of aim settled budget changes links lines
  unfolding checked_of
  checked_none e = rw e

  pub checked_some : is_network changes links lines ≡ true
      → outcome_of (aimed aim (changes_in changes) settled (network_in links lines) budget)
      ≡ checked_of aim settled budget changes links lines
  unfolding checked_of
  checked_some e = rw e
