-- The turns of the loops and the unrolled rounds of one block, on lists. Assumes nothing.
use Rattle.std.proofs.Common.{◌≡◌, ℕ, zero, suc, ◌+◌, ◌-◌, ◌*◌, ◌%◌, ◌<◌, ◌≤◌, List, length, get_or, take, set, sym, refl, ap, ◌∙◌, add-one, arith, take_all, get_or-take, take-take, take-suc-set}
use Rattle.tag.specs.Sha256.{K, word, words, next, schedule, round, rounds, sums, compress}
use Rattle.tag.specs.Unrolled.{Rounds, Extends}
use Rattle.tag.specs.declared.block.State.{State}

pub words_step : (m w : List ℕ) (t x : ℕ) → t < length w → take t w ≡ words m t → x ≡ word m (4 * t)
    → take (t + 1) (set w t x) ≡ words m (t + 1)
unfolding words
words_step m w t x h i e = rw (add-one, take-suc-set, i, e)

-- the next word of a schedule looks only at those before it
next-take : (w : List ℕ) (t : ℕ) → 16 ≤ t → next (take t w) t ≡ next w t
unfolding next
next-take w t h =
    let front : (n : ℕ) → n < t → get_or (take t w) n 0 ≡ get_or w n 0 = λ n l. get_or-take t w n 0 l in
    rw (
      front (t - 2) (omega arith),
      front (t - 7) (omega arith),
      front (t - 15) (omega arith),
      front (t - 16) (omega arith),
    )

pub schedule-step : (m w : List ℕ) (t x : ℕ) → 16 ≤ t → t < length w → take t w ≡ schedule m (t - 16) → x ≡ next w t
    → take (t + 1) (set w t x) ≡ schedule m (t + 1 - 16)
unfolding schedule
schedule-step m w t x l h i e =
    let p : t + 1 - 16 ≡ suc (t - 16) = omega arith in
    let q : 16 + (t - 16) ≡ t = omega arith in
    rw (p, add-one, take-suc-set, q, ← i, next-take w t l, e)

-- one round more
pub round_more : (w k : List ℕ) (t u : ℕ) (s : State) {n r : State} → k ≡ K → Rounds w t s u n
    → r ≡ round (get_or k u 0) (get_or w u 0) n → Rounds w t s (u + 1) r
unfolding rounds
round_more w k t u s e before q i h = let next : u + 1 ≡ suc u = omega arith in rw (next, q, before i h, e)

-- where more words stay, so do fewer
pub fewer : (n t : ℕ) (w v : List ℕ) → n ≤ t → take t v ≡ take t w → take n v ≡ take n w
fewer n t w v long e = sym (take-take n t v long) ∙ ap (take n) e ∙ take-take n t w long

-- the first n rounds look only at the first n words
rounds-front : (s : State) (w v : List ℕ) (n : ℕ) → take n w ≡ take n v → rounds s w n ≡ rounds s v n
unfolding rounds
rounds-front s w v zero e = refl
rounds-front s w v (suc n) e =
    let less : take n w ≡ take n v = fewer n (suc n) v w (omega arith) e in
    let same : get_or w n 0 ≡ get_or v n 0 =
    sym (get_or-take (suc n) w n 0 (omega arith)) ∙ ap (λ (x : List ℕ). get_or x n 0) e
    ∙ get_or-take (suc n) v n 0 (omega arith) in
    rw (same, rounds-front s w v n less)

-- eight rounds more, and then words v that begin as w did
pub eight_more : (w v : List ℕ) (t : ℕ) {s r n : State} → take (t + 8) v ≡ take (t + 8) w → Rounds w 0 s t r
    → Rounds w t r (t + 8) n → Rounds v 0 s (t + 8) n
unfolding rounds
eight_more w v t e before after i h = after i (before i h) ∙ sym (rounds-front i v w (t + 8) e)

-- how far the schedule stands after t rounds: 16 words further, to its end
abbrev pub Stands : List ℕ → List ℕ → ℕ → Type 0
Stands m w t = (t ≤ 48 → take (t + 16) w ≡ schedule m (t + 16 - 16)) × (48 ≤ t → take 64 w ≡ schedule m 48)

-- what the loop knows of its words after eight rounds: there are 64, the schedule stands, and the words of these rounds
-- are as they were
abbrev pub Kept : List ℕ → List ℕ → ℕ → List ℕ → Type 0
Kept m w t v = (length v ≡ 64) × Stands m v (t + 8) × (take (t + 8) v ≡ take (t + 8) w)

pub kept_extended : (m w v : List ℕ) (t : ℕ) → t < 48 → t % 8 ≡ 0 → length v ≡ 64 → Extends w (t + 16) v
    → Stands m w t → Kept m w t v
kept_extended m w v t few even long more stands =
    let next : take (t + 8 + 16) v ≡ schedule m (t + 8 + 16 - 16) =
    let a : t + 8 + 16 ≡ t + 16 + 8 = omega arith in
    rw a (more.1 m (stands.0 (omega arith))) in
    let last : 48 ≤ t + 8 → take 64 v ≡ schedule m 48 =
    λ l. let e : t + 8 ≡ 48 = omega arith in rw e at next in
    (long, (λ l. next, last), fewer (t + 8) (t + 16) w v (omega arith) more.0)

pub kept_whole : (m w v : List ℕ) (t : ℕ) → 48 ≤ t → length w ≡ 64 → v ≡ w → Stands m w t → Kept m w t v
kept_whole m w v t many long e stands =
    rw e (long, (λ l. absurd (omega arith), λ l. stands.1 many), refl)

pub all_rounds : (m w : List ℕ) {s r : State} → length w ≡ 64 → Stands (take 16 m) w 64 → Rounds w 0 s 64 r
    → r ≡ rounds s (schedule (take 16 m) 48) 64
unfolding rounds
all_rounds m w {s} long stands made =
    let all : w ≡ schedule (take 16 m) 48 = sym (take_all 64 w (omega arith)) ∙ stands.1 (omega arith) in
    made s refl ∙ ap (λ (x : List ℕ). rounds s x 64) all

pub compress_law : (s : State) (m w : List ℕ) {r y : State} → take 16 w ≡ words m 16
    → r ≡ rounds s (schedule (take 16 w) 48) 64 → y ≡ sums s r → y ≡ compress s m
unfolding compress
compress_law s m w p e f = rw (f, e, p)
