-- Laws of runs: a run of two lists is one after the other, and so are its moments; what every allowed call keeps, a run
-- keeps, and what a delivery brings about, a run has that contains the delivery; rounds counted, and calls added to them.
use mathlib.Core.Path.{◌≡◌, refl, sym, ap, ◌∙◌, subst}
use mathlib.Core.List.Memᴰ
use mathlib.Core.List.{List, [], ◌∷◌, ◌++◌, append-nil, append_assoc, Memᴰ}
use mathlib.Core.Logic.{inl, inr, ⊎_elim}
use Prim.Native.Nat.{ℕ, zero, suc, ◌≤◌}
use native.Mathlib.Omega.{arith}
use Rattle.protocol.specs.Runs.{run, Every, Sometime, Rounds}

module _ {State Call : Type 0} (step : State → Call → State) where
  pub run-append : (r : State) (xs ys : List Call) → run step r (xs ++ ys) ≡ run step (run step r xs) ys
  run-append r [] ys = refl
  run-append r (x ∷ xs) ys = run-append (step r x) xs ys

  -- a moment of a list is the present one, or one of what is left of it
  module _ (M : State → List Call → Type 0) where
    pub now : (r : State) (xs : List Call) → M r xs → Sometime step M r xs
    now r [] m = m
    now r (x ∷ xs) m = inl m

    pub later : (r : State) (xs ys : List Call) → Sometime step M (run step r xs) ys → Sometime step M r (xs ++ ys)
    later r [] ys m = m
    later r (x ∷ xs) ys m = inr (later (step r x) xs ys m)

  module _ (P : State → Call → Type 0) where
    pub every_join : (r : State) (xs ys : List Call) → Every step P r xs → Every step P (run step r xs) ys
        → Every step P r (xs ++ ys)
    every_join r [] ys h k = k
    every_join r (x ∷ xs) ys h k = (h.0, every_join (step r x) xs ys h.1 k)

    pub every_append : (r : State) (xs ys : List Call) → Every step P r (xs ++ ys)
        → Every step P r xs × Every step P (run step r xs) ys
    every_append r [] ys h = (tt, h)
    every_append r (x ∷ xs) ys h = let t = every_append (step r x) xs ys h.1 in ((h.0, t.0), t.1)

    -- what each call of which P holds keeps, a list of such calls keeps
    abbrev pub Keeps : (State → Type 0) → Type 0
    Keeps Q = (r : State) (x : Call) → P r x → Q r → Q (step r x)

    pub run-keeps : (Q : State → Type 0) → Keeps Q → (r : State) (xs : List Call) → Every step P r xs → Q r
        → Q (run step r xs)
    run-keeps Q keep r [] h q = q
    run-keeps Q keep r (x ∷ xs) h q = run-keeps Q keep (step r x) xs h.1 (keep r x h.0 q)

    -- a call y among the list brings Q about wherever B holds, which all calls keep
    pub reached : (B Q : State → Type 0) → Keeps B → Keeps Q → (y : Call)
        → ((r : State) → P r y → B r → Q (step r y))
        → (r : State) (xs : List Call) → Every step P r xs → B r → Memᴰ y xs → Q (run step r xs)
    reached B Q keep_b keep_q y hit r [] h b m = absurd (Memᴰ.not-nil m)
    reached B Q keep_b keep_q y hit r (x ∷ xs) h b m =
        ⊎_elim
        (λ e. run-keeps Q keep_q (step r x) xs h.1 (rw e at (hit r (rw (← e) at h.0) b)))
        (λ t. reached B Q keep_b keep_q y hit (step r x) xs h.1 (keep_b r x h.0 b) t) (Memᴰ.cases_cons m)

    -- a moment of the list, from which on the calls that are left bring Q about
    pub sometime : (B Q : State → Type 0) (S : State → List Call → Type 0) → Keeps B
        → ((r : State) (xs : List Call) → Every step P r xs → B r → S r xs → Q (run step r xs))
        → (r : State) (xs : List Call) → Every step P r xs → B r → Sometime step S r xs → Q (run step r xs)
    sometime B Q S keep_b moment r [] h b m = moment r [] h b m
    sometime B Q S keep_b moment r (x ∷ xs) h b m =
        ⊎_elim (λ s. moment r (x ∷ xs) h b s)
        (λ t. sometime B Q S keep_b moment (step r x) xs h.1 (keep_b r x h.0 b) t) m

  module _ (Round : State → List Call → Type 0) where
    -- where there are k rounds, there are fewer
    pub rounds_fewer : (j k : ℕ) (r : State) (xs : List Call) → j ≤ k → Rounds step Round k r xs
        → Rounds step Round j r xs
    rounds_fewer zero k r xs l h = tt
    rounds_fewer (suc j) zero r xs l h = absurd (omega arith)
    rounds_fewer (suc j) (suc k) r xs l h = (
      h.0,
      h.1,
      h.2,
      h.3,
      h.4,
      rounds_fewer j k (run step (run step r h.0) h.1) h.2 (omega arith) h.5,
    )

    module _ (ys : List Call) where
      -- calls after the first round, with more behind them
      longer : (xs gap round rest : List Call) → xs ≡ gap ++ (round ++ rest)
          → xs ++ ys ≡ gap ++ (round ++ (rest ++ ys))
      longer xs gap round rest is =
          ap (λ (l : List Call). l ++ ys) is ∙ append_assoc gap (round ++ rest) ys
          ∙ ap (λ (l : List Call). gap ++ l) (append_assoc round rest ys)

      -- any calls after k rounds leave k rounds; one round more after them makes k + 1
      pub rounds_more : (k : ℕ) (r : State) (xs : List Call) → Rounds step Round k r xs
          → Rounds step Round k r (xs ++ ys)
      rounds_more zero r xs h = tt
      rounds_more (suc k) r xs h = (
        h.0,
        h.1,
        h.2 ++ ys,
        longer xs h.0 h.1 h.2 h.3,
        h.4,
        rounds_more k (run step (run step r h.0) h.1) h.2 h.5,
      )

      pub rounds-add : (k : ℕ) (r : State) (xs : List Call) → Rounds step Round k r xs → Round (run step r xs) ys
          → Rounds step Round (suc k) r (xs ++ ys)
      rounds-add zero r xs h round = (xs, ys, [], ap (λ (l : List Call). xs ++ l) (sym (append-nil ys)), round, tt)
      rounds-add (suc k) r xs h round =
          let is : run step r xs ≡ run step (run step (run step r h.0) h.1) h.2 =
          ap (run step r) h.3 ∙ run-append r h.0 (h.1 ++ h.2) ∙ run-append (run step r h.0) h.1 h.2 in (
            h.0,
            h.1,
            h.2 ++ ys,
            longer xs h.0 h.1 h.2 h.3,
            h.4,
            rounds-add k (run step (run step r h.0) h.1) h.2 h.5 (subst (λ (q : State). Round q ys) is round),
          )
