-- A table that is filled from the front: the first entries of xs, and blank ones behind them.
use Rattle.std.proofs.Common.{◌≡◌, ℕ, zero, suc, ◌+◌, ◌<◌, ◌≤◌, List, [], ◌∷◌, length, get_or, set, replicate, sym, refl, ap, ◌∙◌, add-zero, arith}

pub mixed : {X : Type 0} → X → ℕ → List X → List X
mixed d k [] = []
mixed d zero (x ∷ xs) = d ∷ mixed d zero xs
mixed d (suc k) (x ∷ xs) = x ∷ mixed d k xs

module _ {X : Type 0} (d : X) where
  pub mixed_none : (xs : List X) → mixed d 0 xs ≡ replicate (length xs) d
  unfolding mixed
  mixed_none [] = refl
  mixed_none (x ∷ xs) = ap (λ l. d ∷ l) (mixed_none xs)

  pub mixed_all : (k : ℕ) (xs : List X) → length xs ≤ k → mixed d k xs ≡ xs
  unfolding mixed
  mixed_all k [] h = refl
  mixed_all zero (x ∷ xs) h = absurd (omega arith)
  mixed_all (suc k) (x ∷ xs) h = ap (λ l. x ∷ l) (mixed_all k xs (omega arith))

  -- one more entry is filled in
  pub mixed_set : (k : ℕ) (xs : List X) → k < length xs → set (mixed d k xs) k (get_or xs k d) ≡ mixed d (suc k) xs
  unfolding mixed
  mixed_set k [] h = absurd (omega arith)
  mixed_set zero (x ∷ xs) h = refl
  mixed_set (suc k) (x ∷ xs) h = ap (λ l. x ∷ l) (mixed_set k xs (omega arith))

  -- a blank entry need not be filled in
  pub mixed_skip : (k : ℕ) (xs : List X) → get_or xs k d ≡ d → mixed d k xs ≡ mixed d (suc k) xs
  unfolding mixed
  mixed_skip k [] e = refl
  mixed_skip zero (x ∷ xs) e = ap (λ y. y ∷ mixed d zero xs) (sym e)
  mixed_skip (suc k) (x ∷ xs) e = ap (λ l. x ∷ l) (mixed_skip k xs e)

  pub mixed_skips : (xs : List X) (k n : ℕ) → ((m : ℕ) → k ≤ m → m < k + n → get_or xs m d ≡ d) → mixed d k xs ≡ mixed d (k + n) xs
  mixed_skips xs k zero e = ap (λ i. mixed d i xs) (sym (add-zero k))
  mixed_skips xs k (suc n) e =
      let more : suc k + n ≡ k + suc n = omega arith in
      mixed_skip k xs (e k (omega arith) (omega arith)) ∙ mixed_skips xs (suc k) n (λ m l h. e m (omega arith) (omega arith)) ∙ ap (λ i. mixed d i xs) more
