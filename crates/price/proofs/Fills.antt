-- A list filled with one value from some place on, and a list written from its end. Assumes nothing.
use Rattle.std.proofs.Common.{◌≡◌, ℕ, zero, suc, ◌+◌, ◌<◌, List, [], ◌∷◌, ◌++◌, length, drop, set, replicate, sym, refl, ap, ◌∙◌, arith}

-- one place more is filled
pub fill_more : {X : Type 0} (x : X) (xs ys : List X) (i : ℕ) → i < length xs → ys ≡ replicate i x ++ drop i xs → set ys i x ≡ replicate (i + 1) x ++ drop (i + 1) xs
fill_more {X} x xs ys i h e = ap (λ l. set l i x) e ∙ by xs i h
  where
    by : (zs : List X) (i : ℕ) → i < length zs → set (replicate i x ++ drop i zs) i x ≡ replicate (i + 1) x ++ drop (i + 1) zs
    by [] i h = absurd (omega arith)
    by (z ∷ zs) zero h = refl
    by (z ∷ zs) (suc i) h = let n : suc (i + 1) ≡ suc i + 1 = omega arith in ap (λ l. x ∷ l) (by zs i (omega arith)) ∙ ap (λ n. replicate n x ++ drop n (z ∷ zs)) n

-- one number more is written behind those that stand at the front
pub write_more : (done row : List ℕ) (n x : ℕ) → n ≡ length done → n < length row → set (done ++ drop n row) n x ≡ (done ++ x ∷ []) ++ drop (n + 1) row
write_more done row n x e h = ap (λ n. set (done ++ drop n row) n x) e ∙ by done row (omega arith) ∙ ap (λ n. (done ++ x ∷ []) ++ drop (n + 1) row) (sym e)
  where
    by : (ds rs : List ℕ) → length ds < length rs → set (ds ++ drop (length ds) rs) (length ds) x ≡ (ds ++ x ∷ []) ++ drop (length ds + 1) rs
    by ds [] h = absurd (omega arith)
    by [] (r ∷ rs) h = refl
    by (d ∷ ds) (r ∷ rs) h =
        let n : suc (length ds + 1) ≡ suc (length ds) + 1 = omega arith in
        ap (λ l. d ∷ l) (by ds rs (omega arith)) ∙ ap (λ n. d ∷ ((ds ++ x ∷ []) ++ drop n (r ∷ rs))) n
