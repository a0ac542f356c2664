-- Numbers in types that may be too narrow for them.
use Rattle.std.specs.Prelude.{◌≡◌, ℕ, ◌<◌, ◌≤◌, Ok, Err, Result, OkIff, MatchResult}
use Rattle.std.proofs.Common.{arith}

-- a number becomes the value that it is, or reaches the limit
abbrev pub Narrows : {N E : Type 0} → (ℕ → Result N E → Type 0) → (N → ℕ) → ℕ → Type 0
Narrows {N} {E} gives value limit = (n : ℕ) (r : Result N E) → gives n r → MatchResult r (λ x. value x ≡ n) (λ _. limit ≤ n)

-- so it does in a type that holds the numbers below another limit, no lower
pub narrows_below : {E : Type 0} {most limit : ℕ} → limit ≤ most → Narrows (λ n (r : Result ℕ E). OkIff r (n < most) n) (λ x. x) limit
narrows_below h n (Ok x) is = is.1
narrows_below h n (Err e) is = omega arith
