-- Sums over the numbers below n. Assumes nothing.
use Rattle.std.specs.Prelude.{◌≡◌, ℕ, zero, suc, ◌+◌, ◌*◌, ◌<◌, ◌≤◌, refl}
use Rattle.std.proofs.Common.{ap, ⊎_elim, arith}
use Rattle.std.proofs.lemmas.Bool.{cases_lt}
use Rattle.cuts.specs.Bits.{sum_below}

pub sum_more : (f : ℕ → ℕ) (n : ℕ) → sum_below f (n + 1) ≡ sum_below f n + f n
sum_more f n = ap (sum_below f) (let e : n + 1 ≡ suc n = omega arith in e)

-- the first apart
pub sum_first : (f : ℕ → ℕ) (n : ℕ) → sum_below f (suc n) ≡ f 0 + sum_below (λ k. f (suc k)) n
sum_first f zero = omega arith
sum_first f (suc n) = let h = sum_first f n in omega arith

pub sum_le : (f g : ℕ → ℕ) (n : ℕ) → ((k : ℕ) → k < n → f k ≤ g k) → sum_below f n ≤ sum_below g n
sum_le f g zero h = omega arith
sum_le f g (suc n) h = let s = sum_le f g n (λ k l. h k (omega arith)) in let l = h n (omega arith) in omega arith

pub sum_same : (f g : ℕ → ℕ) (n : ℕ) → ((k : ℕ) → k < n → f k ≡ g k) → sum_below f n ≡ sum_below g n
sum_same f g zero h = refl
sum_same f g (suc n) h = let s = sum_same f g n (λ k l. h k (omega arith)) in let l = h n (omega arith) in omega arith

pub sum_plus : (f g : ℕ → ℕ) (n : ℕ) → sum_below (λ k. f k + g k) n ≡ sum_below f n + sum_below g n
sum_plus f g zero = omega arith
sum_plus f g (suc n) = let s = sum_plus f g n in omega arith

pub sum_zero : (f : ℕ → ℕ) (n : ℕ) → ((k : ℕ) → k < n → f k ≡ 0) → sum_below f n ≡ 0
sum_zero f zero h = refl
sum_zero f (suc n) h = let s = sum_zero f n (λ k l. h k (omega arith)) in let l = h n (omega arith) in omega arith

-- of numbers that are at most b
pub sum_most : (f : ℕ → ℕ) (b n : ℕ) → ((k : ℕ) → f k ≤ b) → sum_below f n ≤ n * b
sum_most f b zero h = omega arith
sum_most f b (suc n) h = let s = sum_most f b n h in let l = h n in omega arith

-- a longer sum is no less
pub sum_longer : (f : ℕ → ℕ) (m n : ℕ) → m ≤ n → sum_below f m ≤ sum_below f n
sum_longer f m zero l = let e = ap (sum_below f) (let z : m ≡ 0 = omega arith in z) in omega arith
sum_longer f m (suc n) l =
    ⊎_elim
    (λ b. let s = sum_longer f m n (omega arith) in omega arith)
    (λ b. let e = ap (sum_below f) (let z : m ≡ suc n = omega arith in z) in omega arith)
    (cases_lt m (suc n))
