-- Sums over the cuts of a table, and its bits step by step. Assumes nothing.
use Rattle.std.proofs.Common.{◌≡◌, ℕ, suc, ◌+◌, Bool, cond, List, [], ◌∷◌, length, refl, ap, ◌∙◌, arith}
use Rattle.std.specs.List.{sum_by, enumerate_from}
use Rattle.std.proofs.lemmas.List.Sums.{sum_by-cons}
use Rattle.cuts.specs.declared.bits.Bits.{Bits}
use Rattle.cuts.specs.declared.cut.Cut.{Cut}
use Rattle.cuts.specs.Bits.{with_bit, bits_where, sum_below}
use Rattle.cuts.specs.Cuts.{cut_at, penalties_of}
use Rattle.cuts.specs.Sums.{sum_first, sum_same}

summed_from : (f : ℕ → Cut → ℕ) (n : ℕ) (cs : List Cut) → sum_by (λ (p : ℕ × Cut). f p.0 p.1) (enumerate_from n cs) ≡ sum_below (λ k. f (n + k) (cut_at cs k)) (length cs)
summed_from f n [] = refl
summed_from f n (x ∷ cs) =
    let h = summed_from f (n + 1) cs in
    let first = sum_by-cons (λ (p : ℕ × Cut). f p.0 p.1) (n, x) (enumerate_from (n + 1) cs) in
    let split = sum_first (λ k. f (n + k) (cut_at (x ∷ cs) k)) (length cs) in
    let here = ap (λ k. f k x) (let e : n + 0 ≡ n = omega arith in e) in
    let rest = sum_same (λ k. f (n + suc k) (cut_at cs k)) (λ k. f (n + 1 + k) (cut_at cs k)) (length cs) (λ k l. ap (λ i. f i (cut_at cs k)) (omega arith)) in
    omega arith

-- of the cuts with their numbers
pub numbered_sum : (f : ℕ → Cut → ℕ) (cs : List Cut) → sum_by (λ (p : ℕ × Cut). f p.0 p.1) (enumerate_from 0 cs) ≡ sum_below (λ k. f k (cut_at cs k)) (length cs)
numbered_sum f cs =
    summed_from f 0 cs ∙ sum_same (λ k. f (0 + k) (cut_at cs k)) (λ k. f k (cut_at cs k)) (length cs) (λ k l. ap (λ i. f i (cut_at cs k)) (omega arith))

pub penalties_by : (cs : List Cut) → sum_by (λ (c : Cut). c.penalty) cs ≡ penalties_of cs
penalties_by [] = refl
penalties_by (x ∷ cs) =
    let h = penalties_by cs in
    let first = sum_by-cons (λ (c : Cut). c.penalty) x cs in
    let split = sum_first (λ k. (cut_at (x ∷ cs) k).penalty) (length cs) in
    omega arith

pub bits_step : (p : ℕ → Bool) (k : ℕ) (bits : Bits) (b : Bool) → bits ≡ bits_where p k → b ≡ p k → cond b (with_bit bits k) bits ≡ bits_where p (k + 1)
bits_step p k bits b e g =
    ap (λ x. cond b (with_bit x k) x) e ∙ ap (λ x. cond x (with_bit (bits_where p k) k) (bits_where p k)) g ∙ ap (bits_where p) (let z : suc k ≡ k + 1 = omega arith in z)
