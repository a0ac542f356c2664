-- The bits of those numbers that pass a test. Assumes nothing.
use Rattle.std.specs.Prelude.{◌≡◌, ℕ, zero, suc, ◌<◌, ◌≤◌, Bool, true, false, ◌≢◌, refl}
use Rattle.std.proofs.Common.{sym, subst, ◌∙◌, ⊎_elim, arith}
use Rattle.std.proofs.lemmas.Nat.Bits.{bit_at-pow_same}
use Rattle.std.proofs.lemmas.Bool.{eq-eqb, cases_eq, cases_lt, cond_both}
use Rattle.stops.specs.Stops.{member, just}
use Rattle.stops.proofs.Members.{none_in_empty, in_left, in_right, of_either, only_just}
use Rattle.cuts.specs.declared.bits.Bits.{Bits}
use Rattle.cuts.specs.Bits.{stands, with_bit, bits_where}

pub in_just : (k : ℕ) → member (just k) k ≡ true
in_just k = eq-eqb _ _ (bit_at-pow_same k)

-- true of one test, true of the other
same_test : (a b : Bool) → (a ≡ true → b ≡ true) → (b ≡ true → a ≡ true) → a ≡ b
same_test true true f g = refl
same_test true false f g = sym (f refl)
same_test false true f g = g refl
same_test false false f g = refl

put_same : (bits : Bits) (n : ℕ) → stands (with_bit bits n) n ≡ true
put_same bits n = in_right bits.word (just n) n (in_just n)

put_other : (bits : Bits) (n k : ℕ) → (k ≢ n) → stands (with_bit bits n) k ≡ stands bits k
put_other bits n k d =
    same_test (stands (with_bit bits n) k) (stands bits k)
    (λ e. ⊎_elim (λ h. h) (λ h. absurd (d (only_just n k h))) (of_either bits.word (just n) k e))
    (λ e. in_left bits.word (just n) k e)

-- no number from n on
pub none_from : (p : ℕ → Bool) (n k : ℕ) → n ≤ k → stands (bits_where p n) k ≡ false
none_from p zero k l = none_in_empty k
none_from p (suc n) k l =
    let h = none_from p n k (omega arith) in
    cond_both (p n) (with_bit (bits_where p n) n) (bits_where p n) (λ b. stands b k ≡ false) (λ e. put_other (bits_where p n) n k (λ q. omega arith) ∙ h) (λ e. h)

-- below n what the test says
pub stands_where : (p : ℕ → Bool) (n k : ℕ) → k < n → stands (bits_where p n) k ≡ p k
stands_where p zero k l = absurd (omega arith)
stands_where p (suc n) k l = ⊎_elim last (λ d. before d (stands_where p n k (below d))) (cases_eq k n)
  where
    below : (k ≢ n) → k < n
    below d = ⊎_elim (λ h. h) (λ h. absurd (d (omega arith))) (cases_lt k n)

    last : k ≡ n → stands (bits_where p (suc n)) k ≡ p k
    last e =
        subst (λ (j : ℕ). stands (bits_where p (suc n)) j ≡ p j) (sym e)
        (cond_both (p n) (with_bit (bits_where p n) n) (bits_where p n) (λ b. stands b n ≡ p n) (λ t. put_same (bits_where p n) n ∙ sym t) (λ f. none_from p n n (omega arith) ∙ sym f))

    before : (k ≢ n) → stands (bits_where p n) k ≡ p k → stands (bits_where p (suc n)) k ≡ p k
    before d h = cond_both (p n) (with_bit (bits_where p n) n) (bits_where p n) (λ b. stands b k ≡ p k) (λ t. put_other (bits_where p n) n k d ∙ h) (λ f. h)
