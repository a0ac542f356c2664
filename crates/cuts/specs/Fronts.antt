-- The first cuts of a list. Assumes nothing.
use Rattle.std.specs.Prelude.{◌≡◌, ℕ, zero, suc, ◌<◌, ◌≤◌, List, [], ◌∷◌, length, take, slice_set, refl}
use Rattle.std.proofs.Common.{sym, ap, ◌∙◌, arith}
use Rattle.std.proofs.lemmas.List.{get_or-take}
use Rattle.cuts.specs.declared.cut.Cut.{Cut}
use Rattle.cuts.specs.Cuts.{blank_cut, cut_at}

-- what holds of each cut and of the blank one holds of the first n as well
pub first_cuts : (P : Cut → Type 0) (n : ℕ) (xs : List Cut) (k : ℕ) → ((i : ℕ) → P (cut_at xs i)) → P blank_cut → P (cut_at (take n xs) k)
first_cuts P zero xs k h b = b
first_cuts P (suc n) [] k h b = b
first_cuts P (suc n) (x ∷ xs) zero h b = h 0
first_cuts P (suc n) (x ∷ xs) (suc k) h b = first_cuts P n xs k (λ i. h (suc i)) b

pub short : (n : ℕ) (xs : List Cut) → length (take n xs) ≤ n
short zero xs = omega arith
short (suc n) [] = omega arith
short (suc n) (x ∷ xs) = let h = short n xs in omega arith

pub take_set_inside : (n : ℕ) (xs : List Cut) (i : ℕ) (y : Cut) → take n (slice_set xs i y) ≡ slice_set (take n xs) i y
take_set_inside zero xs i y = refl
take_set_inside (suc n) [] i y = refl
take_set_inside (suc n) (x ∷ xs) zero y = refl
take_set_inside (suc n) (x ∷ xs) (suc i) y = ap (λ l. x ∷ l) (take_set_inside n xs i y)

-- one of the first n cuts is changed
pub cut_changed : (n : ℕ) (xs : List Cut) (i : ℕ) (f : Cut → Cut) → i < n → take n (slice_set xs i (f (cut_at xs i))) ≡ slice_set (take n xs) i (f (cut_at (take n xs) i))
cut_changed n xs i f l = take_set_inside n xs i (f (cut_at xs i)) ∙ ap (λ c. slice_set (take n xs) i (f c)) (sym (get_or-take n xs i blank_cut l))
