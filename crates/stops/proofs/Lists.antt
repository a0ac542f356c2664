-- What holds of each element of a list, past its end of the default. Assumes nothing.
use Rattle.std.proofs.Common.{ℕ, zero, suc, List, [], ◌∷◌, get_or, set, replicate}

-- it still holds after one element is set
pub each_set : {A : Type 0} (P : A → Type 0) (d : A) (xs : List A) (k : ℕ) (y : A) → ((i : ℕ) → P (get_or xs i d)) → P y → (i : ℕ) → P (get_or (set xs k y) i d)
each_set P d [] k y h p i = h i
each_set P d (x ∷ xs) zero y h p zero = p
each_set P d (x ∷ xs) zero y h p (suc i) = h (suc i)
each_set P d (x ∷ xs) (suc k) y h p zero = h 0
each_set P d (x ∷ xs) (suc k) y h p (suc i) = each_set P d xs k y (λ i. h (suc i)) p i

-- at the place that is set, if there is one
pub get_or_set_at : {A : Type 0} (P : A → Type 0) (xs : List A) (k : ℕ) (y d : A) → P y → P (get_or xs k d) → P (get_or (set xs k y) k d)
get_or_set_at P [] k y d p q = q
get_or_set_at P (x ∷ xs) zero y d p q = p
get_or_set_at P (x ∷ xs) (suc k) y d p q = get_or_set_at P xs k y d p q

-- it holds of copies of an element of which it holds
pub each_copy : {A : Type 0} (P : A → Type 0) (d : A) (n : ℕ) (x : A) → P x → P d → (i : ℕ) → P (get_or (replicate n x) i d)
each_copy P d zero x p q i = q
each_copy P d (suc n) x p q zero = p
each_copy P d (suc n) x p q (suc i) = each_copy P d n x p q i
