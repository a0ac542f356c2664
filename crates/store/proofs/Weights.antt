-- Sums over lists, of what each element counts for. Assumes nothing.
use Rattle.std.proofs.Common.{◌≡◌, ℕ, zero, suc, ◌+◌, ◌<◌, ◌≤◌, Bool, true, false, cond, not, ◌||◌, ltb, List, [], ◌∷◌, map, length, get_or, sum_by, count_by, filter, sym, refl, ap, ◌∙◌, inl, inr, arith}
use mathlib.Core.Path.{fun_ext}
use Rattle.std.proofs.lemmas.List.Sums.{sum_by-cons}
use Rattle.std.proofs.lemmas.Bool.{lt-ltb}
use Rattle.labelling.specs.Members.{In}
use Rattle.labelling.specs.Labelling.{any, first_of}

pub sum_map : {X Y : Type 0} (f : Y → ℕ) (g : X → Y) (xs : List X) → sum_by f (map g xs) ≡ sum_by (λ x. f (g x)) xs
sum_map f g [] = refl
sum_map f g (x ∷ xs) = sum_by-cons f (g x) (map g xs) ∙ ap (λ n. f (g x) + n) (sum_map f g xs) ∙ sym (sum_by-cons (λ x. f (g x)) x xs)

module _ {X : Type 0} where
  pub sum_same : (f g : X → ℕ) (xs : List X) → ((x : X) → f x ≡ g x) → sum_by f xs ≡ sum_by g xs
  sum_same f g xs h = ap (λ k. sum_by k xs) (fun_ext h)

  pub sum_ones : (xs : List X) → sum_by (λ _. 1) xs ≡ length xs
  sum_ones [] = refl
  sum_ones (x ∷ xs) = let a = sum_by-cons (λ _. 1) x xs in let b = sum_ones xs in omega arith

  -- some element passes just if they count for more than nothing
  pub any_count : (p : X → Bool) (xs : List X) → any p xs ≡ ltb 0 (count_by p xs)
  any_count p [] = refl
  any_count p (x ∷ xs) = or_count (p x) (any_count p xs) ∙ ap (ltb 0) (sym (sum_by-cons (λ y. cond (p y) 1 0) x xs))
    where
      or_count : (b : Bool) → any p xs ≡ ltb 0 (count_by p xs) → (b || any p xs) ≡ ltb 0 (cond b 1 0 + count_by p xs)
      or_count true e = sym (lt-ltb 0 (1 + count_by p xs) (omega arith))
      or_count false e = e ∙ ap (ltb 0) (omega arith)

  module _ (g : X → ℕ) where
    pub sum_in : (y : X) (xs : List X) → In y xs → g y ≤ sum_by g xs
    sum_in y [] i = absurd i
    sum_in y (x ∷ xs) (inl e) = let a = sum_by-cons g x xs in let b = ap g e in omega arith
    sum_in y (x ∷ xs) (inr i) = let a = sum_by-cons g x xs in let b = sum_in y xs i in omega arith

    pub sum_none : (xs : List X) → ((y : X) → In y xs → g y ≡ 0) → sum_by g xs ≡ 0
    sum_none [] h = refl
    sum_none (x ∷ xs) h = let a = sum_by-cons g x xs in let b = h x (inl refl) in let c = sum_none xs (λ y i. h y (inr i)) in omega arith

    pub sum_at : (xs : List X) (i : ℕ) (d : X) → i < length xs → g (get_or xs i d) ≤ sum_by g xs
    sum_at [] i d l = absurd (omega arith)
    sum_at (x ∷ xs) zero d l = let a = sum_by-cons g x xs in omega arith
    sum_at (x ∷ xs) (suc i) d l = let a = sum_by-cons g x xs in let b = sum_at xs i d (omega arith) in omega arith

    -- two elements at different indices count both
    pub sum_two : (xs : List X) (i j : ℕ) (d : X) → i < length xs → j < length xs → (i ≡ j → ⊥) → g (get_or xs i d) + g (get_or xs j d) ≤ sum_by g xs
    sum_two [] i j d k l n = absurd (omega arith)
    sum_two (x ∷ xs) zero zero d k l n = absurd (n refl)
    sum_two (x ∷ xs) zero (suc j) d k l n = let a = sum_by-cons g x xs in let b = sum_at xs j d (omega arith) in omega arith
    sum_two (x ∷ xs) (suc i) zero d k l n = let a = sum_by-cons g x xs in let b = sum_at xs i d (omega arith) in omega arith
    sum_two (x ∷ xs) (suc i) (suc j) d k l n = let a = sum_by-cons g x xs in let b = sum_two xs i j d (omega arith) (omega arith) (λ e. n (ap suc e)) in omega arith

    pub sum_found : (xs : List X) (d : X) → 0 < sum_by g xs → (i : ℕ) × (i < length xs) × (0 < g (get_or xs i d))
    sum_found [] d l = absurd (omega arith)
    sum_found (x ∷ xs) d l = by (sum_found xs d) (g x) refl
      where
        by : (0 < sum_by g xs → (i : ℕ) × (i < length xs) × (0 < g (get_or xs i d))) → (n : ℕ) → g x ≡ n → (i : ℕ) × (i < length (x ∷ xs)) × (0 < g (get_or (x ∷ xs) i d))
        by more zero e = let a = sum_by-cons g x xs in let h = more (omega arith) in (suc h.0, omega (arith, h.1), h.2)
        by more (suc n) e = (0, omega arith, omega arith)

    pub sum_kept : (p : X → Bool) (xs : List X) → sum_by (λ x. cond (p x) 0 (g x)) xs ≡ sum_by g (filter (λ x. not (p x)) xs)
    sum_kept p [] = refl
    sum_kept p (x ∷ xs) = sum_by-cons (λ x. cond (p x) 0 (g x)) x xs ∙ ap (λ n. cond (p x) 0 (g x) + n) (sum_kept p xs) ∙ by (p x)
      where
        by : (b : Bool) → cond b 0 (g x) + sum_by g (filter (λ x. not (p x)) xs) ≡ sum_by g (cond (not b) (x ∷ filter (λ x. not (p x)) xs) (filter (λ x. not (p x)) xs))
        by true = omega arith
        by false = sym (sum_by-cons g x (filter (λ x. not (p x)) xs))

    -- the first in any order, and the others, count for the whole
    pub sum_first : (before : X → X → Bool) (x : X) (xs : List X) → sum_by g (x ∷ xs) ≡ g (first_of before x xs).0 + sum_by g (first_of before x xs).1
    sum_first before x [] = sum_by-cons g x []
    sum_first before x (y ∷ ys) = by (before x (first_of before y ys).0) (sum_first before y ys)
      where
        by : (b : Bool) → sum_by g (y ∷ ys) ≡ g (first_of before y ys).0 + sum_by g (first_of before y ys).1 → sum_by g (x ∷ y ∷ ys) ≡ g (cond {A = X × List X} b (x, y ∷ ys) ((first_of before y ys).0, x ∷ (first_of before y ys).1)).0 + sum_by g (cond {A = X × List X} b (x, y ∷ ys) ((first_of before y ys).0, x ∷ (first_of before y ys).1)).1
        by true e = sum_by-cons g x (y ∷ ys)
        by false e = let a = sum_by-cons g x (y ∷ ys) in let b = sum_by-cons g x (first_of before y ys).1 in omega arith

    pub sum_ones_at : (xs : List X) (d : X) → ((i : ℕ) → i < length xs → g (get_or xs i d) ≡ 1) → sum_by g xs ≡ length xs
    sum_ones_at [] d h = refl
    sum_ones_at (x ∷ xs) d h = let a = sum_by-cons g x xs in let b = h 0 (omega arith) in let c = sum_ones_at xs d (λ i l. h (suc i) (omega arith)) in omega arith

    -- where none counts for more than one, and one for nothing, the sum is less than the length
    sum_small : (xs : List X) → ((x : X) → g x ≤ 1) → sum_by g xs ≤ length xs
    sum_small [] h = omega arith
    sum_small (x ∷ xs) h = let a = sum_by-cons g x xs in let b = h x in let c = sum_small xs h in omega arith

    pub sum_less : (xs : List X) (i : ℕ) (d : X) → ((x : X) → g x ≤ 1) → i < length xs → g (get_or xs i d) ≡ 0 → sum_by g xs < length xs
    sum_less [] i d h l e = absurd (omega arith)
    sum_less (x ∷ xs) zero d h l e = let a = sum_by-cons g x xs in let c = sum_small xs h in omega arith
    sum_less (x ∷ xs) (suc i) d h l e = let a = sum_by-cons g x xs in let b = h x in let c = sum_less xs i d h (omega arith) e in omega arith
