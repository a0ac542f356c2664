-- What stands in a list, after a push, a filter and the choice of the first. Assumes nothing.
use Rattle.std.proofs.Common.{◌≡◌, ℕ, ◌<◌, ◌≤◌, Bool, true, false, cond, ◌||◌, leb, ◌⊎◌, List, [], ◌∷◌, ◌++◌, length, filter, refl, ap, ◌∙◌, inl, inr, ⊎_elim, arith}
use Rattle.std.proofs.lemmas.Bool.{false≢true, leb-true, leb-false, cases_order}
use Rattle.labelling.specs.Members.{In}
use Rattle.labelling.specs.Labelling.{any, first_of}

-- in the order of their numbers, no two with one number
abbrev pub Rising : {X : Type 0} → (X → ℕ) → List X → Type 0
Rising f [] = Unit {0}
Rising {X} f (x ∷ xs) = ((y : X) → In y xs → f x < f y) × Rising f xs

-- of less rank, or of the same rank and with no greater number
abbrev pub Before : {X : Type 0} → (X → ℕ) → (X → ℕ) → X → X → Type 0
Before rank f a b = (rank a < rank b) ⊎ ((rank a ≡ rank b) × (f a ≤ f b))

module _ {X : Type 0} where
  pub in_left : (x : X) (xs ys : List X) → In x xs → In x (xs ++ ys)
  in_left x [] ys h = absurd h
  in_left x (y ∷ xs) ys (inl e) = inl e
  in_left x (y ∷ xs) ys (inr h) = inr (in_left x xs ys h)

  pub in_push : (x : X) (xs : List X) → In x (xs ++ x ∷ [])
  in_push x [] = inl refl
  in_push x (y ∷ xs) = inr (in_push x xs)

  pub in_push_cases : (x y : X) (xs : List X) → In x (xs ++ y ∷ []) → In x xs ⊎ (y ≡ x)
  in_push_cases x y [] (inl e) = inr e
  in_push_cases x y [] (inr h) = absurd h
  in_push_cases x y (z ∷ xs) (inl e) = inl (inl e)
  in_push_cases x y (z ∷ xs) (inr h) = ⊎_elim (λ k. inl (inr k)) (λ e. inr e) (in_push_cases x y xs h)

  pub any_in : (p : X → Bool) (xs : List X) → any p xs ≡ true → (x : X) × In x xs × (p x ≡ true)
  any_in p [] e = absurd (false≢true e)
  any_in p (x ∷ xs) e = by (any_in p xs) (p x) refl e
    where
      by : (any p xs ≡ true → (z : X) × In z xs × (p z ≡ true)) → (b : Bool) → p x ≡ b → (b || any p xs) ≡ true → (y : X) × In y (x ∷ xs) × (p y ≡ true)
      by more true q z = (x, inl refl, q)
      by more false q z = let h = more z in (h.0, inr h.1, h.2)

  module _ (p : X → Bool) where
    pub in_kept : (x : X) (xs : List X) → In x xs → p x ≡ true → In x (filter p xs)
    in_kept x [] h e = absurd h
    in_kept x (y ∷ xs) (inl q) e = rw (ap p q ∙ e) (inl q)
    in_kept x (y ∷ xs) (inr h) e = by (p y) (in_kept x xs h e)
      where
        by : (b : Bool) → In x (filter p xs) → In x (cond b (y ∷ filter p xs) (filter p xs))
        by true k = inr k
        by false k = k

    pub kept_in : (x : X) (xs : List X) → In x (filter p xs) → In x xs
    kept_in x [] h = h
    kept_in x (y ∷ xs) h = by (kept_in x xs) (p y) h
      where
        by : (In x (filter p xs) → In x xs) → (b : Bool) → In x (cond b (y ∷ filter p xs) (filter p xs)) → (y ≡ x) ⊎ In x xs
        by more true (inl e) = inl e
        by more true (inr k) = inr (more k)
        by more false k = inr (more k)

  module _ (f : X → ℕ) where
    pub rising_kept : (p : X → Bool) (xs : List X) → Rising f xs → Rising f (filter p xs)
    rising_kept p [] h = tt
    rising_kept p (x ∷ xs) h = by (p x) (rising_kept p xs h.1)
      where
        by : (b : Bool) → Rising f (filter p xs) → Rising f (cond b (x ∷ filter p xs) (filter p xs))
        by true k = (λ y i. h.0 y (kept_in p y xs i), k)
        by false k = k

    pub rising_push : (z : X) (xs : List X) → ((y : X) → In y xs → f y < f z) → Rising f xs → Rising f (xs ++ z ∷ [])
    rising_push z [] l h = (λ y i. absurd i, tt)
    rising_push z (x ∷ xs) l h = (λ y i. ⊎_elim (λ k. h.0 y k) (λ q. let a = l x (inl refl) in let b = ap f q in omega arith) (in_push_cases y z xs i), rising_push z xs (λ y i. l y (inr i)) h.1)

  -- the first in any order, and the others
  module _ (before : X → X → Bool) where
    pub first_is : (x : X) (xs : List X) → In (first_of before x xs).0 (x ∷ xs)
    first_is x [] = inl refl
    first_is x (y ∷ ys) = by (before x (first_of before y ys).0) (first_is y ys)
      where
        by : (b : Bool) → In (first_of before y ys).0 (y ∷ ys) → In (cond {A = X × List X} b (x, y ∷ ys) ((first_of before y ys).0, x ∷ (first_of before y ys).1)).0 (x ∷ y ∷ ys)
        by true k = inl refl
        by false k = inr k

    pub others_in : (x : X) (xs : List X) (z : X) → In z (first_of before x xs).1 → In z (x ∷ xs)
    others_in x [] z h = absurd h
    others_in x (y ∷ ys) z h = by (others_in y ys z) (before x (first_of before y ys).0) h
      where
        by : (In z (first_of before y ys).1 → In z (y ∷ ys)) → (b : Bool) → In z (cond {A = X × List X} b (x, y ∷ ys) ((first_of before y ys).0, x ∷ (first_of before y ys).1)).1 → In z (x ∷ y ∷ ys)
        by more true k = inr k
        by more false (inl e) = inl e
        by more false (inr k) = inr (more k)

    pub first_or_other : (x : X) (xs : List X) (z : X) → In z (x ∷ xs) → ((first_of before x xs).0 ≡ z) ⊎ In z (first_of before x xs).1
    first_or_other x [] z (inl e) = inl e
    first_or_other x [] z (inr h) = absurd h
    first_or_other x (y ∷ ys) z h = by (first_or_other y ys z) (before x (first_of before y ys).0) h
      where
        by : (In z (y ∷ ys) → ((first_of before y ys).0 ≡ z) ⊎ In z (first_of before y ys).1) → (b : Bool) → In z (x ∷ y ∷ ys) → ((cond {A = X × List X} b (x, y ∷ ys) ((first_of before y ys).0, x ∷ (first_of before y ys).1)).0 ≡ z) ⊎ In z (cond {A = X × List X} b (x, y ∷ ys) ((first_of before y ys).0, x ∷ (first_of before y ys).1)).1
        by more true k = k
        by more false (inl e) = inr (inl e)
        by more false (inr k) = ⊎_elim (λ e. inl e) (λ i. inr (inr i)) (more k)

    pub length_others : (x : X) (xs : List X) → length (first_of before x xs).1 ≡ length xs
    length_others x [] = refl
    length_others x (y ∷ ys) = by (before x (first_of before y ys).0) (length_others y ys)
      where
        by : (b : Bool) → length (first_of before y ys).1 ≡ length ys → length (cond {A = X × List X} b (x, y ∷ ys) ((first_of before y ys).0, x ∷ (first_of before y ys).1)).1 ≡ length (y ∷ ys)
        by true k = refl
        by false k = omega arith

    -- the others are in order still, and have other numbers than the first
    pub rising_others : (f : X → ℕ) (x : X) (xs : List X) → Rising f (x ∷ xs) → Rising f (first_of before x xs).1
    rising_others f x [] h = tt
    rising_others f x (y ∷ ys) h = by (rising_others f y ys h.1) (before x (first_of before y ys).0)
      where
        by : Rising f (first_of before y ys).1 → (b : Bool) → Rising f (cond {A = X × List X} b (x, y ∷ ys) ((first_of before y ys).0, x ∷ (first_of before y ys).1)).1
        by k true = h.1
        by k false = (λ z i. h.0 z (others_in y ys z i), k)

    pub others_apart : (f : X → ℕ) (x : X) (xs : List X) → Rising f (x ∷ xs) → (z : X) → In z (first_of before x xs).1 → f (first_of before x xs).0 ≡ f z → ⊥
    others_apart f x [] h z i e = i
    others_apart f x (y ∷ ys) h z i e = by (others_apart f y ys h.1 z) (before x (first_of before y ys).0) i e
      where
        by : (In z (first_of before y ys).1 → f (first_of before y ys).0 ≡ f z → ⊥) → (b : Bool) → In z (cond {A = X × List X} b (x, y ∷ ys) ((first_of before y ys).0, x ∷ (first_of before y ys).1)).1 → f (cond {A = X × List X} b (x, y ∷ ys) ((first_of before y ys).0, x ∷ (first_of before y ys).1)).0 ≡ f z → ⊥
        by more true k q = let a = h.0 z k in omega arith
        by more false (inl p) q = let a = h.0 (first_of before y ys).0 (first_is y ys) in let b = ap f p in omega arith
        by more false (inr k) q = more k q

  -- in the order of a rank the first has the least rank, and of these the least number
  module _ (rank f : X → ℕ) where
    abbrev by_rank : X → X → Bool
    by_rank a b = leb (rank a) (rank b)

    pub first_before : (x : X) (xs : List X) → Rising f (x ∷ xs) → (z : X) → In z (x ∷ xs) → Before rank f (first_of (λ a b. leb (rank a) (rank b)) x xs).0 z
    first_before x [] h z (inl e) = inr (ap rank e, let q = ap f e in omega arith)
    first_before x [] h z (inr i) = absurd i
    first_before x (y ∷ ys) h z i = by (first_before y ys h.1) (leb (rank x) (rank (first_of by_rank y ys).0)) refl i
      where
        by : ((z : X) → In z (y ∷ ys) → Before rank f (first_of by_rank y ys).0 z) → (b : Bool) → leb (rank x) (rank (first_of by_rank y ys).0) ≡ b → In z (x ∷ y ∷ ys) → Before rank f (cond {A = X × List X} b (x, y ∷ ys) ((first_of by_rank y ys).0, x ∷ (first_of by_rank y ys).1)).0 z
        by more true q (inl e) = inr (ap rank e, let p = ap f e in omega arith)
        by more true q (inr k) = let l = leb-true (rank x) (rank (first_of by_rank y ys).0) q in let n = h.0 z k in
            ⊎_elim (λ e. inr (e, omega arith)) (λ d. ⊎_elim (λ s. inl s) (λ s. absurd (⊎_elim (λ u. omega arith) (λ u. let v = u.0 in omega arith) (more z k))) d) (cases_order (rank x) (rank z))
        by more false q (inl e) = inl (let l = leb-false (rank x) (rank (first_of by_rank y ys).0) q in let p = ap rank e in omega arith)
        by more false q (inr k) = more z k
