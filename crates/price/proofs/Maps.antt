-- A loop that blanks each element that passes a test, and counts them. Assumes nothing.
use Rattle.std.proofs.Common.{◌≡◌, ℕ, ◌+◌, ◌<◌, ◌≤◌, Bool, true, false, cond, List, [], ◌∷◌, ◌++◌, map, length, get_or, take, drop, set, count_by, sym, refl, ap, ◌∙◌, subst, arith}
use Rattle.std.specs.List.{AllByRecursion}
use Rattle.std.proofs.lemmas.List.{length-map, length-take-le, get_or-append_right, get_or-drop, take-append-drop, map-append, drop-map}
use Rattle.std.proofs.lemmas.List.Sums.{sum_by-cons, sum_by-append, count_by_more_yes, count_by_more_no}
use Rattle.std.proofs.lemmas.List.Edits.{map_over_more}

abbrev pub blanked : {X : Type 0} → (X → Bool) → X → X → X
blanked p blank x = cond (p x) blank x

module _ {X : Type 0} (p : X → Bool) (blank : X) (xs : List X) where
  -- what stands after i turns
  abbrev pub Blanking : List X → ℕ → ℕ → Type 0
  Blanking ys n i = (ys ≡ map (blanked p blank) (take i xs) ++ drop i xs) × (n ≡ count_by p (take i xs)) × (n ≤ i)

  -- what is read at i is what stood there at first
  unread : (ys : List X) (i : ℕ) (x : X) → i < length xs → ys ≡ map (blanked p blank) (take i xs) ++ drop i xs → x ≡ get_or ys i x → x ≡ get_or xs i x
  unread ys i x h e r =
      let n : length (map (blanked p blank) (take i xs)) ≡ i = length-map (take i xs) (blanked p blank) ∙ length-take-le i xs (omega arith) in
      let a = get_or-append_right (map (blanked p blank) (take i xs)) (drop i xs) i i x n (omega arith) in
      let z : get_or ys i x ≡ get_or xs i x = ap (λ l. get_or l i x) e ∙ a ∙ get_or-drop i xs _ x ∙ ap (λ j. get_or xs j x) (omega arith) in
      r ∙ z

  pub blanking_yes : (ys zs : List X) (n m i : ℕ) (x : X) → i < length xs → Blanking ys n i → x ≡ get_or ys i x → true ≡ p (get_or ys i x) → zs ≡ set ys i blank → m ≡ n + 1 → Blanking zs m (i + 1)
  blanking_yes ys zs n m i x h (e, c, b) r u z k =
      let t : true ≡ p x = u ∙ ap p (sym r) in
      let q : p (get_or xs i x) ≡ true = ap p (sym (unread ys i x h e r)) ∙ sym t in
      let s : blank ≡ blanked p blank x = ap (λ b. cond b blank x) t in
      (z ∙ ap (set ys i) s ∙ map_over_more (blanked p blank) xs ys i x h e r, omega (arith, count_by_more_yes p xs i x h q), omega arith)

  pub blanking_no : (ys zs : List X) (n m i : ℕ) (x : X) → i < length xs → Blanking ys n i → x ≡ get_or ys i x → false ≡ p (get_or ys i x) → zs ≡ set ys i (get_or ys i x) → m ≡ n → Blanking zs m (i + 1)
  blanking_no ys zs n m i x h (e, c, b) r u z k =
      let t : false ≡ p x = u ∙ ap p (sym r) in
      let q : p (get_or xs i x) ≡ false = ap p (sym (unread ys i x h e r)) ∙ sym t in
      let s : x ≡ blanked p blank x = ap (λ b. cond b blank x) t in
      (z ∙ ap (set ys i) (sym r ∙ s) ∙ map_over_more (blanked p blank) xs ys i x h e r, omega (arith, count_by_more_no p xs i x h q), omega arith)

  blanks_stay : p blank ≡ false → (zs : List X) → AllByRecursion (λ x. x ≡ blank) zs → map (blanked p blank) zs ≡ zs
  blanks_stay none [] h = refl
  blanks_stay none (z ∷ zs) h = ap (λ y. y ∷ map (blanked p blank) zs) (ap (λ x. cond (p x) blank x) h.0 ∙ ap (λ b. cond b blank blank) none ∙ sym h.0) ∙ ap (λ l. z ∷ l) (blanks_stay none zs h.1)

  none_there : p blank ≡ false → (zs : List X) → AllByRecursion (λ x. x ≡ blank) zs → count_by p zs ≡ 0
  none_there none [] h = refl
  none_there none (z ∷ zs) h = let a = sum_by-cons (λ x. cond (p x) 1 0) z zs in let b : ◌≡◌ {A = ℕ} (cond (p z) 1 0) 0 = ap (λ x. cond (p x) 1 0) h.0 ∙ ap (λ b. cond b 1 0) none in let k = none_there none zs h.1 in omega arith

  module _ (used : ℕ) (none : p blank ≡ false) (rest : AllByRecursion (λ x. x ≡ blank) (drop used xs)) where
    -- where the rest is blank, the first `used` are all
    pub blanking_rest : map (blanked p blank) (take used xs) ++ drop used xs ≡ map (blanked p blank) xs
    blanking_rest = ap (λ l. map (blanked p blank) (take used xs) ++ l) (sym (blanks_stay none (drop used xs) rest)) ∙ sym (map-append (blanked p blank) (take used xs) (drop used xs)) ∙ ap (map (blanked p blank)) (take-append-drop used xs)

    pub counting_rest : count_by p (take used xs) ≡ count_by p xs
    counting_rest =
        let g : count_by p xs ≡ count_by p (take used xs) + count_by p (drop used xs) = ap (count_by p) (sym (take-append-drop used xs)) ∙ sum_by-append (λ x. cond (p x) 1 0) (take used xs) (drop used xs) in
        let o = none_there none (drop used xs) rest in
        omega arith

    pub rest_blank : AllByRecursion (λ x. x ≡ blank) (drop used (map (blanked p blank) xs))
    rest_blank = subst (AllByRecursion (λ x. x ≡ blank)) (sym (drop-map (blanked p blank) used xs ∙ blanks_stay none (drop used xs) rest)) rest
