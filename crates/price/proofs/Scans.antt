-- Scans of the places that can hold labels, beside the whole store. Assumes nothing.
use Rattle.std.proofs.Common.{◌≡◌, ℕ, zero, suc, ◌+◌, ◌<◌, ◌≤◌, Bool, true, false, cond, not, ltb, ◌||◌, List, [], ◌∷◌, ◌++◌, length, get_or, take, drop, Some, None, Option, position, sym, refl, ap, ◌∙◌, ⊎_elim, zero-add, arith}
use Rattle.std.specs.List.{AllByRecursion, list_any, position_or_len}
use Rattle.std.proofs.lemmas.List.{take-append-drop, length-take, length-take-le, get_or-take, take_all}
use Rattle.std.proofs.lemmas.List.Recursion.{same_from_clauses}
use Rattle.std.proofs.lemmas.List.Quantifiers.{position-Some}
use Rattle.std.proofs.lemmas.List.Sums.{prefix_len_passes}
use Rattle.std.proofs.lemmas.Bool.{both_ways, cases_lt, ltb-false, not-true, not-false}
use Rattle.tier.proofs.Options.{none_some}
use Rattle.labelling.specs.Labelling.{any}
use Rattle.price.specs.declared.label.Label.{Label as Cell}
use Rattle.price.specs.Labels.{blank, is_live}
use Rattle.price.specs.Places.{Unused, first_free}
use Rattle.price.proofs.Picks.{unused_at}

-- WHETHER ONE PASSES

any_append : {X : Type 0} (p : X → Bool) (xs ys : List X) → any p ys ≡ false → any p (xs ++ ys) ≡ any p xs
any_append p [] ys e = e
any_append p (x ∷ xs) ys e = ap (λ b. p x || b) (any_append p xs ys e)

any_none : {X : Type 0} (p : X → Bool) (x : X) → p x ≡ false → (xs : List X) → AllByRecursion (λ y. y ≡ x) xs → any p xs ≡ false
any_none p x e [] h = refl
any_none p x e (y ∷ ys) h = ap (λ b. b || any p ys) (ap p h.0 ∙ e) ∙ any_none p x e ys h.1

-- a test that no blank passes: it is enough to look at the places that can hold labels
pub any_used : {S : Type 0} (start : S) (used : ℕ) (cells : List (Cell S)) (p : Cell S → Bool) → Unused start used cells → p (blank start) ≡ false → list_any p (take used cells) ≡ any p cells
any_used start used cells p u e =
    same_from_clauses (list_any p) (any p) (λ x b. p x || b) refl (λ _ _. refl) (λ _ _. refl) (take used cells)
    ∙ sym (any_append p (take used cells) (drop used cells) (any_none p (blank start) e (drop used cells) u.rest))
    ∙ ap (any p) (take-append-drop used cells)

-- THE FIRST BLANK PLACE

free_at : {S : Type 0} (b : Cell S) (j i : ℕ) (cs : List (Cell S)) → i < length cs → is_live (get_or cs i b).status ≡ false → ((k : ℕ) → k < i → is_live (get_or cs k b).status ≡ true) → first_free j cs ≡ Some (j + i)
free_at b j i [] h f l = absurd (omega arith)
free_at b j zero (c ∷ cs) h f l = ap (λ t. cond t (first_free (j + 1) cs) (Some j)) f ∙ ap Some (omega arith)
free_at b j (suc i) (c ∷ cs) h f l =
    ap (λ t. cond t (first_free (j + 1) cs) (Some j)) (l 0 (omega arith))
    ∙ free_at b (j + 1) i cs (omega arith) f (λ k m. l (suc k) (omega arith)) ∙ ap Some (omega arith)

free_none : {S : Type 0} (b : Cell S) (j : ℕ) (cs : List (Cell S)) → ((k : ℕ) → k < length cs → is_live (get_or cs k b).status ≡ true) → first_free j cs ≡ None
free_none b j [] l = refl
free_none b j (c ∷ cs) l =
    ap (λ t. cond t (first_free (j + 1) cs) (Some j)) (l 0 (omega arith)) ∙ free_none b (j + 1) cs (λ k m. l (suc k) (omega arith))

position_none : {X : Type 0} (p : X → Bool) (xs : List X) (k : ℕ) (d : X) → None ≡ position p xs → k < length xs → not (p (get_or xs k d)) ≡ true
position_none p xs k d e h = by (ltb (position_or_len p xs) (length xs)) refl e
  where
    by : (b : Bool) → ltb (position_or_len p xs) (length xs) ≡ b → None ≡ cond b (Some (position_or_len p xs)) None → not (p (get_or xs k d)) ≡ true
    by true q r = absurd (none_some r)
    by false q r = let l = ltb-false (position_or_len p xs) (length xs) q in prefix_len_passes (λ x. not (p x)) xs k d (omega arith)

-- it is enough to look at the places that can hold labels, and at the one behind them
pub free_used : {S : Type 0} (start : S) (used : ℕ) (cells : List (Cell S)) → Unused start used cells → (r : Option ℕ) → r ≡ position (λ l. not (is_live l.status)) (take (used + 1) cells) → r ≡ first_free 0 cells
free_used {S} start used cells u = by
  where
    b : Cell S
    b = blank start

    by : (r : Option ℕ) → r ≡ position (λ l. not (is_live l.status)) (take (used + 1) cells) → r ≡ first_free 0 cells
    by (Some i) e =
        let h = position-Some (λ (l : Cell S). not (is_live l.status)) (take (used + 1) cells) i b (sym e) in
        let n = length-take (used + 1) cells in
        let there = h.0 in
        let read : (k : ℕ) → k ≤ i → get_or (take (used + 1) cells) k b ≡ get_or cells k b = λ k l. get_or-take (used + 1) cells k b (omega arith) in
        ap Some (sym (zero-add i)) ∙ sym (free_at b 0 i cells (omega arith) (ap (λ (c : Cell S). is_live c.status) (sym (read i (omega arith))) ∙ not-true (is_live (get_or (take (used + 1) cells) i b).status) h.1)
        (λ k l. ap (λ (c : Cell S). is_live c.status) (sym (read k (omega arith))) ∙ not-false (is_live (get_or (take (used + 1) cells) k b).status) (h.2 k l)))
    by None e = ⊎_elim inside beyond (cases_lt used (length cells))
      where
        live : (k : ℕ) → k < length (take (used + 1) cells) → is_live (get_or (take (used + 1) cells) k b).status ≡ true
        live k l = not-false (is_live (get_or (take (used + 1) cells) k b).status) (not-true (not (is_live (get_or (take (used + 1) cells) k b).status)) (position_none (λ (c : Cell S). not (is_live c.status)) (take (used + 1) cells) k b e l))

        inside : used < length cells → None ≡ first_free 0 cells
        inside h =
            let n = length-take-le (used + 1) cells (omega arith) in
            absurd (both_ways (is_live (get_or cells used b).status)
            (ap (λ (c : Cell S). is_live c.status) (unused_at start used cells u used (omega arith) h))
            (ap (λ (c : Cell S). is_live c.status) (sym (get_or-take (used + 1) cells used b (omega arith))) ∙ live used (omega arith)))

        beyond : length cells ≤ used → None ≡ first_free 0 cells
        beyond h =
            let all = take_all (used + 1) cells (omega arith) in
            sym (free_none b 0 cells (λ k l. ap (λ (cs : List (Cell S)). is_live (get_or cs k b).status) (sym all) ∙ live k (let n = ap length all in omega arith)))
