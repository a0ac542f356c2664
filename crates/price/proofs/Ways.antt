-- The way to a label, step by step. Assumes nothing.
use Rattle.std.proofs.Common.{◌≡◌, ℕ, zero, suc, ◌+◌, ◌<◌, ◌≤◌, List, [], ◌∷◌, ◌++◌, length, reverse, get_or, drop, set, Some, None, sym, refl, ap, ◌∙◌, ⊎_elim, arith}
use Rattle.std.proofs.lemmas.List.{length_push, length-append, length-reverse, reverse-append, reverse-reverse, append_assoc, append-nil}
use Rattle.std.proofs.lemmas.Bool.{cases_lt}
use Rattle.tier.proofs.Options.{none_some, some_same}
use Rattle.price.specs.declared.label.Label.{Label as Cell}
use Rattle.price.specs.declared.label.Parent.{Parent}
use Rattle.price.proofs.Fills.{write_more}
use Rattle.price.specs.Routes.{lookup, after_parent, way_of, way_in, number_in, way_back, FallsBack}

pub lookup_getD : {X : Type 0} (xs : List X) (i : ℕ) (d : X) → i < length xs → lookup xs i ≡ Some (get_or xs i d)
lookup_getD [] i d h = absurd (omega arith)
lookup_getD (x ∷ xs) zero d h = refl
lookup_getD (x ∷ xs) (suc i) d h = lookup_getD xs i d (omega arith)

pub lookup_none : {X : Type 0} (xs : List X) (i : ℕ) → length xs ≤ i → lookup xs i ≡ None
lookup_none [] i h = refl
lookup_none (x ∷ xs) zero h = absurd (omega arith)
lookup_none (x ∷ xs) (suc i) h = lookup_none xs i (omega arith)

pub lookup_within : {X : Type 0} (xs : List X) (i : ℕ) (x : X) → lookup xs i ≡ Some x → i < length xs
lookup_within xs i x e = ⊎_elim (λ h. h) (λ h. absurd (none_some (sym (lookup_none xs i h) ∙ e))) (cases_lt i (length xs))

module _ {S : Type 0} (cells : List (Cell S)) where
  -- c stands in the store, and from there the way goes back with fuel enough
  pub record Back (c : Cell S) : Type 0 where
    pub at : ℕ
    pub here : lookup cells at ≡ Some c
    pub fuel : ℕ
    pub enough : c.number ≤ fuel

  module _ (c : Cell S) (b : Back c) where
    -- at the root the way is empty
    at_root : c.parent ≡ None → way_in b.fuel cells b.at ≡ []
    at_root e = by b.fuel
      where
        by : (f : ℕ) → way_in f cells b.at ≡ []
        by zero = refl
        by (suc f) = ap (way_of (way_in f cells)) b.here ∙ ap (after_parent (way_in f cells) c.stop) e

    -- one step back
    pub record Behind (p : Parent) (q : Cell S) : Type 0 where
      pub rest : Back q
      pub less : q.number < c.number
      pub is : way_in b.fuel cells b.at ≡ way_in rest.fuel cells rest.at ++ c.stop ∷ []

    pub up_within : (p : Parent) → FallsBack cells → c.parent ≡ Some p → p.place < length cells
    up_within p falls e = (falls b.at c p b.here e).2

    pub behind : (p : Parent) (q : Cell S) → FallsBack cells → c.parent ≡ Some p → lookup cells p.place ≡ Some q → Behind p q
    behind p q falls e there =
        let k = falls b.at c p b.here e in
        let number = ap (λ c. c.number) (some_same (sym k.1 ∙ there)) in
        by b.fuel refl (omega (arith, number, k.3)) (omega (arith, k.3, b.enough))
      where
        by : (f : ℕ) → b.fuel ≡ f → q.number < c.number → 0 < b.fuel → Behind p q
        by zero z l k = absurd (omega arith)
        by (suc f) z l k =
            let enough = b.enough in
            record {
              rest = record { at = p.place; here = there; fuel = f; enough = omega arith };
              less = l;
              is = ap (λ f. way_in f cells b.at) z ∙ ap (way_of (way_in f cells)) b.here ∙ ap (after_parent (way_in f cells) c.stop) e;
            }

  module _ (last : ℕ) (before : List ℕ) where
    -- the way back has come to c: the n stops passed stand at the front of the row, the last one first
    pub record Written (c : Cell S) (n : ℕ) (row : List ℕ) : Type 0 where
      pub back : Back c
      pub done : List ℕ
      pub long : n ≡ length done
      pub way : way_in back.fuel cells back.at ++ reverse done ≡ way_back cells last
      pub row_is : row ≡ done ++ drop n before

    pub write_start : (c : Cell S) → last < length cells → c ≡ get_or cells last c → Written c 0 before
    write_start c h e =
        let here : lookup cells last ≡ Some c = lookup_getD cells last c h ∙ ap Some (sym e) in
        let own : number_in (lookup cells last) ≡ c.number = ap number_in here in
        record {
          back = record { at = last; here = here; fuel = number_in (lookup cells last); enough = omega arith };
          done = [];
          long = refl;
          way = append-nil (way_back cells last);
          row_is = refl;
        }

    module _ (c : Cell S) (n : ℕ) (row : List ℕ) (w : Written c n row) where
      pub write_end : c.parent ≡ None → (n ≡ length (way_back cells last)) × (row ≡ reverse (way_back cells last) ++ drop n before)
      write_end e =
          let is : reverse w.done ≡ way_back cells last = ap (λ l. l ++ reverse w.done) (sym (at_root c w.back e)) ∙ w.way in
          (w.long ∙ sym (length-reverse w.done) ∙ ap length is, w.row_is ∙ ap (λ l. l ++ drop n before) (sym (reverse-reverse w.done) ∙ ap reverse is))

      module _ (p : Parent) (falls : FallsBack cells) (e : c.parent ≡ Some p) where
        -- a stop is still to be written
        pub write_room : n < length (way_back cells last)
        write_room =
            let k = falls w.back.at c p w.back.here e in
            let b = behind c w.back p k.0 falls e k.1 in
            let l = length-append (way_in w.back.fuel cells w.back.at) (reverse w.done) in
            let m = length-reverse w.done in
            let i = ap length b.is in
            let j = length_push (way_in b.rest.fuel cells b.rest.at) c.stop in
            let a = ap length w.way in
            let d = w.long in
            omega arith

        -- one step back
        pub write_on : (q : Cell S) → q ≡ get_or cells p.place q → n < length before → Written q (n + 1) (set row n c.stop) × (q.number < c.number)
        write_on q r h =
            let there : lookup cells p.place ≡ Some q = lookup_getD cells p.place q (up_within c w.back p falls e) ∙ ap Some (sym r) in
            let b = behind c w.back p q falls e there in
            let m = length_push w.done c.stop in
            let d = w.long in (
              record {
                back = b.rest;
                done = w.done ++ c.stop ∷ [];
                long = omega arith;
                way = ap (λ l. way_in b.rest.fuel cells b.rest.at ++ l) (reverse-append w.done (c.stop ∷ [])) ∙ sym (append_assoc (way_in b.rest.fuel cells b.rest.at) (c.stop ∷ []) (reverse w.done)) ∙ ap (λ l. l ++ reverse w.done) (sym b.is) ∙ w.way;
                row_is = ap (λ r. set r n c.stop) w.row_is ∙ write_more w.done before n c.stop w.long h;
              },
              b.less,
            )
