-- What the store holds when no label waits: each treated label at a place of its own. Assumes nothing.
use Rattle.std.proofs.Common.{◌≡◌, ℕ, zero, suc, ◌<◌, Bool, true, false, cond, ◌&&◌, ◌||◌, eqb, ◌⊎◌, List, [], ◌∷◌, ◌++◌, length, get_or, Some, None, Option, sym, refl, ap, ◌∙◌, subst, inl, inr, ⊎_elim, arith}
use Rattle.std.proofs.lemmas.List.{get_or_past}
use Rattle.std.proofs.lemmas.Bool.{eq-eqb, eqb-true, and_parts, and_from, both_ways, cases_Bool, cases_lt, or_from}
use Rattle.tier.specs.Answers.{Answers}
use Rattle.tier.proofs.Options.{none_some, some_same}
use Rattle.labelling.specs.Members.{In}
use Rattle.labelling.specs.Labelling.{Label, Table, by_key, find, route_to}
use Rattle.labelling.specs.Moments.{Passed}
use Rattle.labelling.proofs.Traces.{Traced, at_root, further}
use Rattle.labelling.proofs.Holds.{HeldIn, held_passed}
use Rattle.store.specs.Works.{Beside, Holds, after_parent_at, way_at}
use Rattle.store.proofs.Alike.{has_place, one_place, routes_alike}
use Rattle.price.specs.declared.label.Label.{Label as Cell}
use Rattle.price.specs.declared.label.Parent.{Parent}
use Rattle.price.specs.declared.label.Status.{Status}
use Rattle.price.specs.declared.label.Status.TheVariants.{Blank, Waiting, Treated}
use Rattle.price.specs.declared.progress.Progress.{Progress}
use Rattle.price.specs.Labels.{blank, view, parent_number, parent_place, is_treated, is_waiting, is_live, writing}
use Rattle.price.specs.Progress.{work}
use Rattle.price.specs.Prices.{parent_by, filed, Filed}
use Rattle.price.specs.Routes.{lookup, after_parent, way_of, way_in, number_in, way_back, FallsBack}
use Rattle.price.proofs.Ways.{lookup_getD, lookup_within, lookup_none}

-- the first treated label with this number
abbrev place_of : {S : Type 0} → List (Cell S) → ℕ → ℕ
place_of [] n = 0
place_of (c ∷ cs) n = cond (is_treated c.status && eqb c.number n) 0 (suc (place_of cs n))

-- it is there if there is one
record Seen {S : Type 0} (cells : List (Cell S)) (d : Cell S) (n i : ℕ) : Type 0 where
  within : i < length cells
  treated : is_treated (get_or cells i d).status ≡ true
  numbered : (get_or cells i d).number ≡ n

seen_first : {S : Type 0} (cells : List (Cell S)) (d : Cell S) (n i : ℕ) → Seen cells d n i → Seen cells d n (place_of cells n)
seen_first [] d n i s = let w = s.within in absurd (omega arith)
seen_first {S} (c ∷ cs) d n i s = by (seen_first cs d n) (is_treated c.status && eqb c.number n) refl i s
  where
    by : ((i : ℕ) → Seen cs d n i → Seen cs d n (place_of cs n)) → (b : Bool) → (is_treated c.status && eqb c.number n) ≡ b → (i : ℕ) → Seen (c ∷ cs) d n i → Seen (c ∷ cs) d n (cond b 0 (suc (place_of cs n)))
    by more true e i s = let p = and_parts (is_treated c.status) (eqb c.number n) e in record { within = omega arith; treated = p.0; numbered = eqb-true c.number n p.1 }
    by more false e zero s = absurd (both_ways (is_treated c.status && eqb c.number n) e (and_from (is_treated c.status) (eqb c.number n) s.treated (eq-eqb c.number n s.numbered)))
    by more false e (suc i) s =
        let w = s.within in
        let r = more i (record { within = omega arith; treated = s.treated; numbered = s.numbered }) in
        let v = r.within in
        record { within = omega arith; treated = r.treated; numbered = r.numbered }

treated_is : (s : Status) → is_treated s ≡ true → s ≡ Treated
treated_is Blank e = absurd (both_ways false refl e)
treated_is Waiting e = absurd (both_ways false refl e)
treated_is Treated e = refl

find_in : {S : Type 0} (n : ℕ) (ks : List (Label S)) (q : Label S) → find n ks ≡ Some q → In q ks
find_in n [] q e = absurd (none_some e)
find_in {S} n (k ∷ ks) q e = by (find_in n ks q) (eqb k.number n) e
  where
    by : (find n ks ≡ Some q → In q ks) → (b : Bool) → cond b (Some k) (find n ks) ≡ Some q → In q (k ∷ ks)
    by more true e = inl (some_same e)
    by more false e = inr (more e)

module _ {S : Type 0} (m : Answers S) (places : ℕ) (cells : List (Cell S)) (p : Progress) (t : Table S) (passed : Passed m (by_key m) places t) (b : Beside (writing m.start) m places None (work cells p) t) where
  abbrev at : ℕ → Cell S
  at i = get_or cells i (blank m.start)

  held : HeldIn m t
  held = held_passed m (by_key m) places t passed

  abbrev place : ℕ → ℕ
  place n = place_of cells n

  -- a label is found at its place
  found : (l : Label S) → In l t.treated → Holds (writing m.start) m cells (place l.number) l
  found l i =
      let h = has_place (writing m.start) m places (work cells p) t passed b l i in
      let s = seen_first cells (blank m.start) l.number h.0 (record { within = h.1.within; treated = h.1.treated; numbered = ap (λ l. l.number) h.1.is }) in
      let v = view (at (place l.number)) in
      let k = held.known v (b.stored.treats (place l.number) s.within s.treated) in
      record { within = s.within; treated = s.treated; is = some_same (sym k ∙ ap (λ n. find n t.treated) s.numbered ∙ held.known l i) }

  at_place : (i : ℕ) (l : Label S) → Holds (writing m.start) m cells i l → i ≡ place l.number
  at_place i l h =
      let in_t : In l t.treated = subst (λ z. In z t.treated) h.is (b.stored.treats i h.within h.treated) in
      one_place (writing m.start) m places (work cells p) t passed b l i (place l.number) h (found l in_t)

  -- the parent is at the place of its number
  parents : (i : ℕ) → i < length cells → is_live (at i).status ≡ true → (o : Option Parent) → (at i).parent ≡ o → o ≡ parent_by place (parent_number o)
  parents i h live None e = refl
  parents i h live (Some q) e =
      let k = b.linked i h live q.number (ap parent_number e) in
      let up : Holds (writing m.start) m cells q.place k.0 = subst (λ u. Holds (writing m.start) m cells u k.0) (ap parent_place e) k.1 in
      let same : q.place ≡ place q.number = at_place q.place k.0 up ∙ ap place k.2 in
      λ j. Some (record { place = same j; number = q.number })

  shown : (l : Label S) → In l t.treated → at (place l.number) ≡ filed place l
  shown l i =
      let h = found l i in
      let c = at (place l.number) in
      let v = h.is in
      let live = ap (λ b. b || is_waiting c.status) h.treated in
      let q : c.parent ≡ parent_by place l.parent = parents (place l.number) h.within live c.parent refl ∙ ap (λ l. parent_by place l.parent) v in
      λ j. record { stop = (v j).stop; state = (v j).state; cost = (v j).cost; parent = q j; number = (v j).number; status = treated_is c.status h.treated j }

  -- a place that is not blank holds a treated label
  not_blank : t.waiting ≡ [] → (i : ℕ) → i < length cells → (at i ≡ blank m.start) ⊎ Holds (writing m.start) m cells i (view (at i))
  not_blank none i h = ⊎_elim
      (λ e. inr (record { within = h; treated = e; is = refl }))
      (λ e. ⊎_elim
      (λ w. absurd (subst (In (view (at i))) none (b.stored.waits i h w)))
      (λ w. inl (b.clean i h (or_from (is_treated (at i).status) (is_waiting (at i).status) e w)))
      (cases_Bool (is_waiting (at i).status)))
      (cases_Bool (is_treated (at i).status))

  parent_in : (l : Label S) (n : ℕ) → Traced m t.treated l → l.parent ≡ Some n → (p : Label S) × In p t.treated × (p.number ≡ n)
  parent_in _ n (at_root l e) q = absurd (none_some (sym (ap (λ l. l.parent) e) ∙ q))
  parent_in _ n (further l k x e s r a z c h) q = (k, find_in k.number t.treated k s, some_same (sym e ∙ q))

  pub files : t.waiting ≡ [] → Filed m.start t.treated cells
  files none = record {
    place = place;
    inside = λ l i. (found l i).within;
    apart = λ k l i j e. sym (found k i).is ∙ ap (λ i. view (at i)) e ∙ (found l j).is;
    shown = shown;
    parents = λ l i n e. parent_in l n (held.traced l (inl i)) e;
    blank_else = λ i h else. ⊎_elim
        (λ e. e)
        (λ k. absurd (else (view (at i)) (b.stored.treats i h k.treated) (sym (at_place i (view (at i)) k))))
        (not_blank none i h);
  }

  -- THE WAY BACK

  lesser : (l : Label S) (n : ℕ) → Traced m t.treated l → l.parent ≡ Some n → n < l.number
  lesser _ n (at_root l e) q = absurd (none_some (sym (ap (λ l. l.parent) e) ∙ q))
  lesser _ n (further l k x e s r a z c h) q = let same = some_same (sym e ∙ q) in omega arith

  live_label : (i : ℕ) → i < length cells → is_live (at i).status ≡ true → In (view (at i)) t.treated ⊎ In (view (at i)) t.waiting
  live_label i h live = ⊎_elim
      (λ e. inl (b.stored.treats i h e))
      (λ e. inr (b.stored.waits i h (or_rest (is_treated (at i).status) (is_waiting (at i).status) e live)))
      (cases_Bool (is_treated (at i).status))
    where
      or_rest : (x y : Bool) → x ≡ false → (x || y) ≡ true → y ≡ true
      or_rest true y e f = absurd (both_ways true e refl)
      or_rest false y e f = f

  pub falls_back : FallsBack cells
  falls_back i c q e f =
      let h = lookup_within cells i c e in
      let same : at i ≡ c = some_same (sym (lookup_getD cells i (blank m.start) h) ∙ e) in
      let up : (at i).parent ≡ Some q = ap (λ c. c.parent) same ∙ f in
      ⊎_elim
      (λ live.
      let k = b.linked i h live q.number (ap parent_number up) in
      let there : Holds (writing m.start) m cells q.place k.0 = subst (λ u. Holds (writing m.start) m cells u k.0) (ap parent_place up) k.1 in
      let less = lesser (view (at i)) q.number (held.traced (view (at i)) (live_label i h live)) (ap parent_number up) in
      let a = ap (λ l. l.number) there.is in
      let d = k.2 in
      let g = ap (λ c. c.number) same in
      (at q.place, lookup_getD cells q.place (blank m.start) there.within, there.within, omega arith))
      (λ dead. absurd (none_some (sym (ap (λ c. c.parent) (b.clean i h dead)) ∙ up)))
      (cases_Bool (is_live (at i).status))

  way_same : (f i : ℕ) → way_in f cells i ≡ way_at (writing m.start) m f cells i
  way_same zero i = refl
  way_same (suc f) i = ⊎_elim
      (λ h. ap (way_of (way_in f cells)) (lookup_getD cells i (blank m.start) h) ∙ by (way_same f) (at i).parent refl)
      (λ h. ap (way_of (way_in f cells)) (lookup_none cells i h) ∙ ap (λ (c : Cell S). after_parent_at (writing m.start) m (way_at (writing m.start) m f cells) c (parent_number c.parent)) (sym (get_or_past cells i (blank m.start) h)))
      (cases_lt i (length cells))
    where
      by : ((i : ℕ) → way_in f cells i ≡ way_at (writing m.start) m f cells i) → (o : Option Parent) → (at i).parent ≡ o → after_parent (way_in f cells) (at i).stop o ≡ after_parent_at (writing m.start) m (way_at (writing m.start) m f cells) (at i) (parent_number o)
      by more None e = refl
      by more (Some q) e = ap (λ w. w ++ (at i).stop ∷ []) (more q.place ∙ ap (way_at (writing m.start) m f cells) (sym (ap parent_place e)))

  pub way_is : (i : ℕ) (l : Label S) → Holds (writing m.start) m cells i l → way_back cells i ≡ route_to t l
  way_is i l h =
      let n : number_in (lookup cells i) ≡ l.number = ap number_in (lookup_getD cells i (blank m.start) h.within) ∙ ap (λ l. l.number) h.is in
      ap (λ f. way_in f cells i) n ∙ way_same l.number i ∙ routes_alike (writing m.start) m places (work cells p) t passed b l.number i l h
