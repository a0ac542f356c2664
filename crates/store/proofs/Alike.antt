-- Labelling on a store of places goes beside labelling as it is defined, whatever the answers. Assumes nothing.
use Rattle.std.proofs.Common.{◌≡◌, ℕ, zero, suc, ◌<◌, true, false, eqb, List, [], ◌∷◌, ◌++◌, length, set, replicate, Some, None, sum_by, Option, sym, refl, ap, ◌∙◌, subst, ⊎_elim, arith}
use lib.ListN.{length-replicate, get_or-replicate}
use Rattle.std.proofs.lemmas.List.{length-set}
use Rattle.std.proofs.lemmas.List.Sums.{sum_by-cons}
use Rattle.std.proofs.lemmas.Bool.{or_right, eqb-true, both_ways, cases_eq}
use Rattle.tier.specs.Answers.{Answers}
use Rattle.tier.specs.Routes.{and_then}
use Rattle.tier.proofs.Options.{none_some, some_same}
use Rattle.labelling.specs.Members.{In}
use Rattle.labelling.specs.Labelling.{Label, Table, by_key, root, begin, treat, find, after_parent, way_to}
use Rattle.labelling.specs.Moments.{Passed}
use Rattle.labelling.proofs.Holds.{HeldIn, held_passed}
use Rattle.store.specs.Places.{Reading, is_live, weigh, Stored, First, Picks}
use Rattle.store.specs.Works.{Writing, Work, treat_at, begin_at, Holds, Linked, Clean, Beside, Matches, after_parent_at, way_at, Alike}
use Rattle.store.proofs.Weights.{sum_in, sum_none, sum_two, sum_found}
use Rattle.store.proofs.Places.{cell_at, named, named_own, treated_live, blank_free, weigh_treated, weigh_blank, treated_weighs, written, was_inside, kept, none_waits}
use Rattle.store.proofs.Turns.{treat_matches}
use Rattle.store.proofs.Numbers.{once_passed}

module _ {C S : Type 0} (k : Writing C S) (m : Answers S) (places : ℕ) where
  abbrev r : Reading C S
  r = k.reading

  abbrev at : List C → ℕ → C
  at cells i = cell_at k.reading cells i

  -- THE BEGINNING

  abbrev empty : List C
  empty = replicate places r.blank

  empty_sum : (f g : Label S → ℕ) (n : ℕ) → sum_by (weigh r f g) (replicate n r.blank) ≡ 0
  empty_sum f g zero = refl
  empty_sum f g (suc n) = let a = sum_by-cons (weigh r f g) r.blank (replicate n r.blank) in let b = weigh_blank r f g r.blank (blank_free r) in let c = empty_sum f g n in omega arith

  empty_read : (i : ℕ) → i < length empty → at empty i ≡ r.blank
  empty_read i l = let e = length-replicate places r.blank in get_or-replicate places i r.blank r.blank (omega arith)

  empty_stored : Stored r empty [] []
  empty_stored = record {
    same = λ f g. empty_sum f g places;
    treats = λ i l e. absurd (both_ways (r.is_treated r.blank) r.blank_treated (ap r.is_treated (sym (empty_read i l)) ∙ e));
    waits = λ i l e. absurd (both_ways (r.is_waiting r.blank) r.blank_waits (ap r.is_waiting (sym (empty_read i l)) ∙ e));
  }

  module _ (a : 0 < length empty) where
    abbrev first : C
    first = k.fresh 0 (root m)

    -- the root's place, and each other, which is blank
    first_each : (P : C → Type 0) (j : ℕ) → j < length (set empty 0 first) → P first → P r.blank → P (at (set empty 0 first) j)
    first_each P j h p q = written r empty 0 first a P j (λ _. p) (λ _. subst P (sym (empty_read j (was_inside r empty 0 first a j h))) q)

    first_linked : Linked k m (set empty 0 first)
    first_linked j h = first_each (λ z. is_live r z ≡ true → (n : ℕ) → (r.view z).parent ≡ Some n → (q : Label S) × Holds k m (set empty 0 first) (k.up z) q × (q.number ≡ n)) j h
        (λ _ n e. absurd (none_some (ap (λ l. l.parent) (sym (k.fresh_view 0 (root m))) ∙ e)))
        (λ e. absurd (both_ways (is_live r r.blank) (blank_free r) e))

    first_clean : Clean k m (set empty 0 first)
    first_clean j h = first_each (λ z. is_live r z ≡ false → z ≡ r.blank) j h
        (λ e. absurd (both_ways (is_live r first) e (or_right (r.is_treated first) (r.is_waiting first) (k.fresh_waits 0 (root m)))))
        (λ _. refl)

  -- the root's store beside the root's table
  pub begins_alike : 0 < places → Beside k m places None (begin_at k m places) (begin m)
  begins_alike a =
      let c = k.fresh 0 (root m) in
      let e = length-replicate places r.blank in
      let l : 0 < length empty = omega arith in
      record {
        long = length-set empty 0 c ∙ e;
        stored = subst (λ l. Stored r (set empty 0 c) [] (l ∷ [])) (k.fresh_view 0 (root m)) (kept r empty [] [] empty_stored 0 c l (ap (is_live r) (empty_read 0 l) ∙ blank_free r) (k.fresh_waits 0 (root m)));
        best = tt;
        held = tt;
        linked = first_linked l;
        clean = first_clean l;
        kept = refl;
        struck = refl;
        turned = refl;
      }

  -- BETWEEN TURNS

  module _ (s : Work C) (t : Table S) (passed : Passed m (by_key m) places t) (b : Beside k m places None s t) where
    inv : HeldIn m t
    inv = held_passed m (by_key m) places t passed

    -- a turn, at any place that is the first
    pub turn_alike : (i : ℕ) → First k.reading (λ l. m.key l.state) s.cells i → Matches k m places None (treat_at k m i s) (treat m (by_key m) places t)
    turn_alike i fi = treat_matches k m places s t b inv.rising i fi

    -- none waits in the store: none waits in the definition
    pub done_alike : Picks k.reading (λ l. m.key l.state) s.cells None → t.waiting ≡ []
    done_alike p = none_waits r s.cells t.treated t.waiting b.stored inv.rising p

    -- each treated label has a place
    pub has_place : (l : Label S) → In l t.treated → (i : ℕ) × Holds k m s.cells i l
    has_place l i =
        let own = named_own l in
        let a = sum_in (named l.number) l t.treated i in
        let d = b.stored.same (named l.number) (λ _. 0) in
        let some : 0 < sum_by (weigh r (named l.number) (λ _. 0)) s.cells = omega arith in
        let f = sum_found (weigh r (named l.number) (λ _. 0)) s.cells r.blank some in
        let w = treated_weighs r (λ a. eqb a.number l.number) (at s.cells f.0) f.2 in
        let v = r.view (at s.cells f.0) in
        let e = eqb-true v.number l.number w.1 in
        (f.0, record { within = f.1; treated = w.0; is = some_same (sym (inv.known v (b.stored.treats f.0 f.1 w.0)) ∙ ap (λ n. find n t.treated) e ∙ inv.known l i) })

    -- and no other: two places would count twice
    pub one_place : (l : Label S) (i j : ℕ) → Holds k m s.cells i l → Holds k m s.cells j l → i ≡ j
    one_place l i j p q = ⊎_elim (λ e. e) (λ n. absurd (twice n)) (cases_eq i j)
      where
        counts : (i : ℕ) → Holds k m s.cells i l → weigh r (named l.number) (λ _. 0) (at s.cells i) ≡ 1
        counts i p = weigh_treated r (named l.number) (λ _. 0) (at s.cells i) p.treated ∙ ap (named l.number) p.is ∙ named_own l

        twice : (i ≡ j → ⊥) → ⊥
        twice n =
            let two = sum_two (weigh r (named l.number) (λ _. 0)) s.cells i j r.blank p.within q.within n in
            let a = counts i p in
            let c = counts j q in
            let d = b.stored.same (named l.number) (λ _. 0) in
            let z = sum_none (λ _. 0) t.waiting (λ y i. refl) in
            let o = once_passed m (by_key m) places t passed l.number in
            omega arith

    -- the route read off the places is the definition's
    pub routes_alike : (f i : ℕ) (l : Label S) → Holds k m s.cells i l → way_at k m f s.cells i ≡ way_to f t.treated l
    routes_alike zero i l h = refl
    routes_alike (suc f) i l h = subst (λ l. way_at k m (suc f) s.cells i ≡ way_to (suc f) t.treated l) h.is (by (routes_alike f) (r.view (at s.cells i)).parent refl)
      where
        by : ((i : ℕ) (l : Label S) → Holds k m s.cells i l → way_at k m f s.cells i ≡ way_to f t.treated l) → (o : Option ℕ) → (r.view (at s.cells i)).parent ≡ o → after_parent_at k m (way_at k m f s.cells) (at s.cells i) o ≡ after_parent (way_to f t.treated) (r.view (at s.cells i)) (and_then o (λ p. find p t.treated))
        by more None e = refl
        by more (Some n) e =
            let a = b.linked i h.within (treated_live r (at s.cells i) h.treated) n e in
            let q = a.0 in
            let known = inv.known q (subst (λ z. In z t.treated) a.1.is (b.stored.treats (k.up (at s.cells i)) a.1.within a.1.treated)) in
            let found : find n t.treated ≡ Some q = ap (λ z. find z t.treated) (sym a.2) ∙ known in
            ap (λ z. z ++ (r.view (at s.cells i)).stop ∷ []) (more (k.up (at s.cells i)) q a.1) ∙ sym (ap (after_parent (way_to f t.treated) (r.view (at s.cells i))) found)

-- all of it
pub works_alike : {C S : Type 0} → (k : Writing C S) (m : Answers S) (places : ℕ) → Alike k m places
works_alike k m places = record {
  begins = begins_alike k m places;
  turn = λ s t i p b fi. turn_alike k m places s t p b i fi;
  done = λ s t p b none. done_alike k m places s t p b none;
  placed = λ s t p b. has_place k m places s t p b;
  alone = λ s t p b. one_place k m places s t p b;
  routes = λ s t p b. routes_alike k m places s t p b;
}
