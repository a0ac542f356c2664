-- What a book keeps of its numbers, as facts, and that each call keeps it. Assumes nothing.
use Rattle.std.proofs.Common.{◌≡◌, ℕ, ◌<◌, ◌≤◌, Bool, true, false, cond, ◌&&◌, eqb, leb, List, get_or, set, replicate, sym, refl, subst, ⊎_elim, arith, get_or-set_other}
use Rattle.std.proofs.lemmas.Bool.{cases_eq, cases_lt, leb-true, eqb-true, true≢false, and_parts}
use Rattle.std.proofs.lemmas.Bool.Decides.{nat_tests}
use Rattle.stops.specs.Stops.{Stop, most_stops, most_places}
use Rattle.stops.proofs.Lists.{each_copy, get_or_set_at}
use Rattle.book.specs.Limits.{most_made, last_minute, most_minutes, most_cost}
use Rattle.book.specs.Ranges.{between, fleet_fits, fleet_ok, visit_fits, visit_ok, leg_fits, leg_ok, blank_visit, blank_leg, apart, leg_index, VisitsOk, LegsOk}
use Rattle.book.specs.Books.{Contents, can_put_visit, can_put_leg}
use Rattle.book.specs.declared.parts.Fleet.{Fleet}
use Rattle.book.specs.declared.parts.Visit.{Visit}
use Rattle.book.specs.declared.parts.Leg.{Leg}

-- FACTS

pub few_stops : (stops : ℕ) (f : Fleet) → fleet_ok stops f ≡ true → stops ≤ most_stops
few_stops stops f e = grind (arith, nat_tests)

pub most_in_range : (stops : ℕ) (f : Fleet) → fleet_ok stops f ≡ true → f.most ≤ most_made
most_in_range stops f e = grind (arith, nat_tests)

pub closes_in_day : (stops j : ℕ) (v : Visit) → visit_ok stops j v ≡ true → v.closes ≤ last_minute
closes_in_day stops j v e = grind (arith, nat_tests)

pub record LegInRange (l : Leg) : Type 0 where
  pub cost : l.cost ≤ most_cost
  pub some : 0 < l.minutes
  pub minutes : l.minutes ≤ most_minutes

-- between different places, and for any two places of the table
pub leg_in_range : (stops i j : ℕ) (l : Leg) → j < most_places → leg_ok stops i j l ≡ true → LegInRange l
leg_in_range stops i j l h e = record { cost = grind (arith, nat_tests); some = grind (arith, nat_tests); minutes = grind (arith, nat_tests) }

apart_to : (stops i j : ℕ) → apart stops i j ≡ true → j ≤ stops
apart_to stops i j e = grind (arith, nat_tests)

pub apart_of : (stops i j : ℕ) → i ≤ stops → j ≤ stops → (i ≡ j → ⊥) → apart stops i j ≡ true
apart_of stops i j a b n = grind (arith, nat_tests)

-- past a row there is nothing to keep
outside : (stops i j : ℕ) (l : Leg) → stops ≤ most_stops → most_places ≤ j → leg_ok stops i j l ≡ true
outside stops i j l few h = grind (arith, nat_tests)

-- A NEW BOOK

pub fleet_ok_of : (stops : ℕ) (f : Fleet) → fleet_fits stops f ≡ true → fleet_ok stops f ≡ true
fleet_ok_of stops f e = grind (arith, nat_tests)

blank_visit_ok : (stops j : ℕ) → visit_ok stops j blank_visit ≡ true
blank_visit_ok stops j = grind (arith, nat_tests)

blank_leg_ok : (stops i j : ℕ) → leg_ok stops i j blank_leg ≡ true
blank_leg_ok stops i j = grind (arith, nat_tests)

pub visits_blank : (n stops : ℕ) → VisitsOk stops (replicate n blank_visit)
visits_blank n stops j = each_copy (λ v. visit_ok stops j v ≡ true) blank_visit n blank_visit (blank_visit_ok stops j) (blank_visit_ok stops j) j

pub legs_blank : (n stops : ℕ) → LegsOk stops (replicate n blank_leg)
legs_blank n stops i j = each_copy (λ l. leg_ok stops i j l ≡ true) blank_leg n blank_leg (blank_leg_ok stops i j) (blank_leg_ok stops i j) (leg_index i j)

-- PUTTING

pub visits_put : (stops : ℕ) (visits : List Visit) (j : ℕ) (v : Visit) → Stop stops j → visit_fits v ≡ true → VisitsOk stops visits → VisitsOk stops (set visits j v)
visits_put stops visits j v s e h k =
    ⊎_elim
    (λ q. subst (λ n. visit_ok stops n (get_or (set visits j v) n blank_visit) ≡ true) (sym q) (get_or_set_at (λ x. visit_ok stops j x ≡ true) visits j v blank_visit here (h j)))
    (λ n. subst (λ x. visit_ok stops k x ≡ true) (sym (get_or-set_other visits j k v blank_visit n)) (h k))
    (cases_eq k j)
  where
    here : visit_ok stops j v ≡ true
    here = let a = s.0 in let b = s.1 in grind (arith, nat_tests)

pub legs_put : (stops : ℕ) (legs : List Leg) (i j : ℕ) (l : Leg) → stops ≤ most_stops → apart stops i j ≡ true → leg_fits l ≡ true → LegsOk stops legs → LegsOk stops (set legs (leg_index i j) l)
legs_put stops legs i j l few a e h f t =
    ⊎_elim
    (λ q. ⊎_elim (same q) past (cases_lt t most_places))
    (λ n. subst (λ x. leg_ok stops f t x ≡ true) (sym (get_or-set_other legs (leg_index i j) (leg_index f t) l blank_leg n)) (h f t))
    (cases_eq (leg_index f t) (leg_index i j))
  where
    -- the place of no two places
    past : most_places ≤ t → leg_ok stops f t (get_or (set legs (leg_index i j) l) (leg_index f t) blank_leg) ≡ true
    past m = outside stops f t (get_or (set legs (leg_index i j) l) (leg_index f t) blank_leg) few m

    here : leg_ok stops i j l ≡ true
    here = grind (arith, nat_tests)

    -- the same two places
    same : leg_index f t ≡ leg_index i j → t < most_places → leg_ok stops f t (get_or (set legs (leg_index i j) l) (leg_index f t) blank_leg) ≡ true
    same q m =
        let inside : j ≤ stops = apart_to stops i j a in
        let rows : f ≡ i = omega arith in
        let columns : t ≡ j = omega arith in
        subst (λ n. leg_ok stops n t (get_or (set legs (leg_index i j) l) (leg_index n t) blank_leg) ≡ true) (sym rows)
        (subst (λ n. leg_ok stops i n (get_or (set legs (leg_index i j) l) (leg_index i n) blank_leg) ≡ true) (sym columns)
        (get_or_set_at (λ x. leg_ok stops i j x ≡ true) legs (leg_index i j) l blank_leg here (h i j)))

-- WHICH VISITS AND LEGS CAN BE PUT

pub record TakenVisit (b : Contents) (j : ℕ) (v : Visit) : Type 0 where
  pub stop : Stop b.stops j
  pub fits : visit_fits v ≡ true

pub taken_visit : (b : Contents) (j : ℕ) (v : Visit) → can_put_visit b j v ≡ true → TakenVisit b j v
taken_visit b j v e =
    let p = and_parts (between 1 b.stops j) (visit_fits v) e in
    let q = and_parts (leb 1 j) (leb j b.stops) p.0 in
    record { stop = (leb-true _ _ q.0, leb-true _ _ q.1); fits = p.1 }

pub record TakenLeg (b : Contents) (i j : ℕ) (l : Leg) : Type 0 where
  pub from : i ≤ b.stops
  pub to : j ≤ b.stops
  pub fits : leg_fits l ≡ true

pub taken_leg : (b : Contents) (i j : ℕ) (l : Leg) → can_put_leg b i j l ≡ true → (i ≡ j → ⊥) → TakenLeg b i j l
taken_leg b i j l e n = by (leb i b.stops) (leb j b.stops) (eqb i j) refl refl refl e
  where
    by : (x y z : Bool) → leb i b.stops ≡ x → leb j b.stops ≡ y → eqb i j ≡ z → ((x && y) && cond z (eqb l.cost 0 && eqb l.minutes 0) (leg_fits l)) ≡ true → TakenLeg b i j l
    by true true true f g h e = absurd (n (eqb-true i j h))
    by true true false f g h e = record { from = leb-true _ _ f; to = leb-true _ _ g; fits = e }
    by true false z f g h e = absurd (true≢false (sym e))
    by false true z f g h e = absurd (true≢false (sym e))
    by false false z f g h e = absurd (true≢false (sym e))
