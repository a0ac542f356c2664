-- A price that is answered is right, and its floor is under every plan. Assumes nothing.
use Rattle.std.proofs.Common.{◌≡◌, ℕ, suc, ◌*◌, ◌<◌, ◌≤◌, Bool, ◌||◌, eqb, ltb, List, [], ◌∷◌, length, ℤ, pos, negsuc, ◌+ℤ◌, ◌*ℤ◌, neg_ℤ, ◌≤ℤ◌, Some, None, Option, refl, mul-le-mul_right, arith}
use Rattle.std.specs.Int.{int_min}
use Rattle.std.specs.List.{AllByRecursion}
use Rattle.std.proofs.lemmas.Int.{ints}
use Rattle.std.proofs.lemmas.Bool.{cond_both, ltb-true, ltb-false, eqb-false, or_parts}
use Rattle.tier.specs.Answers.{Answers}
use Rattle.tier.specs.Routes.{Route, plus, reduced_cost}
use Rattle.tier.specs.Plans.{Plan, total}
use Rattle.tier.specs.Meaning.{Meaning}
use Rattle.tier.specs.Laws.{Laws, PlansPay, most_tiers, greatest_key}
use Rattle.tier.proofs.Options.{some_same, and_then_some, plus_some}
use Rattle.labelling.specs.Labelling.{Finished, Table, labelling, route_to}
use Rattle.labelling.specs.Lowest.{Found}
use Rattle.labelling.proofs.Lowest.{finds_lowest}
use Rattle.calls.specs.Calls.{most_vans, most_labels, early_refusal, floor, found, labelled, unless_refused, priced}
use Rattle.calls.specs.Promises.{NoneAdmitted, Right}

-- how far below 0
depth : ℤ → ℕ
depth (pos n) = 0
depth (negsuc n) = suc n

deep : (c : ℤ) → pos 0 ≤ℤ (c +ℤ pos (depth c))
unfolding depth
deep (pos n) = omega (arith, ints)
deep (negsuc n) = omega (arith, ints)

times_depth : (vans : ℕ) (c : ℤ) → pos vans *ℤ int_min (pos 0) c ≡ neg_ℤ (pos (vans * depth c))
unfolding depth
times_depth vans (pos n) = cond_both (ltb n 0) (pos n) (pos 0) (λ x. pos vans *ℤ x ≡ neg_ℤ (pos (vans * 0))) (λ e. absurd (let z = ltb-true n 0 e in omega arith)) (λ e. omega (arith, ints))
times_depth vans (negsuc n) = refl

module _ {S : Type 0} (m : Answers S) (c : ℤ) (least : (r : List ℕ) (b : ℤ) → Route m.stops r → reduced_cost m r ≡ Some b → c ≤ℤ b) where
  -- each route falls at most as far below 0 as the lowest
  sum_above : (rs : List (List ℕ)) (z : ℤ) → AllByRecursion (Route m.stops) rs → total (reduced_cost m) rs ≡ Some z → pos 0 ≤ℤ (z +ℤ pos (length rs * depth c))
  sum_above [] z a e = let s = some_same e in omega (arith, ints)
  sum_above (r ∷ rs) z a e =
      let b = and_then_some (reduced_cost m r) (λ x. plus x (total (reduced_cost m) rs)) z e in
      let q = plus_some b.first z (total (reduced_cost m) rs) b.then in
      let l = least r b.first a.0 b.is in
      let h = sum_above rs q.rest a.1 q.is in
      let s = q.sum in
      let d = deep c in
      omega (arith, ints)

  pub floor_under : (vans : ℕ) (ground_of : List ℕ → Option ℤ) → m.tiers ≤ most_tiers → PlansPay m ground_of → (rs : List (List ℕ)) (cost : ℤ) → Plan m.stops ground_of vans rs cost → floor m vans c ≤ℤ cost
  floor_under vans ground_of few pays rs cost p =
      let y = pays few vans rs cost p in
      let a = sum_above rs y.sum p.routes y.admitted in
      let b = mul-le-mul_right (depth c) p.few in
      let t = times_depth vans c in
      let l = y.at_most in
      omega (arith, ints)

module _ {S : Type 0} (m : Answers S) (ground_of : List ℕ → Option ℤ) (pays : PlansPay m ground_of) (vans : ℕ) where
  -- where no route is admitted, stop 1 is on none
  no_plan : m.tiers ≤ most_tiers → 0 < m.stops → NoneAdmitted m → (any : ℕ) (rs : List (List ℕ)) (cost : ℤ) → Plan m.stops ground_of any rs cost → ⊥
  no_plan few some none any [] cost p = let e = p.once 1 (omega arith, some) in omega arith
  no_plan few some none any (r ∷ rs) cost p =
      let y = pays few any (r ∷ rs) cost p in
      let b = and_then_some (reduced_cost m r) (λ x. plus x (total (reduced_cost m) rs)) y.sum y.admitted in
      none r p.routes.0 (b.first, b.is)

  found_right : m.tiers ≤ most_tiers → 0 < m.stops → (t : Table S) (o : Option (Finished S)) → Found m t o → Right m ground_of vans (found m vans t o)
  found_right few some t None a = record { none_admitted = a; no_plan = no_plan few some a }
  found_right few some t (Some b) a = record {
    is_route = a.0.route;
    admitted = a.0.admitted;
    some_admitted = λ none. none (route_to t b.last) a.0.route (b.total, a.0.admitted);
    none_cheaper = a.1;
    floor_is = refl;
    plans_above = floor_under m b.total a.1 vans ground_of few pays;
  }

-- what a price that is not refused early may take for granted
pub record Allowed {S : Type 0} (m : Answers S) (vans places row : ℕ) : Type 0 where
  pub few_tiers : m.tiers ≤ most_tiers
  pub some_vans : 0 < vans
  pub few_vans : vans ≤ most_vans
  pub some_stops : 0 < m.stops
  pub some_places : 0 < places
  pub few_places : places ≤ most_labels
  pub long_row : greatest_key ≤ row

-- by cases on the refusal
pub allowed_or : {S : Type 0} (m : Answers S) (vans places row : ℕ) (P : Option ℕ → Type 0) → ((n : ℕ) → P (Some n)) → (Allowed m vans places row → P None) → P (early_refusal m vans places row)
allowed_or m vans places row P barred allowed =
    cond_both (ltb most_tiers m.tiers) (Some 1) _ P (λ _. barred 1) (λ e1.
    cond_both (eqb vans 0 || ltb most_vans vans) (Some 2) _ P (λ _. barred 2) (λ e2.
    cond_both (eqb m.stops 0 || (eqb places 0 || ltb most_labels places)) (Some 3) _ P (λ _. barred 3) (λ e3.
    cond_both (ltb row greatest_key) (Some 4) None P (λ _. barred 4) (λ e4.
    let p = or_parts (eqb m.stops 0) (eqb places 0 || ltb most_labels places) e3 in
    let q = or_parts (eqb places 0) (ltb most_labels places) p.1 in
    let v = or_parts (eqb vans 0) (ltb most_vans vans) e2 in
    let n1 = eqb-false m.stops 0 p.0 in
    let n2 = eqb-false places 0 q.0 in
    let n3 = eqb-false vans 0 v.0 in
    allowed (record {
      few_tiers = ltb-false most_tiers m.tiers e1;
      some_vans = omega arith;
      few_vans = ltb-false most_vans vans v.1;
      some_stops = omega arith;
      some_places = omega arith;
      few_places = ltb-false most_labels places q.1;
      long_row = ltb-false row greatest_key e4;
    })))))

-- with any order
pub priced_right : {S : Type 0} (d : Meaning S) (v : d.Value) → Laws d v → (earlier : S → S → Bool) (vans places row : ℕ) → Right (d.answers v) (d.ground_of v) vans (priced (d.answers v) earlier vans places row)
priced_right {S} d v laws earlier vans places row =
    allowed_or (d.answers v) vans places row (λ o. Right (d.answers v) (d.ground_of v) vans (unless_refused o (labelled (d.answers v) vans (labelling (d.answers v) earlier places)))) (λ n. tt) (λ a. by a (labelling (d.answers v) earlier places) refl)
  where
    by : Allowed (d.answers v) vans places row → (o : Option (Table S)) → labelling (d.answers v) earlier places ≡ o → Right (d.answers v) (d.ground_of v) vans (labelled (d.answers v) vans o)
    by a None e = tt
    by a (Some t) e = found_right (d.answers v) (d.ground_of v) laws.plans vans a.few_tiers a.some_stops t t.best (finds_lowest (d.answers v) earlier places t laws.gaps a.some_places e)
