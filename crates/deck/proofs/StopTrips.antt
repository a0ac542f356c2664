-- The lines of the stops, both ways.
use Rattle.std.proofs.Common.{◌≡◌, ℕ, zero, suc, ◌+◌, ◌*◌, ◌<◌, ◌≤◌, true, false, [], ◌++◌, length, get_or, replicate, sym, refl, ap, ◌∙◌, subst, arith, length-set, get_or-set_other, get_or-set_same}
use Rattle.std.proofs.lemmas.Bool.Decides.{nat_tests}
use Rattle.stops.specs.Stops.{most_stops, most_places}
use Rattle.text.proofs.Trips.{Any, Sounds, Takes, sounds_then, sounds_give, sounds_weaker, takes_then, takes_give}
use Rattle.form.specs.Forms.{same}
use Rattle.book.specs.declared.parts.Visit.{Visit}
use Rattle.book.specs.Ranges.{between, visit_fits, visit_blank, blank_visit, blank_leg, VisitsOk}
use Rattle.book.specs.Books.{Contents, visit_at, with_visit}
use Rattle.deck.specs.Lines.{stop_line, stop_lines}
use Rattle.deck.specs.Bytes.{stop_bytes, stops_bytes}
use Rattle.deck.proofs.LineTrips.{stop_takes, stop_sounds}
use Rattle.deck.proofs.Mixed.{mixed, mixed_none, mixed_all, mixed_set, mixed_skip, mixed_skips}

-- WHAT IS READ IS WHAT WOULD BE WRITTEN

-- c is b with other visits from j on
pub record VisitsFrom (b c : Contents) (j : ℕ) : Type 0 where
  pub stops : c.stops ≡ b.stops
  pub fleet : c.fleet ≡ b.fleet
  pub legs : c.legs ≡ b.legs
  pub long : length c.visits ≡ length b.visits
  pub before : (m : ℕ) → m < j → get_or c.visits m blank_visit ≡ get_or b.visits m blank_visit

pub stops_sounds : (k : ℕ) (b : Contents) (j : ℕ) → j + k ≤ length b.visits → Sounds (stop_lines b k j) (λ c xs. (xs ≡ stops_bytes c k j) × VisitsFrom b c j)
stops_sounds zero b j h = sounds_give b (λ c xs. (xs ≡ stops_bytes c 0 j) × VisitsFrom b c j) (refl, record { stops = refl; fleet = refl; legs = refl; long = refl; before = λ m l. refl })
stops_sounds (suc k) b j h =
    sounds_then same (stop_line b.stops j) (λ v. stop_lines (with_visit b j v) k (j + 1)) (λ v xs. (xs ≡ stop_bytes j v) × (visit_fits v ≡ true)) (λ c xs. (xs ≡ stops_bytes c (suc k) j) × VisitsFrom b c j) (stop_sounds b.stops j) (λ v x1 e1.
    let long = length-set b.visits j v in
    sounds_weaker (stop_lines (with_visit b j v) k (j + 1)) (λ c ys. (ys ≡ stops_bytes c k (j + 1)) × VisitsFrom (with_visit b j v) c (j + 1)) (λ c ys. (x1 ++ ys ≡ stops_bytes c (suc k) j) × VisitsFrom b c j) (stops_sounds k (with_visit b j v) (j + 1) (omega arith)) (λ c ys t.
    let is : visit_at c j ≡ v = t.1.before j (omega arith) ∙ get_or-set_same b.visits j v blank_visit (omega arith) in (
      (λ i. (e1.0 ∙ ap (stop_bytes j) (sym is)) i ++ t.0 i),
      record { stops = t.1.stops; fleet = t.1.fleet; legs = t.1.legs; long = t.1.long ∙ long; before = λ m l. t.1.before m (omega arith) ∙ get_or-set_other b.visits j m v blank_visit (omega arith) },
    )))

-- WHAT IS WRITTEN IS READ BACK

blank : (v : Visit) → visit_blank v ≡ true → v ≡ blank_visit
blank v e =
    let opens : v.opens ≡ 0 = grind (arith, nat_tests) in
    let closes : v.closes ≡ 0 = grind (arith, nat_tests) in
    let load : v.load ≡ 0 = grind (arith, nat_tests) in
    let charger : v.charger ≡ false = grind (arith, nat_tests) in
    λ i. record { opens = opens i; closes = closes i; load = load i; charger = charger i }

module _ (c : Contents) (few : c.stops ≤ most_stops) (ok : VisitsOk c.stops c.visits) (long : length c.visits ≡ most_places) where
  -- no stop has this number
  outside : (m : ℕ) → between 1 c.stops m ≡ false → get_or c.visits m blank_visit ≡ blank_visit
  outside m e = let here = ok m in blank _ (grind (arith, nat_tests))

  inside : (m : ℕ) → 1 ≤ m → m ≤ c.stops → visit_fits (visit_at c m) ≡ true
  inside m l h = let here = ok m in grind (arith, nat_tests)

  -- the stops below j are said, and no leg
  abbrev pub Said : ℕ → Contents
  Said j = record { stops = c.stops; fleet = c.fleet; visits = mixed blank_visit j c.visits; legs = replicate (most_places * most_places) blank_leg }

  said : (j : ℕ) → j ≤ c.stops → with_visit (Said j) j (visit_at c j) ≡ Said (j + 1)
  said j h =
      let one : suc j ≡ j + 1 = omega arith in
      ap (λ vs. record { stops = c.stops; fleet = c.fleet; visits = vs; legs = replicate (most_places * most_places) blank_leg }) (mixed_set blank_visit j c.visits (omega arith) ∙ ap (λ n. mixed blank_visit n c.visits) one)

  pub stops_takes : (k j : ℕ) → 1 ≤ j → j + k ≡ c.stops + 1 → Takes (stop_lines (Said j) k j) Any (stops_bytes c k j) (Said (c.stops + 1))
  stops_takes zero j l e = let there : j ≡ c.stops + 1 = omega arith in subst (λ n. Takes (stop_lines (Said j) 0 j) Any [] (Said n)) there (takes_give (Said j))
  stops_takes (suc k) j l e =
      takes_then same (stop_line c.stops j) (λ v. stop_lines (with_visit (Said j) j v) k (j + 1)) Any Any (stop_bytes j (visit_at c j)) (stops_bytes c k (j + 1)) (visit_at c j) (Said (c.stops + 1)) (stop_takes c.stops j (visit_at c j) l (omega arith) few (inside j l (omega arith)))
      (subst (λ b. Takes (stop_lines b k (j + 1)) Any (stops_bytes c k (j + 1)) (Said (c.stops + 1))) (sym (said j (omega arith))) (stops_takes k (j + 1) (omega arith) (omega arith)))
      (λ _ _. tt)

  -- before the first stop nothing is said, and after the last one everything
  pub none_said : replicate most_places blank_visit ≡ mixed blank_visit 1 c.visits
  none_said = ap (λ n. replicate n blank_visit) (sym long) ∙ sym (mixed_none blank_visit c.visits) ∙ mixed_skip blank_visit 0 c.visits (outside 0 refl)

  pub all_said : mixed blank_visit (c.stops + 1) c.visits ≡ c.visits
  all_said = mixed_skips blank_visit c.visits (c.stops + 1) most_places (λ m l h. outside m (grind (arith, nat_tests))) ∙ mixed_all blank_visit (c.stops + 1 + most_places) c.visits (omega arith)
