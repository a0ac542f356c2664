-- The lines of the legs, both ways.
use Rattle.std.proofs.Common.{◌≡◌, ℕ, zero, suc, ◌+◌, ◌-◌, ◌*◌, ◌/◌, ◌%◌, ◌<◌, ◌≤◌, Bool, true, false, cond, eqb, List, [], ◌++◌, length, get_or, set, replicate, sym, refl, ap, ◌∙◌, subst, arith, length-set, get_or-set_other, get_or-set_same}
use Rattle.std.proofs.lemmas.Bool.Decides.{nat_tests}
use Rattle.stops.specs.Stops.{most_stops, most_places}
use Rattle.text.proofs.Trips.{NoDigit, Any, Sounds, Takes, sounds_then, sounds_give, sounds_weaker, takes_then, takes_give}
use Rattle.words.specs.declared.vocabulary.Keyword.TheVariants.{Legs}
use Rattle.form.specs.Forms.{same}
use Rattle.bounds.specs.declared.fault.BookFault.TheVariants.{Form}
use Rattle.bounds.specs.Bounds.{numbered_opening, line_closing}
use Rattle.bounds.specs.Bytes.{numbered_start, line_end}
use Rattle.bounds.proofs.Trips.{numbered_takes, numbered_sounds, close_takes, close_sounds}
use Rattle.book.specs.declared.parts.Leg.{Leg}
use Rattle.book.specs.Limits.{most_cost, most_minutes}
use Rattle.book.specs.Ranges.{leg_fits, leg_blank, leg_index, blank_leg, apart, LegsOk}
use Rattle.book.specs.Books.{Contents, no_leg, leg_at, with_leg}
use Rattle.deck.specs.Lines.{leg_pair, leg_pairs, leg_line, leg_lines}
use Rattle.deck.specs.Bytes.{leg_bytes, pairs_bytes, leg_line_bytes, leg_lines_bytes}
use Rattle.deck.proofs.LineTrips.{LegBetween, leg_takes, leg_sounds}
use Rattle.deck.proofs.Mixed.{mixed, mixed_none, mixed_all, mixed_set, mixed_skip, mixed_skips}

-- WHAT IS READ IS WHAT WOULD BE WRITTEN

-- c is b with other legs from m on
pub record LegsFrom (b c : Contents) (m : ℕ) : Type 0 where
  pub stops : c.stops ≡ b.stops
  pub fleet : c.fleet ≡ b.fleet
  pub visits : c.visits ≡ b.visits
  pub long : length c.legs ≡ length b.legs
  pub before : (n : ℕ) → n < m → get_or c.legs n blank_leg ≡ get_or b.legs n blank_leg

unchanged : (b : Contents) (m : ℕ) → LegsFrom b b m
unchanged b m = record { stops = refl; fleet = refl; visits = refl; long = refl; before = λ n l. refl }

onward : (a b c : Contents) (m n : ℕ) → m ≤ n → LegsFrom a b m → LegsFrom b c n → LegsFrom a c m
onward a b c m n h s t = record { stops = t.stops ∙ s.stops; fleet = t.fleet ∙ s.fleet; visits = t.visits ∙ s.visits; long = t.long ∙ s.long; before = λ k l. t.before k (omega arith) ∙ s.before k l }

-- a leg from a place to itself
nowhere : (x : Leg) → x.cost ≤ 0 → x.minutes ≤ 0 → x ≡ no_leg
nowhere x h l =
    let cost : x.cost ≡ 0 = omega arith in
    let minutes : x.minutes ≡ 0 = omega arith in
    λ i. record { cost = cost i; minutes = minutes i }

module _ (b : Contents) (i j : ℕ) (x : Leg) (room : leg_index i j < length b.legs) where
  put : LegsFrom b (with_leg b i j x) (leg_index i j)
  put = by (eqb i j)
    where
      by : (t : Bool) → LegsFrom b (cond t b (record { stops = b.stops; fleet = b.fleet; visits = b.visits; legs = set b.legs (leg_index i j) x })) (leg_index i j)
      by true = unchanged b (leg_index i j)
      by false = record { stops = refl; fleet = refl; visits = refl; long = length-set b.legs (leg_index i j) x; before = λ n l. get_or-set_other b.legs (leg_index i j) n x blank_leg (omega arith) }

  -- the leg that was put is the one that stands there
  stands : LegBetween i j x → (c : Contents) → LegsFrom (with_leg b i j x) c (leg_index i j + 1) → leg_at c i j ≡ x
  stands r c t = by (eqb i j) r.0 r.2 (t.before (leg_index i j) (omega arith))
    where
      by : (t : Bool) → x.cost ≤ cond t 0 most_cost → x.minutes ≤ cond t 0 most_minutes → get_or c.legs (leg_index i j) blank_leg ≡ get_or (cond t b (record { stops = b.stops; fleet = b.fleet; visits = b.visits; legs = set b.legs (leg_index i j) x })).legs (leg_index i j) blank_leg → cond t no_leg (get_or c.legs (leg_index i j) blank_leg) ≡ x
      by true h l e = sym (nowhere x h l)
      by false h l e = e ∙ get_or-set_same b.legs (leg_index i j) x blank_leg room

pub pairs_sounds : (i k : ℕ) (b : Contents) (j : ℕ) → leg_index i j + k ≤ length b.legs → Sounds (leg_pairs i b k j) (λ c xs. (xs ≡ pairs_bytes c i k j) × LegsFrom b c (leg_index i j))
pairs_sounds i zero b j h = sounds_give b (λ c xs. (xs ≡ pairs_bytes c i 0 j) × LegsFrom b c (leg_index i j)) (refl, unchanged b (leg_index i j))
pairs_sounds i (suc k) b j h =
    sounds_then same (leg_pair i j) (λ x. leg_pairs i (with_leg b i j x) k (j + 1)) (λ x xs. (xs ≡ leg_bytes x) × LegBetween i j x) (λ c xs. (xs ≡ pairs_bytes c i (suc k) j) × LegsFrom b c (leg_index i j)) (leg_sounds i j) (λ x x1 e1.
    let here = put b i j x (omega arith) in
    let long = here.long in
    let next : leg_index i (j + 1) ≡ leg_index i j + 1 = omega arith in
    sounds_weaker (leg_pairs i (with_leg b i j x) k (j + 1)) (λ c ys. (ys ≡ pairs_bytes c i k (j + 1)) × LegsFrom (with_leg b i j x) c (leg_index i (j + 1))) (λ c ys. (x1 ++ ys ≡ pairs_bytes c i (suc k) j) × LegsFrom b c (leg_index i j)) (pairs_sounds i k (with_leg b i j x) (j + 1) (omega arith)) (λ c ys t.
    let rest = subst (LegsFrom (with_leg b i j x) c) next t.1 in
    let is : leg_at c i j ≡ x = stands b i j x (omega arith) e1.1 c rest in
    ((λ n. (e1.0 ∙ ap leg_bytes (sym is)) n ++ t.0 n), onward b (with_leg b i j x) c (leg_index i j) (leg_index i j + 1) (omega arith) here rest)))

-- legs that are the same are written the same
pairs_same : (b c : Contents) (i m k j : ℕ) → ((n : ℕ) → n < m → get_or c.legs n blank_leg ≡ get_or b.legs n blank_leg) → leg_index i j + k ≤ m → pairs_bytes b i k j ≡ pairs_bytes c i k j
pairs_same b c i m zero j e h = refl
pairs_same b c i m (suc k) j e h = λ n. leg_bytes (cond (eqb i j) no_leg (sym (e (leg_index i j) (omega arith)) n)) ++ pairs_same b c i m k (j + 1) e (omega arith) n

line_sounds : (b : Contents) (i : ℕ) → leg_index i 0 + suc b.stops ≤ length b.legs → Sounds (leg_line b i) (λ c xs. (xs ≡ numbered_start Legs i ++ (pairs_bytes c i (suc b.stops) 0 ++ line_end)) × LegsFrom b c (leg_index i 0))
line_sounds b i h =
    let V : Contents → List ℕ → Type 0 = λ c xs. (xs ≡ numbered_start Legs i ++ (pairs_bytes c i (suc b.stops) 0 ++ line_end)) × LegsFrom b c (leg_index i 0) in
    sounds_then same (numbered_opening Legs 0 b.stops i) _ (λ _ xs. xs ≡ numbered_start Legs i) V (numbered_sounds Legs 0 b.stops i) (λ _ x1 e1.
    sounds_then same (leg_pairs i b (suc b.stops) 0) _ _ (λ y ys. V y (x1 ++ ys)) (pairs_sounds i (suc b.stops) b 0 h) (λ c x2 e2.
    sounds_then Form line_closing _ (λ _ xs. xs ≡ line_end) (λ y ys. V y (x1 ++ (x2 ++ ys))) close_sounds (λ _ x3 e3.
    sounds_give c _ (rw (e1, e2.0, e3), e2.1))))

pub lines_sounds : (k : ℕ) (b : Contents) (i : ℕ) → b.stops ≤ most_stops → leg_index (i + k) 0 ≤ length b.legs → Sounds (leg_lines b k i) (λ c xs. (xs ≡ leg_lines_bytes c k i) × LegsFrom b c (leg_index i 0))
lines_sounds zero b i few h = sounds_give b (λ c xs. (xs ≡ leg_lines_bytes c 0 i) × LegsFrom b c (leg_index i 0)) (refl, unchanged b (leg_index i 0))
lines_sounds (suc k) b i few h =
    sounds_then same (leg_line b i) (λ a. leg_lines a k (i + 1)) (λ a xs. (xs ≡ numbered_start Legs i ++ (pairs_bytes a i (suc b.stops) 0 ++ line_end)) × LegsFrom b a (leg_index i 0)) (λ c xs. (xs ≡ leg_lines_bytes c (suc k) i) × LegsFrom b c (leg_index i 0)) (line_sounds b i (omega arith)) (λ a x1 e1.
    let long = e1.1.long in
    let stops = e1.1.stops in
    sounds_weaker (leg_lines a k (i + 1)) (λ c ys. (ys ≡ leg_lines_bytes c k (i + 1)) × LegsFrom a c (leg_index (i + 1) 0)) (λ c ys. (x1 ++ ys ≡ leg_lines_bytes c (suc k) i) × LegsFrom b c (leg_index i 0)) (lines_sounds k a (i + 1) (omega arith) (omega arith)) (λ c ys t.
    let kept : pairs_bytes a i (suc b.stops) 0 ≡ pairs_bytes c i (suc b.stops) 0 = pairs_same a c i (leg_index (i + 1) 0) (suc b.stops) 0 t.1.before (omega arith) in
    let count : suc b.stops ≡ suc c.stops = ap suc (sym (t.1.stops ∙ stops)) in
    let line : x1 ≡ leg_line_bytes c i = e1.0 ∙ ap (λ l. numbered_start Legs i ++ (l ++ line_end)) (kept ∙ ap (λ n. pairs_bytes c i n 0) count) in
    ((λ n. line n ++ t.0 n), onward b a c (leg_index i 0) (leg_index (i + 1) 0) (omega arith) e1.1 t.1)))

-- WHAT IS WRITTEN IS READ BACK

blank : (x : Leg) → leg_blank x ≡ true → x ≡ blank_leg
blank x e =
    let cost : x.cost ≡ 0 = grind (arith, nat_tests) in
    let minutes : x.minutes ≡ 1 = grind (arith, nat_tests) in
    λ i. record { cost = cost i; minutes = minutes i }

-- which places are apart
to_itself : (stops i j : ℕ) → eqb i j ≡ true → apart stops i j ≡ false
to_itself stops i j e = grind (arith, nat_tests)

to_another : (stops i j : ℕ) → i ≤ stops → j ≤ stops → eqb i j ≡ false → apart stops i j ≡ true
to_another stops i j h l e = grind (arith, nat_tests)

past_column : (stops i j : ℕ) → stops < j → apart stops i j ≡ false
past_column stops i j h = grind (arith, nat_tests)

past_row : (stops i j : ℕ) → stops < i → apart stops i j ≡ false
past_row stops i j h = grind (arith, nat_tests)

none_apart : (i j : ℕ) → apart 0 i j ≡ false
none_apart i j = grind (arith, nat_tests)

fits_between : (x : Leg) → leg_fits x ≡ true → (x.cost ≤ most_cost) × (1 ≤ x.minutes) × (x.minutes ≤ most_minutes)
fits_between x f = (grind (arith, nat_tests), grind (arith, nat_tests), grind (arith, nat_tests))

module _ (c : Contents) (few : c.stops ≤ most_stops) (ok : LegsOk c.stops c.legs) (long : length c.legs ≡ most_places * most_places) where
  -- no two different places
  outside : (i j : ℕ) → j < most_places → apart c.stops i j ≡ false → get_or c.legs (leg_index i j) blank_leg ≡ blank_leg
  outside i j h e =
      let here = ok i j in
      blank _ (grind (arith, nat_tests))

  inside : (i j : ℕ) → apart c.stops i j ≡ true → leg_fits (get_or c.legs (leg_index i j) blank_leg) ≡ true
  inside i j e = let here = ok i j in grind (arith, nat_tests)

  -- the legs below m are said
  abbrev pub Driven : ℕ → Contents
  Driven m = record { stops = c.stops; fleet = c.fleet; visits = c.visits; legs = mixed blank_leg m c.legs }

  driven : (i j : ℕ) → i ≤ c.stops → j ≤ c.stops → with_leg (Driven (leg_index i j)) i j (leg_at c i j) ≡ Driven (leg_index i j + 1)
  driven i j h l = by (eqb i j) refl
    where
      one : suc (leg_index i j) ≡ leg_index i j + 1
      one = omega arith

      by : (t : Bool) → eqb i j ≡ t → cond t (Driven (leg_index i j)) (record { stops = c.stops; fleet = c.fleet; visits = c.visits; legs = set (mixed blank_leg (leg_index i j) c.legs) (leg_index i j) (cond t no_leg (get_or c.legs (leg_index i j) blank_leg)) }) ≡ Driven (leg_index i j + 1)
      by true e = ap (λ ls. record { stops = c.stops; fleet = c.fleet; visits = c.visits; legs = ls }) (mixed_skip blank_leg (leg_index i j) c.legs (outside i j (omega arith) (to_itself c.stops i j e)) ∙ ap (λ n. mixed blank_leg n c.legs) one)
      by false e = ap (λ ls. record { stops = c.stops; fleet = c.fleet; visits = c.visits; legs = ls }) (mixed_set blank_leg (leg_index i j) c.legs (omega arith) ∙ ap (λ n. mixed blank_leg n c.legs) one)

  in_range : (i j : ℕ) → i ≤ c.stops → j ≤ c.stops → LegBetween i j (leg_at c i j)
  in_range i j h l = by (eqb i j) refl
    where
      by : (t : Bool) → eqb i j ≡ t → ((cond t no_leg (get_or c.legs (leg_index i j) blank_leg)).cost ≤ cond t 0 most_cost) × (cond t 0 1 ≤ (cond t no_leg (get_or c.legs (leg_index i j) blank_leg)).minutes) × ((cond t no_leg (get_or c.legs (leg_index i j) blank_leg)).minutes ≤ cond t 0 most_minutes)
      by true e = (omega arith, omega arith, omega arith)
      by false e = let f = inside i j (to_another c.stops i j h l e) in fits_between _ f

  pub pairs_takes : (i k j : ℕ) → i ≤ c.stops → j + k ≡ suc c.stops → Takes (leg_pairs i (Driven (leg_index i j)) k j) Any (pairs_bytes c i k j) (Driven (leg_index i j + k))
  pairs_takes i zero j h e = let there : leg_index i j ≡ leg_index i j + 0 = omega arith in subst (λ n. Takes (leg_pairs i (Driven (leg_index i j)) 0 j) Any [] (Driven n)) there (takes_give (Driven (leg_index i j)))
  pairs_takes i (suc k) j h e =
      let l : j ≤ c.stops = omega arith in
      let next : leg_index i (j + 1) ≡ leg_index i j + 1 = omega arith in
      let end : leg_index i (j + 1) + k ≡ leg_index i j + suc k = omega arith in
      let rest : Takes (leg_pairs i (Driven (leg_index i (j + 1))) k (j + 1)) Any (pairs_bytes c i k (j + 1)) (Driven (leg_index i (j + 1) + k)) = pairs_takes i k (j + 1) h (omega arith) in
      let put : with_leg (Driven (leg_index i j)) i j (leg_at c i j) ≡ Driven (leg_index i (j + 1)) = driven i j h l ∙ ap Driven (sym next) in
      takes_then same (leg_pair i j) (λ x. leg_pairs i (with_leg (Driven (leg_index i j)) i j x) k (j + 1)) Any Any (leg_bytes (leg_at c i j)) (pairs_bytes c i k (j + 1)) (leg_at c i j) (Driven (leg_index i j + suc k)) (leg_takes i j (leg_at c i j) (in_range i j h l))
      (subst (λ b. Takes (leg_pairs i b k (j + 1)) Any (pairs_bytes c i k (j + 1)) (Driven (leg_index i j + suc k))) (sym put) (subst (λ n. Takes (leg_pairs i (Driven (leg_index i (j + 1))) k (j + 1)) Any (pairs_bytes c i k (j + 1)) (Driven n)) end rest))
      (λ _ _. tt)

  -- no leg stands behind the last one of a row, and none behind the last row
  row_end : (i : ℕ) → mixed blank_leg (leg_index i 0 + suc c.stops) c.legs ≡ mixed blank_leg (leg_index (i + 1) 0) c.legs
  row_end i =
      let end : leg_index i 0 + suc c.stops + (most_stops - c.stops) ≡ leg_index (i + 1) 0 = omega arith in
      mixed_skips blank_leg c.legs (leg_index i 0 + suc c.stops) (most_stops - c.stops) (λ m l h.
      let j = m - i * most_places in
      let is : leg_index i j ≡ m = omega arith in
      subst (λ n. get_or c.legs n blank_leg ≡ blank_leg) is (outside i j (omega arith) (past_column c.stops i j (omega arith))))
      ∙ ap (λ n. mixed blank_leg n c.legs) end

  pub all_driven : mixed blank_leg (leg_index (suc c.stops) 0) c.legs ≡ c.legs
  all_driven =
      mixed_skips blank_leg c.legs (leg_index (suc c.stops) 0) (most_places * most_places) (λ m l h.
      let is : leg_index (m / 61) (m % 61) ≡ m = omega arith in
      subst (λ n. get_or c.legs n blank_leg ≡ blank_leg) is (outside (m / 61) (m % 61) (omega arith) (past_row c.stops (m / 61) (m % 61) (omega arith))))
      ∙ mixed_all blank_leg (leg_index (suc c.stops) 0 + most_places * most_places) c.legs (omega arith)

  line_takes : (i : ℕ) → i ≤ c.stops → Takes (leg_line (Driven (leg_index i 0)) i) Any (leg_line_bytes c i) (Driven (leg_index (i + 1) 0))
  line_takes i h =
      let end = Driven (leg_index i 0 + suc c.stops) in
      subst (λ ls. Takes (leg_line (Driven (leg_index i 0)) i) Any (leg_line_bytes c i) (record { stops = c.stops; fleet = c.fleet; visits = c.visits; legs = ls })) (row_end i)
      (takes_then same (numbered_opening Legs 0 c.stops i) _ NoDigit Any (numbered_start Legs i) (pairs_bytes c i (suc c.stops) 0 ++ line_end) tt end (numbered_takes Legs 0 c.stops i (omega arith) h (omega arith))
      (takes_then same (leg_pairs i (Driven (leg_index i 0)) (suc c.stops) 0) _ Any Any (pairs_bytes c i (suc c.stops) 0) line_end end end (pairs_takes i (suc c.stops) 0 h (omega arith))
      (takes_then Form line_closing _ Any Any line_end [] tt end close_takes
      (takes_give end)
      (λ _ _. tt)) (λ _ _. tt)) (λ _ _. refl))

  pub lines_takes : (k i : ℕ) → i + k ≡ suc c.stops → Takes (leg_lines (Driven (leg_index i 0)) k i) Any (leg_lines_bytes c k i) (Driven (leg_index (suc c.stops) 0))
  lines_takes zero i e = let there : i ≡ suc c.stops = omega arith in subst (λ n. Takes (leg_lines (Driven (leg_index i 0)) 0 i) Any [] (Driven (leg_index n 0))) there (takes_give (Driven (leg_index i 0)))
  lines_takes (suc k) i e =
      takes_then same (leg_line (Driven (leg_index i 0)) i) (λ b. leg_lines b k (i + 1)) Any Any (leg_line_bytes c i) (leg_lines_bytes c k (i + 1)) (Driven (leg_index (i + 1) 0)) (Driven (leg_index (suc c.stops) 0)) (line_takes i (omega arith)) (lines_takes k (i + 1) (omega arith)) (λ _ _. tt)

  -- before the first leg nothing is said
  pub none_driven : replicate (most_places * most_places) blank_leg ≡ mixed blank_leg 0 c.legs
  none_driven = ap (λ n. replicate n blank_leg) (sym long) ∙ sym (mixed_none blank_leg c.legs)

  -- without stops there are no legs
  pub no_legs : c.stops ≡ 0 → c.legs ≡ replicate (most_places * most_places) blank_leg
  no_legs z =
      sym (none_driven
      ∙ mixed_skips blank_leg c.legs 0 (most_places * most_places) (λ m l h.
      let is : leg_index (m / 61) (m % 61) ≡ m = omega arith in
      subst (λ n. get_or c.legs n blank_leg ≡ blank_leg) is (outside (m / 61) (m % 61) (omega arith) (subst (λ n. apart n (m / 61) (m % 61) ≡ false) (sym z) (none_apart (m / 61) (m % 61)))))
      ∙ mixed_all blank_leg (0 + most_places * most_places) c.legs (omega arith))
