-- The lines of a deck, both ways: what is written is read back, and what is read is what would be written.
use Rattle.std.proofs.Common.{◌≡◌, ℕ, zero, suc, ◌^◌, ◌<◌, ◌≤◌, Bool, true, false, eqb, List, [], ◌∷◌, ◌++◌, codes, decimal, refl, ap, ◌∙◌, subst, append-nil, arith}
use Rattle.std.proofs.lemmas.Bool.Decides.{nat_tests}
use Rattle.stops.specs.Stops.{most_stops}
use Rattle.text.proofs.Trips.{NoLetter, NoDigit, Any, Sounds, Takes, sounds_then, sounds_give, takes_then, takes_give}
use Rattle.words.specs.declared.vocabulary.Keyword.{Keyword}
use Rattle.words.specs.declared.vocabulary.Keyword.TheVariants.{Deck, Stops, Vans, Capacity, Battery, Most, Stop, Window, Load, Charger, End}
use Rattle.text.specs.declared.token.Mark.TheVariants.{Close, Blank}
use Rattle.form.specs.Forms.{same, mark_due}
use Rattle.form.proofs.Trips.{mark_sounds, mark_takes}
use Rattle.bounds.specs.declared.fault.BookFault.TheVariants.{Form}
use Rattle.bounds.specs.Bounds.{number_within, line_opening, numbered_opening, nested_opening, item_opening, line_closing}
use Rattle.bounds.specs.Bytes.{line_start, numbered_start, item_start, line_end}
use Rattle.bounds.proofs.Trips.{within_takes, within_sounds, line_takes, line_sounds, numbered_takes, numbered_sounds, nested_takes, nested_sounds, item_takes, item_sounds, close_takes, close_sounds}
use Rattle.book.specs.declared.parts.Fleet.{Fleet}
use Rattle.book.specs.declared.parts.Visit.{Visit}
use Rattle.book.specs.declared.parts.Leg.{Leg}
use Rattle.book.specs.Limits.{most_vans, most_capacity, most_load, most_battery, most_made, last_minute}
use Rattle.book.specs.Ranges.{fleet_fits, visit_fits}
use Rattle.deck.specs.declared.first_line.FirstLine.{FirstLine}
use Rattle.deck.specs.Lines.{item, first_line, window_item, charger_item, stop_line, most_cost_between, least_minutes_between, most_minutes_between, leg_pair, end_line}
use Rattle.deck.specs.Bytes.{item_bytes, first_line_bytes, window_bytes, charger_number, stop_bytes, leg_bytes, end_bytes}

-- ITEMS

number_takes : (name : Keyword) (least most n : ℕ) → least ≤ n → n ≤ most → n < 10 ^ 10 → Takes (item name least most) Any (item_bytes name n) n
number_takes name least most n l h small =
    takes_then Form (item_opening name) _ Any Any (item_start name) ((decimal n) ++ (41 ∷ [])) tt n (item_takes name)
    (takes_then same (number_within least most) _ NoDigit Any (decimal n) ((41 ∷ [])) n n (within_takes least most n l h small)
    (takes_then Form (mark_due Close) _ Any Any (41 ∷ []) [] tt n (mark_takes Close)
    (takes_give n)
    (λ _ _. tt)) (λ _ _. refl)) (λ _ _. tt)

number_sounds : (name : Keyword) (least most : ℕ) → Sounds (item name least most) (λ n xs. (xs ≡ item_bytes name n) × (least ≤ n) × (n ≤ most))
number_sounds name least most =
    let V : ℕ → List ℕ → Type 0 = λ n xs. (xs ≡ item_bytes name n) × (least ≤ n) × (n ≤ most) in
    sounds_then Form (item_opening name) _ (λ _ xs. xs ≡ item_start name) V (item_sounds name) (λ _ x1 e1.
    sounds_then same (number_within least most) _ _ (λ y ys. V y (x1 ++ ys)) (within_sounds least most) (λ n x2 e2.
    sounds_then Form (mark_due Close) _ (λ _ xs. xs ≡ 41 ∷ []) (λ y ys. V y (x1 ++ (x2 ++ ys))) (mark_sounds Close) (λ _ x3 e3.
    sounds_give _ _ (rw (e1, e2.0, e3), e2.1, e2.2))))

window_takes : (opens closes : ℕ) → opens ≤ closes → closes ≤ last_minute → Takes window_item Any (window_bytes opens closes) (opens, closes)
window_takes opens closes l h =
    takes_then Form (item_opening Window) _ Any Any (item_start Window) ((decimal opens) ++ ((32 ∷ []) ++ ((decimal closes) ++ (41 ∷ [])))) tt (opens, closes) (item_takes Window)
    (takes_then same (number_within 0 last_minute) _ NoDigit Any (decimal opens) ((32 ∷ []) ++ ((decimal closes) ++ (41 ∷ []))) opens (opens, closes) (within_takes 0 last_minute opens (omega arith) (omega arith) (omega arith))
    (takes_then Form (mark_due Blank) _ Any Any (32 ∷ []) ((decimal closes) ++ (41 ∷ [])) tt (opens, closes) (mark_takes Blank)
    (takes_then same (number_within opens last_minute) _ NoDigit Any (decimal closes) ((41 ∷ [])) closes (opens, closes) (within_takes opens last_minute closes l h (omega arith))
    (takes_then Form (mark_due Close) _ Any Any (41 ∷ []) [] tt (opens, closes) (mark_takes Close)
    (takes_give (opens, closes))
    (λ _ _. tt)) (λ _ _. refl)) (λ _ _. tt)) (λ _ _. refl)) (λ _ _. tt)

window_sounds : Sounds window_item (λ w xs. (xs ≡ window_bytes w.0 w.1) × (w.0 ≤ w.1) × (w.1 ≤ last_minute))
window_sounds =
    let V : ℕ × ℕ → List ℕ → Type 0 = λ w xs. (xs ≡ window_bytes w.0 w.1) × (w.0 ≤ w.1) × (w.1 ≤ last_minute) in
    sounds_then Form (item_opening Window) _ (λ _ xs. xs ≡ item_start Window) V (item_sounds Window) (λ _ x1 e1.
    sounds_then same (number_within 0 last_minute) _ _ (λ y ys. V y (x1 ++ ys)) (within_sounds 0 last_minute) (λ opens x2 e2.
    sounds_then Form (mark_due Blank) _ (λ _ xs. xs ≡ 32 ∷ []) (λ y ys. V y (x1 ++ (x2 ++ ys))) (mark_sounds Blank) (λ _ x3 e3.
    sounds_then same (number_within opens last_minute) _ _ (λ y ys. V y (x1 ++ (x2 ++ (x3 ++ ys)))) (within_sounds opens last_minute) (λ closes x4 e4.
    sounds_then Form (mark_due Close) _ (λ _ xs. xs ≡ 41 ∷ []) (λ y ys. V y (x1 ++ (x2 ++ (x3 ++ (x4 ++ ys))))) (mark_sounds Close) (λ _ x5 e5.
    sounds_give _ _ (rw (e1, e2.0, e3, e4.0, e5), e4.1, e4.2))))))

charger_takes : (c : Bool) → Takes charger_item Any (item_bytes Charger (charger_number c)) c
charger_takes true = subst (λ l. Takes charger_item Any l true) (append-nil (item_bytes Charger 1)) (takes_then same (item Charger 0 1) _ Any Any (item_bytes Charger 1) [] 1 true (number_takes Charger 0 1 1 (omega arith) (omega arith) (omega arith)) (takes_give true) (λ _ _. tt))
charger_takes false = subst (λ l. Takes charger_item Any l false) (append-nil (item_bytes Charger 0)) (takes_then same (item Charger 0 1) _ Any Any (item_bytes Charger 0) [] 0 false (number_takes Charger 0 1 0 (omega arith) (omega arith) (omega arith)) (takes_give false) (λ _ _. tt))

charger_is : (n : ℕ) → n ≤ 1 → n ≡ charger_number (eqb n 1)
charger_is zero h = refl
charger_is (suc zero) h = refl
charger_is (suc (suc n)) h = absurd (omega arith)

charger_sounds : Sounds charger_item (λ c xs. xs ≡ item_bytes Charger (charger_number c))
charger_sounds =
    sounds_then same (item Charger 0 1) _ _ (λ c xs. xs ≡ item_bytes Charger (charger_number c)) (number_sounds Charger 0 1) (λ n x1 e1.
    sounds_give _ _ (append-nil x1 ∙ e1.0 ∙ ap (item_bytes Charger) (charger_is n e1.2)))

-- LINES

pub record FleetInRange (stops : ℕ) (f : Fleet) : Type 0 where
  pub some_stops : 1 ≤ stops
  pub few_stops : stops ≤ most_stops
  pub some_vans : 1 ≤ f.vans
  pub few_vans : f.vans ≤ most_vans
  pub low_capacity : f.capacity ≤ most_capacity
  pub some_battery : 1 ≤ f.battery
  pub low_battery : f.battery ≤ most_battery
  pub some_most : 1 ≤ f.most
  pub few_most : f.most ≤ most_made

pub fleet_in_range : (stops : ℕ) (f : Fleet) → fleet_fits stops f ≡ true → FleetInRange stops f
fleet_in_range stops f e = record { some_stops = grind (arith, nat_tests); few_stops = grind (arith, nat_tests); some_vans = grind (arith, nat_tests); few_vans = grind (arith, nat_tests); low_capacity = grind (arith, nat_tests); some_battery = grind (arith, nat_tests); low_battery = grind (arith, nat_tests); some_most = grind (arith, nat_tests); few_most = grind (arith, nat_tests) }

fleet_fits_of : (stops : ℕ) (f : Fleet) → FleetInRange stops f → fleet_fits stops f ≡ true
fleet_fits_of stops f r = grind (arith, nat_tests)

pub first_takes : (f : FirstLine) → fleet_fits f.stops f.fleet ≡ true → Takes first_line Any (first_line_bytes f.stops f.fleet) f
first_takes f fits =
    let r = fleet_in_range f.stops f.fleet fits in
    takes_then same (line_opening Deck) _ NoLetter Any (line_start Deck) ((item_bytes Stops f.stops) ++ ((item_bytes Vans f.fleet.vans) ++ ((item_bytes Capacity f.fleet.capacity) ++ ((item_bytes Battery f.fleet.battery) ++ ((item_bytes Most f.fleet.most) ++ line_end))))) tt f (line_takes Deck)
    (takes_then same (item Stops 1 most_stops) _ Any Any (item_bytes Stops f.stops) ((item_bytes Vans f.fleet.vans) ++ ((item_bytes Capacity f.fleet.capacity) ++ ((item_bytes Battery f.fleet.battery) ++ ((item_bytes Most f.fleet.most) ++ line_end)))) f.stops f (number_takes Stops 1 most_stops f.stops r.some_stops r.few_stops (let h = r.few_stops in omega arith))
    (takes_then same (item Vans 1 most_vans) _ Any Any (item_bytes Vans f.fleet.vans) ((item_bytes Capacity f.fleet.capacity) ++ ((item_bytes Battery f.fleet.battery) ++ ((item_bytes Most f.fleet.most) ++ line_end))) f.fleet.vans f (number_takes Vans 1 most_vans f.fleet.vans r.some_vans r.few_vans (let h = r.few_vans in omega arith))
    (takes_then same (item Capacity 0 most_capacity) _ Any Any (item_bytes Capacity f.fleet.capacity) ((item_bytes Battery f.fleet.battery) ++ ((item_bytes Most f.fleet.most) ++ line_end)) f.fleet.capacity f (number_takes Capacity 0 most_capacity f.fleet.capacity (omega arith) r.low_capacity (let h = r.low_capacity in omega arith))
    (takes_then same (item Battery 1 most_battery) _ Any Any (item_bytes Battery f.fleet.battery) ((item_bytes Most f.fleet.most) ++ line_end) f.fleet.battery f (number_takes Battery 1 most_battery f.fleet.battery r.some_battery r.low_battery (let h = r.low_battery in omega arith))
    (takes_then same (item Most 1 most_made) _ Any Any (item_bytes Most f.fleet.most) (line_end) f.fleet.most f (number_takes Most 1 most_made f.fleet.most r.some_most r.few_most (let h = r.few_most in omega arith))
    (takes_then Form line_closing _ Any Any line_end [] tt f close_takes
    (takes_give f)
    (λ _ _. tt)) (λ _ _. tt)) (λ _ _. tt)) (λ _ _. tt)) (λ _ _. tt)) (λ _ _. tt)) (λ _ _. refl)

pub first_sounds : Sounds first_line (λ f xs. (xs ≡ first_line_bytes f.stops f.fleet) × (fleet_fits f.stops f.fleet ≡ true))
first_sounds =
    let V : FirstLine → List ℕ → Type 0 = λ f xs. (xs ≡ first_line_bytes f.stops f.fleet) × (fleet_fits f.stops f.fleet ≡ true) in
    sounds_then same (line_opening Deck) _ (λ _ xs. xs ≡ line_start Deck) V (line_sounds Deck) (λ _ x1 e1.
    sounds_then same (item Stops 1 most_stops) _ _ (λ y ys. V y (x1 ++ ys)) (number_sounds Stops 1 most_stops) (λ a x2 e2.
    sounds_then same (item Vans 1 most_vans) _ _ (λ y ys. V y (x1 ++ (x2 ++ ys))) (number_sounds Vans 1 most_vans) (λ b x3 e3.
    sounds_then same (item Capacity 0 most_capacity) _ _ (λ y ys. V y (x1 ++ (x2 ++ (x3 ++ ys)))) (number_sounds Capacity 0 most_capacity) (λ c x4 e4.
    sounds_then same (item Battery 1 most_battery) _ _ (λ y ys. V y (x1 ++ (x2 ++ (x3 ++ (x4 ++ ys))))) (number_sounds Battery 1 most_battery) (λ d x5 e5.
    sounds_then same (item Most 1 most_made) _ _ (λ y ys. V y (x1 ++ (x2 ++ (x3 ++ (x4 ++ (x5 ++ ys)))))) (number_sounds Most 1 most_made) (λ m x6 e6.
    sounds_then Form line_closing _ (λ _ xs. xs ≡ line_end) (λ y ys. V y (x1 ++ (x2 ++ (x3 ++ (x4 ++ (x5 ++ (x6 ++ ys))))))) close_sounds (λ _ x7 e7.
    sounds_give _ _ (rw (e1, e2.0, e3.0, e4.0, e5.0, e6.0, e7), fleet_fits_of a (record { vans = b; capacity = c; battery = d; most = m }) (record { some_stops = e2.1; few_stops = e2.2; some_vans = e3.1; few_vans = e3.2; low_capacity = e4.2; some_battery = e5.1; low_battery = e5.2; some_most = e6.1; few_most = e6.2 })))))))))

pub record VisitInRange (v : Visit) : Type 0 where
  pub in_order : v.opens ≤ v.closes
  pub in_day : v.closes ≤ last_minute
  pub light : v.load ≤ most_load

pub visit_in_range : (v : Visit) → visit_fits v ≡ true → VisitInRange v
visit_in_range v e = record { in_order = grind (arith, nat_tests); in_day = grind (arith, nat_tests); light = grind (arith, nat_tests) }

visit_fits_of : (v : Visit) → VisitInRange v → visit_fits v ≡ true
visit_fits_of v r = grind (arith, nat_tests)

pub stop_takes : (stops j : ℕ) (v : Visit) → 1 ≤ j → j ≤ stops → stops ≤ most_stops → visit_fits v ≡ true → Takes (stop_line stops j) Any (stop_bytes j v) v
stop_takes stops j v l h few fits =
    let r = visit_in_range v fits in
    takes_then same (numbered_opening Stop 1 stops j) _ NoDigit Any (numbered_start Stop j) ((window_bytes v.opens v.closes) ++ ((item_bytes Load v.load) ++ ((item_bytes Charger (charger_number v.charger)) ++ line_end))) tt v (numbered_takes Stop 1 stops j l h (omega arith))
    (takes_then same window_item _ Any Any (window_bytes v.opens v.closes) ((item_bytes Load v.load) ++ ((item_bytes Charger (charger_number v.charger)) ++ line_end)) (v.opens, v.closes) v (window_takes v.opens v.closes r.in_order r.in_day)
    (takes_then same (item Load 0 most_load) _ Any Any (item_bytes Load v.load) ((item_bytes Charger (charger_number v.charger)) ++ line_end) v.load v (number_takes Load 0 most_load v.load (omega arith) r.light (let k = r.light in omega arith))
    (takes_then same charger_item _ Any Any (item_bytes Charger (charger_number v.charger)) (line_end) v.charger v (charger_takes v.charger)
    (takes_then Form line_closing _ Any Any line_end [] tt v close_takes
    (takes_give v)
    (λ _ _. tt)) (λ _ _. tt)) (λ _ _. tt)) (λ _ _. tt)) (λ _ _. refl)

pub stop_sounds : (stops j : ℕ) → Sounds (stop_line stops j) (λ v xs. (xs ≡ stop_bytes j v) × (visit_fits v ≡ true))
stop_sounds stops j =
    let V : Visit → List ℕ → Type 0 = λ v xs. (xs ≡ stop_bytes j v) × (visit_fits v ≡ true) in
    sounds_then same (numbered_opening Stop 1 stops j) _ (λ _ xs. xs ≡ numbered_start Stop j) V (numbered_sounds Stop 1 stops j) (λ _ x1 e1.
    sounds_then same window_item _ _ (λ y ys. V y (x1 ++ ys)) window_sounds (λ w x2 e2.
    sounds_then same (item Load 0 most_load) _ _ (λ y ys. V y (x1 ++ (x2 ++ ys))) (number_sounds Load 0 most_load) (λ load x3 e3.
    sounds_then same charger_item _ (λ c xs. xs ≡ item_bytes Charger (charger_number c)) (λ y ys. V y (x1 ++ (x2 ++ (x3 ++ ys)))) charger_sounds (λ c x4 e4.
    sounds_then Form line_closing _ (λ _ xs. xs ≡ line_end) (λ y ys. V y (x1 ++ (x2 ++ (x3 ++ (x4 ++ ys))))) close_sounds (λ _ x5 e5.
    sounds_give _ _ (rw (e1, e2.0, e3.0, e4, e5), visit_fits_of (record { opens = w.0; closes = w.1; load = load; charger = c }) (record { in_order = e2.1; in_day = e2.2; light = e3.2 })))))))

-- a leg from i to j in its ranges
abbrev pub LegBetween : ℕ → ℕ → Leg → Type 0
LegBetween i j x = (x.cost ≤ most_cost_between i j) × (least_minutes_between i j ≤ x.minutes) × (x.minutes ≤ most_minutes_between i j)

small_cost : (i j : ℕ) (x : Leg) → LegBetween i j x → x.cost < 10 ^ 10
small_cost i j x r = grind (arith, nat_tests)

small_minutes : (i j : ℕ) (x : Leg) → LegBetween i j x → x.minutes < 10 ^ 10
small_minutes i j x r = grind (arith, nat_tests)

pub leg_takes : (i j : ℕ) (x : Leg) → LegBetween i j x → Takes (leg_pair i j) Any (leg_bytes x) x
leg_takes i j x r =
    takes_then Form nested_opening _ Any Any (codes " (") ((decimal x.cost) ++ ((32 ∷ []) ++ ((decimal x.minutes) ++ (41 ∷ [])))) tt x nested_takes
    (takes_then same (number_within 0 (most_cost_between i j)) _ NoDigit Any (decimal x.cost) ((32 ∷ []) ++ ((decimal x.minutes) ++ (41 ∷ []))) x.cost x (within_takes 0 (most_cost_between i j) x.cost (omega arith) r.0 (small_cost i j x r))
    (takes_then Form (mark_due Blank) _ Any Any (32 ∷ []) ((decimal x.minutes) ++ (41 ∷ [])) tt x (mark_takes Blank)
    (takes_then same (number_within (least_minutes_between i j) (most_minutes_between i j)) _ NoDigit Any (decimal x.minutes) ((41 ∷ [])) x.minutes x (within_takes (least_minutes_between i j) (most_minutes_between i j) x.minutes r.1 r.2 (small_minutes i j x r))
    (takes_then Form (mark_due Close) _ Any Any (41 ∷ []) [] tt x (mark_takes Close)
    (takes_give x)
    (λ _ _. tt)) (λ _ _. refl)) (λ _ _. tt)) (λ _ _. refl)) (λ _ _. tt)

pub leg_sounds : (i j : ℕ) → Sounds (leg_pair i j) (λ x xs. (xs ≡ leg_bytes x) × LegBetween i j x)
leg_sounds i j =
    let V : Leg → List ℕ → Type 0 = λ x xs. (xs ≡ leg_bytes x) × LegBetween i j x in
    sounds_then Form nested_opening _ (λ _ xs. xs ≡ codes " (") V nested_sounds (λ _ x1 e1.
    sounds_then same (number_within 0 (most_cost_between i j)) _ _ (λ y ys. V y (x1 ++ ys)) (within_sounds 0 (most_cost_between i j)) (λ cost x2 e2.
    sounds_then Form (mark_due Blank) _ (λ _ xs. xs ≡ 32 ∷ []) (λ y ys. V y (x1 ++ (x2 ++ ys))) (mark_sounds Blank) (λ _ x3 e3.
    sounds_then same (number_within (least_minutes_between i j) (most_minutes_between i j)) _ _ (λ y ys. V y (x1 ++ (x2 ++ (x3 ++ ys)))) (within_sounds (least_minutes_between i j) (most_minutes_between i j)) (λ minutes x4 e4.
    sounds_then Form (mark_due Close) _ (λ _ xs. xs ≡ 41 ∷ []) (λ y ys. V y (x1 ++ (x2 ++ (x3 ++ (x4 ++ ys))))) (mark_sounds Close) (λ _ x5 e5.
    sounds_give _ _ (rw (e1, e2.0, e3, e4.0, e5), (e2.2, e4.1, e4.2)))))))

pub end_takes : Takes end_line Any end_bytes tt
end_takes =
    takes_then same (line_opening End) _ NoLetter Any (line_start End) (line_end) tt tt (line_takes End)
    (takes_then Form line_closing _ Any Any line_end [] tt tt close_takes
    (takes_give tt)
    (λ _ _. tt)) (λ _ _. refl)

pub end_sounds : Sounds end_line (λ _ xs. xs ≡ end_bytes)
end_sounds =
    let V : Unit {0} → List ℕ → Type 0 = λ _ xs. xs ≡ end_bytes in
    sounds_then same (line_opening End) _ (λ _ xs. xs ≡ line_start End) V (line_sounds End) (λ _ x1 e1.
    sounds_then Form line_closing _ (λ _ xs. xs ≡ line_end) (λ y ys. V y (x1 ++ ys)) close_sounds (λ _ x2 e2.
    sounds_give _ _ (rw (e1, e2))))
