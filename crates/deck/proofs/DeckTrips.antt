-- A deck and its book, both ways.
use Rattle.std.proofs.Common.{◌≡◌, ℕ, suc, ◌+◌, ◌*◌, ◌≤◌, Bool, true, false, cond, eqb, List, [], ◌++◌, length, drop, replicate, Ok, Err, sym, refl, ap, ◌∙◌, subst, append-nil, zero-add, arith}
use lib.ListN.{length-replicate}
use Rattle.std.proofs.lemmas.Bool.{ne_eqb, eq-eqb, eqb-true, true≢false}
use Rattle.std.proofs.lemmas.Bool.Decides.{nat_tests}
use Rattle.stops.specs.Stops.{most_stops, most_places}
use Rattle.text.proofs.Trips.{Any, SoundAt, Sounds, Takes, sounds_then, sounds_give, takes_then, takes_give}
use Rattle.text.specs.Readers.{and_then}
use Rattle.form.specs.Forms.{same}
use Rattle.form.specs.declared.fault.FormFault.TheVariants.{NotDue}
use Rattle.bounds.specs.declared.fault.BookFault.TheVariants.{Form}
use Rattle.book.specs.declared.parts.Fleet.{Fleet}
use Rattle.book.specs.Ranges.{fleet_fits, fleet_blank, blank_visit, blank_leg, leg_index}
use Rattle.book.specs.Books.{Contents, opened, empty_book}
use Rattle.book.proofs.Kept.{InRanges}
use Rattle.deck.specs.declared.first_line.FirstLine.{FirstLine}
use Rattle.deck.specs.Lines.{first_line, stop_lines, leg_lines, end_line, deck, handed}
use Rattle.deck.specs.Bytes.{first_line_bytes, stops_bytes, leg_lines_bytes, end_bytes, lines_bytes, deck_bytes}
use Rattle.deck.specs.Trips.{ReadBack, WrittenBack}
use Rattle.deck.proofs.LineTrips.{fleet_in_range, first_takes, first_sounds, end_takes, end_sounds}
use Rattle.deck.proofs.Mixed.{mixed}
use Rattle.deck.proofs.StopTrips.{stops_sounds, Said, stops_takes, none_said, all_said}
use Rattle.deck.proofs.LegTrips.{lines_sounds, Driven, lines_takes, none_driven, all_driven, no_legs}

-- WHAT IS READ IS WHAT WOULD BE WRITTEN

pub deck_sounds : Sounds deck (λ c xs. (xs ≡ lines_bytes c) × (1 ≤ c.stops))
deck_sounds =
    let V : Contents → List ℕ → Type 0 = λ c xs. (xs ≡ lines_bytes c) × (1 ≤ c.stops) in
    sounds_then same first_line _ _ V first_sounds (λ f x1 e1.
    let range = fleet_in_range f.stops f.fleet e1.1 in
    let few = range.few_stops in
    let places = length-replicate most_places blank_visit in
    let pairs = length-replicate (most_places * most_places) blank_leg in
    sounds_then same (stop_lines (opened f.stops f.fleet) f.stops 1) _ _ (λ y ys. V y (x1 ++ ys)) (stops_sounds f.stops (opened f.stops f.fleet) 1 (omega arith)) (λ b x2 e2.
    let stops = e2.1.stops in
    let long : length b.legs ≡ most_places * most_places = ap length e2.1.legs ∙ pairs in
    sounds_then same (leg_lines b (suc b.stops) 0) _ _ (λ y ys. V y (x1 ++ (x2 ++ ys))) (lines_sounds (suc b.stops) b 0 (omega arith) (omega arith)) (λ c x3 e3.
    sounds_then same end_line _ (λ _ xs. xs ≡ end_bytes) (λ y ys. V y (x1 ++ (x2 ++ (x3 ++ ys)))) end_sounds (λ _ x4 e4.
    let all : c.stops ≡ f.stops = e3.1.stops ∙ stops in
    let fleet : c.fleet ≡ f.fleet = e3.1.fleet ∙ e2.1.fleet in
    let first : x1 ≡ first_line_bytes c.stops c.fleet = e1.0 ∙ (λ i. first_line_bytes (sym all i) (sym fleet i)) in
    let middle : x2 ≡ stops_bytes c c.stops 1 = e2.0 ∙ visits_same b c f.stops e3.1.visits ∙ ap (λ n. stops_bytes c n 1) (sym all) in
    let last : x3 ≡ leg_lines_bytes c (suc c.stops) 0 = e3.0 ∙ ap (λ n. leg_lines_bytes c (suc n) 0) (sym e3.1.stops) in
    let some = range.some_stops in
    sounds_give c _ ((λ i. first i ++ (middle i ++ (last i ++ (append-nil x4 ∙ e4) i))), omega arith)))))
  where
    visits_same : (b c : Contents) (n : ℕ) → c.visits ≡ b.visits → stops_bytes b n 1 ≡ stops_bytes c n 1
    visits_same b c n e = ap (λ vs. stops_bytes (record { stops = b.stops; fleet = b.fleet; visits = vs; legs = b.legs }) n 1) (sym e)

-- WHAT IS WRITTEN IS READ BACK

pub deck_takes : (c : Contents) → (c.stops ≡ 0 → ⊥) → InRanges c → Takes deck Any (lines_bytes c) c
deck_takes c some k =
    let fits : fleet_fits c.stops c.fleet ≡ true = ap (λ t. cond t (fleet_blank c.fleet) (fleet_fits c.stops c.fleet)) (sym (ne_eqb c.stops 0 some)) ∙ k.fleet in
    let few = (fleet_in_range c.stops c.fleet fits).few_stops in
    let f : FirstLine = record { stops = c.stops; fleet = c.fleet } in
    let said = Said c few k.visits k.places (c.stops + 1) in
    let begin : opened c.stops c.fleet ≡ Said c few k.visits k.places 1 = ap (λ vs. record { stops = c.stops; fleet = c.fleet; visits = vs; legs = replicate (most_places * most_places) blank_leg }) (none_said c few k.visits k.places) in
    let stops = subst (λ b. Takes (stop_lines b c.stops 1) Any (stops_bytes c c.stops 1) said) (sym begin) (stops_takes c few k.visits k.places c.stops 1 (omega arith) (omega arith)) in
    let ready : said ≡ Driven c few k.legs k.pairs 0 = λ i. record { stops = c.stops; fleet = c.fleet; visits = all_said c few k.visits k.places i; legs = none_driven c few k.legs k.pairs i } in
    let done : Driven c few k.legs k.pairs (leg_index (suc c.stops) 0) ≡ c = ap (λ ls. record { stops = c.stops; fleet = c.fleet; visits = c.visits; legs = ls }) (all_driven c few k.legs k.pairs) in
    let legs = subst (λ b. Takes (leg_lines b (suc c.stops) 0) Any (leg_lines_bytes c (suc c.stops) 0) c) (sym ready) (subst (Takes (leg_lines (Driven c few k.legs k.pairs 0) (suc c.stops) 0) Any (leg_lines_bytes c (suc c.stops) 0)) done (lines_takes c few k.legs k.pairs (suc c.stops) 0 (omega arith))) in
    takes_then same first_line _ Any Any (first_line_bytes c.stops c.fleet) (stops_bytes c c.stops 1 ++ (leg_lines_bytes c (suc c.stops) 0 ++ end_bytes)) f c (first_takes f fits)
    (takes_then same (stop_lines (opened c.stops c.fleet) c.stops 1) _ Any Any (stops_bytes c c.stops 1) (leg_lines_bytes c (suc c.stops) 0 ++ end_bytes) said c stops
    (takes_then same (leg_lines said (suc c.stops) 0) _ Any Any (leg_lines_bytes c (suc c.stops) 0) end_bytes c c legs
    (takes_then same end_line _ Any Any end_bytes [] tt c end_takes
    (takes_give c)
    (λ _ _. tt)) (λ _ _. tt)) (λ _ _. tt)) (λ _ _. tt)

-- BOTH WAYS

pub written_back : (bs : List ℕ) → WrittenBack bs
written_back bs c q e =
    let t = subst (SoundAt (λ c xs. (xs ≡ lines_bytes c) × (1 ≤ c.stops)) bs 0) e (deck_sounds.sound bs 0) in
    let some = t.2.1 in
    let lines : deck_bytes c ≡ lines_bytes c = ap (λ b. cond b [] (lines_bytes c)) (ne_eqb c.stops 0 (λ z. absurd (omega arith))) in
    let is : t.0 ≡ deck_bytes c = t.2.0 ∙ sym lines in
    (t.1.spent ∙ ap (λ l. l ++ drop q bs) is, t.1.to ∙ zero-add (length t.0) ∙ ap length is, some)

-- a text without bytes ends where the first line is due
nothing : deck [] 0 ≡ Err (Form (NotDue 0))
unfolding and_then
nothing = refl

blank_fleet : (f : Fleet) → fleet_blank f ≡ true → f ≡ record { vans = 0; capacity = 0; battery = 0; most = 0 }
blank_fleet f e =
    let vans : f.vans ≡ 0 = grind (arith, nat_tests) in
    let capacity : f.capacity ≡ 0 = grind (arith, nat_tests) in
    let battery : f.battery ≡ 0 = grind (arith, nat_tests) in
    let most : f.most ≡ 0 = grind (arith, nat_tests) in
    λ i. record { vans = vans i; capacity = capacity i; battery = battery i; most = most i }

-- there is one book without stops
pub without_stops : (c : Contents) → InRanges c → c.stops ≡ 0 → c ≡ empty_book
without_stops c k z =
    let few : c.stops ≤ most_stops = omega arith in
    let ok = k.fleet in
    let fleet = blank_fleet c.fleet (grind (arith, nat_tests)) in
    let one : c.stops + 1 ≡ 1 = omega arith in
    let visits : c.visits ≡ replicate most_places blank_visit = sym (none_said c few k.visits k.places ∙ ap (λ n. mixed blank_visit n c.visits) (sym one) ∙ all_said c few k.visits k.places) in
    let legs = no_legs c few k.legs k.pairs z in
    λ i. record { stops = z i; fleet = fleet i; visits = visits i; legs = legs i }

pub read_back : (c : Contents) → InRanges c → ReadBack c
read_back c k = record { book = by (eqb c.stops 0) refl; empty = no_deck; deck = λ some rest. whole some rest }
  where
    no_deck : c.stops ≡ 0 → deck (deck_bytes c) 0 ≡ Err (Form (NotDue 0))
    no_deck z = ap (λ t. deck (cond t [] (lines_bytes c)) 0) (eq-eqb c.stops 0 z) ∙ nothing

    whole : (c.stops ≡ 0 → ⊥) → (rest : List ℕ) → deck (deck_bytes c ++ rest) 0 ≡ Ok (c, length (deck_bytes c))
    whole some rest =
        let lines : deck_bytes c ≡ lines_bytes c = ap (λ b. cond b [] (lines_bytes c)) (ne_eqb c.stops 0 some) in
        ap (λ l. deck (l ++ rest) 0) lines ∙ (deck_takes c some k).taken (lines_bytes c ++ rest) 0 rest refl tt ∙ ap (λ n. Ok (c, n)) (zero-add (length (lines_bytes c)) ∙ ap length (sym lines))

    by : (t : Bool) → eqb c.stops 0 ≡ t → (handed (deck (deck_bytes c) 0)).0 ≡ c
    by true e = let z = eqb-true c.stops 0 e in ap (λ r. (handed r).0) (no_deck z) ∙ sym (without_stops c k z)
    by false e =
        let some : c.stops ≡ 0 → ⊥ = λ z. true≢false (sym (eq-eqb c.stops 0 z) ∙ e) in
        ap (λ l. (handed (deck l 0)).0) (sym (append-nil (deck_bytes c))) ∙ ap (λ r. (handed r).0) (whole some [])
