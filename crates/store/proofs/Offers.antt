-- An offer on the store beside an offer of the definition, and a label that goes on to the stops. Assumes nothing.
use Rattle.std.proofs.Common.{◌≡◌, ℕ, zero, suc, ◌+◌, ◌<◌, Bool, true, false, cond, not, ◌&&◌, List, [], ◌∷◌, length, set, ℤ, Some, None, filter, Option, sym, refl, ap, ◌∙◌, subst, arith}
use Rattle.std.proofs.lemmas.List.{length-map, length-set, get_or-map, get_or-set_other}
use Rattle.std.proofs.lemmas.Bool.{or_right, lt-ltb, le-ltb, both_ways}
use Rattle.tier.specs.Answers.{Answers}
use Rattle.tier.specs.Routes.{and_then}
use Rattle.tier.proofs.Options.{none_some, some_same}
use Rattle.labelling.specs.Labelling.{Label, Finished, Table, covers, is_covered, turn_away, strike, add, keep, offer, child, offer_reached, go_on, go_on_to}
use Rattle.store.specs.Places.{Reading, is_live, Stored}
use Rattle.store.specs.Works.{Writing, Work, first_blank, falls, strike_at, turn_away_at, keep_at, offer_at, offer_reached_at, go_on_at, go_on_to_at, Holds, BestAt, Hand, Linked, Clean, Beside, Matches}
use Rattle.store.proofs.Places.{cell_at, treated_not_waiting, treated_live, blank_free, written, any_live, count_waiting, struck, roomy, full, kept}

module _ {C S : Type 0} (k : Writing C S) (m : Answers S) where
  abbrev r : Reading C S
  r = k.reading

  abbrev at : List C → ℕ → C
  at cells i = cell_at k.reading cells i

  -- TREATED PLACES STAY AS THEY ARE

  abbrev pub Stays : List C → List C → Type 0
  Stays cells after = (i : ℕ) → i < length cells → k.reading.is_treated (cell_at k.reading cells i) ≡ true → cell_at k.reading after i ≡ cell_at k.reading cells i

  module _ (cells after : List C) (e : length after ≡ length cells) (h : Stays cells after) where
    pub holds_kept : (i : ℕ) (l : Label S) → Holds k m cells i l → Holds k m after i l
    holds_kept i l p = let q = h i p.within p.treated in let n = p.within in record { within = omega arith; treated = ap r.is_treated q ∙ p.treated; is = ap r.view q ∙ p.is }

    hand_kept : (x : Option (ℕ × Label S)) → Hand k m cells x → Hand k m after x
    hand_kept None p = tt
    hand_kept (Some a) p = holds_kept a.0 a.1 p

    pub best_kept : (b : Option (ℤ × ℕ)) (f : Option (Finished S)) → BestAt k m cells b f → BestAt k m after b f
    best_kept None None p = tt
    best_kept None (Some f) p = absurd p
    best_kept (Some b) None p = absurd p
    best_kept (Some b) (Some f) p = (p.0, holds_kept b.1 f.last p.1)

  -- THE FIRST BLANK PLACE

  blank_none : (i : ℕ) (cells : List C) → first_blank k m i cells ≡ None → (j : ℕ) → j < length cells → is_live r (at cells j) ≡ true
  blank_none i [] e j l = absurd (omega arith)
  blank_none i (c ∷ cs) e j l = by (is_live r c) refl (blank_none (i + 1) cs) e j l
    where
      by : (b : Bool) → is_live r c ≡ b → (first_blank k m (i + 1) cs ≡ None → (j : ℕ) → j < length cs → is_live r (at cs j) ≡ true) → cond b (first_blank k m (i + 1) cs) (Some i) ≡ None → (j : ℕ) → j < length (c ∷ cs) → is_live r (at (c ∷ cs) j) ≡ true
      by true q more z zero l = q
      by true q more z (suc j) l = more z j (omega arith)
      by false q more z j l = absurd (none_some (sym z))

  record Blank (i n : ℕ) (cells : List C) : Type 0 where
    pub place : ℕ
    pub is : n ≡ i + place
    pub within : place < length cells
    pub free : is_live r (at cells place) ≡ false

  blank_some : (i n : ℕ) (cells : List C) → first_blank k m i cells ≡ Some n → Blank i n cells
  blank_some i n [] e = absurd (none_some e)
  blank_some i n (c ∷ cs) e = by (is_live r c) refl (blank_some (i + 1) n cs) e
    where
      by : (b : Bool) → is_live r c ≡ b → (first_blank k m (i + 1) cs ≡ Some n → Blank (i + 1) n cs) → cond b (first_blank k m (i + 1) cs) (Some i) ≡ Some n → Blank i n (c ∷ cs)
      by true q more z = let h = more z in let a = h.is in let d = h.within in record { place = suc h.place; is = omega arith; within = omega arith; free = h.free }
      by false q more z = let e = some_same z in record { place = 0; is = omega arith; within = omega arith; free = q }

  module _ (places : ℕ) where
    -- both go on, or neither
    matches_then : (x : Option (ℕ × Label S)) (o : Option (Work C)) (q : Option (Table S)) (f : Work C → Option (Work C)) (g : Table S → Option (Table S)) → Matches k m places x o q → ((s : Work C) (t : Table S) → Beside k m places x s t → Matches k m places x (f s) (g t)) → Matches k m places x (and_then o f) (and_then q g)
    matches_then x None None f g h n = tt
    matches_then x None (Some t) f g h n = absurd h
    matches_then x (Some s) None f g h n = absurd h
    matches_then x (Some s) (Some t) f g h n = n s t h

    -- AN OFFER: c waits, and its parent's place holds its parent
    module _ (x : Option (ℕ × Label S)) (s : Work C) (t : Table S) (b : Beside k m places x s t) (c : C) (w : k.reading.is_waiting c ≡ true) (up : (n : ℕ) → (k.reading.view c).parent ≡ Some n → (q : Label S) × Holds k m s.cells (k.up c) q × (q.number ≡ n)) where
      abbrev l : Label S
      l = r.view c

      abbrev hit : C → C
      hit b = cond (falls k m c b) r.blank b

      struck_same : (i : ℕ) → i < length s.cells → r.is_treated (at s.cells i) ≡ true → at (strike_at k m c s.cells) i ≡ at s.cells i
      struck_same i h e = get_or-map hit s.cells i r.blank r.blank h ∙ ap (λ w. cond (w && covers m l (r.view (at s.cells i))) r.blank (at s.cells i)) (treated_not_waiting r (at s.cells i) e)

      hit_live : (e : C) → is_live r (hit e) ≡ true → hit e ≡ e
      hit_live e h = by (falls k m c e) h
        where
          by : (q : Bool) → is_live r (cond q r.blank e) ≡ true → cond q r.blank e ≡ e
          by true z = absurd (both_ways (is_live r r.blank) (blank_free r) z)
          by false z = refl

      hit_clean : (e : C) → (is_live r e ≡ false → e ≡ r.blank) → is_live r (hit e) ≡ false → hit e ≡ r.blank
      hit_clean e h = by (falls k m c e)
        where
          by : (q : Bool) → is_live r (cond q r.blank e) ≡ false → cond q r.blank e ≡ r.blank
          by true z = refl
          by false z = h z

      module _ (i : ℕ) (inside : i < length (strike_at k m c s.cells)) (free : is_live r (at (strike_at k m c s.cells) i) ≡ false) where
        abbrev put : List C
        put = set (strike_at k m c s.cells) i c

        put_long : length put ≡ length s.cells
        put_long = length-set (strike_at k m c s.cells) i c ∙ length-map s.cells hit

        put_stays : Stays s.cells put
        put_stays j h q = get_or-set_other (strike_at k m c s.cells) i j c r.blank (λ z. both_ways (is_live r (at (strike_at k m c s.cells) i)) free (ap (λ j. is_live r (at (strike_at k m c s.cells) j)) (sym z) ∙ ap (is_live r) (struck_same j h q) ∙ treated_live r (at s.cells j) q)) ∙ struck_same j h q

        was_long : (j : ℕ) → j < length put → j < length s.cells
        was_long j h = let y = put_long in omega arith

        -- the new place, and each other as the strike left it
        put_each : (P : C → Type 0) (j : ℕ) → j < length put → P c → P (hit (at s.cells j)) → P (at put j)
        put_each P j h a d = written r (strike_at k m c s.cells) i c inside P j (λ _. a) (λ _. subst P (sym (get_or-map hit s.cells j r.blank r.blank (was_long j h))) d)

        put_linked : Linked k m put
        put_linked j h = put_each Link j h
            (λ _ n e. let a = up n e in (a.0, holds_kept s.cells put put_long put_stays (k.up c) a.0 a.1, a.2))
            (λ lv. subst Link (sym (hit_live (at s.cells j) lv)) (λ lv n e. let a = b.linked j (was_long j h) lv n e in (a.0, holds_kept s.cells put put_long put_stays (k.up (at s.cells j)) a.0 a.1, a.2)) lv)
          where
            Link : C → Type 0
            Link z = is_live r z ≡ true → (n : ℕ) → (r.view z).parent ≡ Some n → (q : Label S) × Holds k m put (k.up z) q × (q.number ≡ n)

        put_clean : Clean k m put
        put_clean j h = put_each (λ z. is_live r z ≡ false → z ≡ r.blank) j h
            (λ e. absurd (both_ways (is_live r c) e (or_right (r.is_treated c) (r.is_waiting c) w)))
            (hit_clean (at s.cells j) (b.clean j (was_long j h)))

      keep_matches : (o : Option ℕ) → first_blank k m 0 (strike_at k m c s.cells) ≡ o → Matches k m places x (keep_at k m c s o) (keep places l (strike m l t))
      keep_matches o e = go o e
        where
          st : Stored r (strike_at k m c s.cells) t.treated (filter (λ k. not (covers m l k)) t.waiting)
          st = struck r s.cells t.treated t.waiting b.stored (covers m l)

          size : length (strike_at k m c s.cells) ≡ places
          size = length-map s.cells hit ∙ b.long

          go : (o : Option ℕ) → first_blank k m 0 (strike_at k m c s.cells) ≡ o → Matches k m places x (keep_at k m c s o) (keep places l (strike m l t))
          go None e =
              let z = size in
              let f = full r (strike_at k m c s.cells) t.treated (filter (λ k. not (covers m l k)) t.waiting) st (blank_none 0 (strike_at k m c s.cells) e) in
              subst (λ b. Matches k m places x None (cond b (Some (add l (strike m l t))) None)) (sym (le-ltb (length t.treated + length (filter (λ k. not (covers m l k)) t.waiting)) places (omega arith))) tt
          go (Some i) e =
              let f = blank_some 0 i (strike_at k m c s.cells) e in
              let fi = f.is in
              let fw = f.within in
              let same : i ≡ f.place = omega arith in
              let inside : i < length (strike_at k m c s.cells) = omega arith in
              let free : is_live r (at (strike_at k m c s.cells) i) ≡ false = ap (λ j. is_live r (at (strike_at k m c s.cells) j)) same ∙ f.free in
              let room = roomy r (strike_at k m c s.cells) t.treated (filter (λ k. not (covers m l k)) t.waiting) st i inside free in
              let z = size in
              let counted = count_waiting r s.cells t.treated t.waiting b.stored (covers m l) in
              let bk = b.kept in
              let bs = b.struck in
              subst (λ b. Matches k m places x (keep_at k m c s (Some i)) (cond b (Some (add l (strike m l t))) None)) (sym (lt-ltb (length t.treated + length (filter (λ k. not (covers m l k)) t.waiting)) places (omega arith)))
              (record {
                long = length-set (strike_at k m c s.cells) i c ∙ size;
                stored = kept r (strike_at k m c s.cells) t.treated (filter (λ k. not (covers m l k)) t.waiting) st i c inside free w;
                best = best_kept s.cells (put i inside free) (put_long i inside free) (put_stays i inside free) s.best t.best b.best;
                held = hand_kept s.cells (put i inside free) (put_long i inside free) (put_stays i inside free) x b.held;
                linked = put_linked i inside free;
                clean = put_clean i inside free;
                kept = omega arith;
                struck = omega arith;
                turned = b.turned;
              })

      pub offer_matches : Matches k m places x (offer_at k m c s) (offer m places (k.reading.view c) t)
      offer_matches = subst (λ a. Matches k m places x (cond a (Some (turn_away_at k m s)) (keep_at k m c s (first_blank k m 0 (strike_at k m c s.cells)))) (offer m places l t)) (sym (any_live r s.cells t.treated t.waiting b.stored (λ b. covers m b l))) (by (is_covered m l t))
        where
          by : (a : Bool) → Matches k m places x (cond a (Some (turn_away_at k m s)) (keep_at k m c s (first_blank k m 0 (strike_at k m c s.cells)))) (cond a (Some (turn_away t)) (keep places l (strike m l t)))
          by true = let z = b.turned in record { long = b.long; stored = b.stored; best = b.best; held = b.held; linked = b.linked; clean = b.clean; kept = b.kept; struck = b.struck; turned = omega arith }
          by false = keep_matches (first_blank k m 0 (strike_at k m c s.cells)) refl

    -- the label p at place i goes on to j
    pub go_on_matches : (s : Work C) (t : Table S) (i : ℕ) (p : Label S) (j : ℕ) → Beside k m places (Some (i, p)) s t → Matches k m places (Some (i, p)) (go_on_at k m i p j s) (go_on m places p j t)
    go_on_matches s t i p j b = by (m.reach p.state p.stop j)
      where
        by : (o : Option (S × ℤ)) → Matches k m places (Some (i, p)) (offer_reached_at k m i p j s o) (offer_reached m places p j t o)
        by None = b
        by (Some a) =
            let new = child s.kept p j a in
            let c = k.fresh i new in
            let v : r.view c ≡ child t.kept p j a = k.fresh_view i new ∙ ap (λ n. child n p j a) b.kept in
            subst (λ l. Matches k m places (Some (i, p)) (offer_at k m c s) (offer m places l t)) v (offer_matches (Some (i, p)) s t b c (k.fresh_waits i new)
            (λ n e. (p, subst (λ u. Holds k m s.cells u p) (sym (k.fresh_up i new p.number refl)) b.held, some_same (sym (ap (λ l. l.parent) v) ∙ e))))

    -- and to each of these stops in order
    pub go_on_to_matches : (i : ℕ) (p : Label S) (js : List ℕ) (s : Work C) (t : Table S) → Beside k m places (Some (i, p)) s t → Matches k m places (Some (i, p)) (go_on_to_at k m i p js s) (go_on_to m places p js t)
    go_on_to_matches i p [] s t b = b
    go_on_to_matches i p (j ∷ js) s t b = matches_then (Some (i, p)) (go_on_at k m i p j s) (go_on m places p j t) (go_on_to_at k m i p js) (go_on_to m places p js) (go_on_matches s t i p j b) (go_on_to_matches i p js)
