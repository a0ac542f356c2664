-- Over a run: what calls keep, and what they may only tighten. Assumes nothing.
use Rattle.std.proofs.Common.{◌≡◌, ℕ, false, List, [], ◌∷◌, ◌++◌, length, ℤ, Option, sym, refl, ap, ◌∙◌, subst, arith}
use Rattle.std.specs.List.{AllByRecursion}
use Rattle.std.proofs.lemmas.List.{length-append}
use Rattle.std.proofs.lemmas.Int.{ints}
use Rattle.std.proofs.lemmas.Bool.{true≢false}
use Rattle.tier.specs.Answers.{Answers}
use Rattle.tier.specs.Routes.{Route}
use Rattle.tier.specs.Meaning.{Meaning, Outcome, taken, refused, Comes, here, by_set, by_tighten}
use Rattle.tier.specs.Laws.{Lawful, Kept, NoCheaper}
use Rattle.labelling.specs.Labelling.{by_key}
use Rattle.calls.specs.Calls.{Call, set, tighten, price, Answer, call_taken, call_refused, lowest, no_route, told, left_by, Entry, left, step, run}
use Rattle.calls.specs.Promises.{Right, is_taken_set, NotAbove, Promise}
use Rattle.calls.proofs.Floors.{priced_right}

-- TWO PRICES

-- over the same stops, nothing is admitted after that was not before, and nothing for less
record Tightened {S : Type 0} (m n : Answers S) : Type 0 where
  no_cheaper : NoCheaper m n
  stops : n.stops ≡ m.stops

tightened_same : {S : Type 0} (m : Answers S) → Tightened m m
tightened_same m = record { no_cheaper = λ r c p e. (c, e, omega (arith, ints)); stops = refl }

route_same : (a b : ℕ) (r : List ℕ) → b ≡ a → Route b r → Route a r
route_same a b r e p = subst (λ n. Route n r) e p

tightened_twice : {S : Type 0} (m n o : Answers S) → Tightened m n → Tightened n o → Tightened m o
tightened_twice m n o a b = record {
  no_cheaper = λ r c p e.
      let x = b.no_cheaper r c p e in
      let y = a.no_cheaper r x.0 (route_same n.stops o.stops r b.stops p) x.1 in
      let u = x.2 in
      let v = y.2 in
      (y.0, y.1, omega (arith, ints));
  stops = b.stops ∙ a.stops;
}

not_above : {S : Type 0} (m n : Answers S) (g h : List ℕ → Option ℤ) (vans : ℕ) (x y : Answer) → Tightened m n → Right m g vans x → Right n h vans y → NotAbove x y
not_above m n g h vans call_taken y e p q = tt
not_above m n g h vans (call_refused i) y e p q = tt
not_above m n g h vans (lowest c r f k) call_taken e p q = tt
not_above m n g h vans (lowest c r f k) (call_refused i) e p q = tt
not_above m n g h vans (lowest c r f k) (lowest c' r' f' k') e p q =
    let y = e.no_cheaper r' c' q.is_route q.admitted in
    let u = p.none_cheaper r' y.0 (route_same m.stops n.stops r' e.stops q.is_route) y.1 in
    let v = y.2 in
    omega (arith, ints)
not_above m n g h vans (lowest c r f k) (no_route k') e p q = tt
not_above m n g h vans (no_route k) call_taken e p q = tt
not_above m n g h vans (no_route k) (call_refused i) e p q = tt
not_above m n g h vans (no_route k) (lowest c' r' f' k') e p q =
    let y = e.no_cheaper r' c' q.is_route q.admitted in
    p.none_admitted r' (route_same m.stops n.stops r' e.stops q.is_route) (y.0, y.1)
not_above m n g h vans (no_route k) (no_route k') e p q = tt

-- what a set or tighten is told is no price
told_no_price : {V : Type 0} (o : Outcome V) (y : Answer) → NotAbove (told o) y
told_no_price (taken w) y = tt
told_no_price (refused n) y = tt

told_right : {V S : Type 0} (m : Answers S) (g : List ℕ → Option ℤ) (vans : ℕ) (o : Outcome V) → Right m g vans (told o)
told_right m g vans (taken w) = tt
told_right m g vans (refused n) = tt

-- SPLIT LISTS

head_same : {X : Type 0} (x y : X) (xs ys : List X) → x ∷ xs ≡ y ∷ ys → x ≡ y
head_same x y xs ys e = cc

tail_same : {X : Type 0} (x y : X) (xs ys : List X) → x ∷ xs ≡ y ∷ ys → xs ≡ ys
tail_same x y xs ys e = cc

not_empty : {X : Type 0} (xs ys : List X) (y : X) → [] ≡ xs ++ y ∷ ys → ⊥
not_empty xs ys y e = let a = ap length e in let b = length-append xs (y ∷ ys) in omega arith

module _ {S : Type 0} (d : Meaning S) (vans : ℕ) (v : d.Value) (lawful : Lawful d v) where
  abbrev after : d.Value → Call → d.Value
  after w c = (step d vans w c).1

  abbrev entry : d.Value → Call → Entry d.Value
  entry w c = record { call = c; value = w; answer = (step d vans w c).0 }

  -- ONE CALL

  comes_after : (w : d.Value) (c : Call) → Comes d v w → Comes d v (after w c)
  comes_after w (set i j a) h = by (d.sets w i j a) refl
    where
      by : (o : Outcome d.Value) → d.sets w i j a ≡ o → Comes d v (left_by w o)
      by (taken x) e = by_set x i j a h e
      by (refused n) e = h
  comes_after w (tighten i j s a) h = by (d.tightens w i j s a) refl
    where
      by : (o : Outcome d.Value) → d.tightens w i j s a ≡ o → Comes d v (left_by w o)
      by (taken x) e = by_tighten x i j s a h e
      by (refused n) e = h
  comes_after w (price p r) h = h

  kept_same : (w : d.Value) → Kept d w w
  kept_same w = record { stops = refl; tiers = refl; ground_of = refl }

  kept_twice : (w x y : d.Value) → Kept d w x → Kept d x y → Kept d w y
  kept_twice w x y a b = record { stops = b.stops ∙ a.stops; tiers = b.tiers ∙ a.tiers; ground_of = b.ground_of ∙ a.ground_of }

  kept_after : (w : d.Value) (c : Call) → Comes d v w → Kept d w (after w c)
  kept_after w (set i j a) h = by (d.sets w i j a) refl
    where
      by : (o : Outcome d.Value) → d.sets w i j a ≡ o → Kept d w (left_by w o)
      by (taken x) e = (lawful w h).set_keeps x i j a e
      by (refused n) e = kept_same w
  kept_after w (tighten i j s a) h = by (d.tightens w i j s a) refl
    where
      by : (o : Outcome d.Value) → d.tightens w i j s a ≡ o → Kept d w (left_by w o)
      by (taken x) e = (lawful w h).tighten_keeps x i j s a e
      by (refused n) e = kept_same w
  kept_after w (price p r) h = kept_same w

  left_kept : (w : d.Value) (cs : List Call) → Comes d v w → Kept d v w → Kept d v (left d vans w cs)
  left_kept w [] h k = k
  left_kept w (c ∷ cs) h k = left_kept (after w c) cs (comes_after w c h) (kept_twice v w (after w c) k (kept_after w c h))

  -- the value that calls leave has the stops, the tiers and the ground of the opening
  pub keeps_after : (cs : List Call) → Kept d v (left d vans v cs)
  keeps_after cs = left_kept v cs here (kept_same v)

  right_at : (w : d.Value) (c : Call) → Comes d v w → Right (d.answers w) (d.ground_of w) vans (step d vans w c).0
  right_at w (set i j a) h = told_right (d.answers w) (d.ground_of w) vans (d.sets w i j a)
  right_at w (tighten i j s a) h = told_right (d.answers w) (d.ground_of w) vans (d.tightens w i j s a)
  right_at w (price p r) h = priced_right d w (lawful w h) (by_key (d.answers w)) vans p r

  tightened_after : (w : d.Value) (c : Call) → Comes d v w → is_taken_set c (step d vans w c).0 ≡ false → Tightened (d.answers w) (d.answers (after w c))
  tightened_after w (set i j a) h q = by (d.sets w i j a) q
    where
      by : (o : Outcome d.Value) → is_taken_set (set i j a) (told o) ≡ false → Tightened (d.answers w) (d.answers (left_by w o))
      by (taken x) q = absurd (true≢false q)
      by (refused n) q = tightened_same (d.answers w)
  tightened_after w (tighten i j s a) h q = by (d.tightens w i j s a) refl
    where
      by : (o : Outcome d.Value) → d.tightens w i j s a ≡ o → Tightened (d.answers w) (d.answers (left_by w o))
      by (taken x) e = record { no_cheaper = (lawful w h).tighten_no_cheaper x i j s a e; stops = ((lawful w h).tighten_keeps x i j s a e).stops }
      by (refused n) e = tightened_same (d.answers w)
  tightened_after w (price p r) h q = tightened_same (d.answers w)

  -- A RUN

  all_right : (w : d.Value) (cs : List Call) → Comes d v w → AllByRecursion (λ e. Right (d.answers e.value) (d.ground_of e.value) vans e.answer) (run d vans w cs)
  all_right w [] h = tt
  all_right w (c ∷ cs) h = (right_at w c h, all_right (after w c) cs (comes_after w c h))

  all_kept : (w : d.Value) (cs : List Call) → Comes d v w → Kept d v w → AllByRecursion (λ e. Kept d v e.value) (run d vans w cs)
  all_kept w [] h k = tt
  all_kept w (c ∷ cs) h k = (k, all_kept (after w c) cs (comes_after w c h) (kept_twice v w (after w c) k (kept_after w c h)))

  -- an entry of a run from w: the value at which its call was made, and the run from there on
  record Made (e : Entry d.Value) (rest : List (Entry d.Value)) : Type 0 where
    at : d.Value
    comes : Comes d v at
    call : Call
    is : entry at call ≡ e
    calls : List Call
    goes_on : run d vans (after at call) calls ≡ rest

  made : (w : d.Value) (cs : List Call) (before rest : List (Entry d.Value)) (e : Entry d.Value) → Comes d v w → run d vans w cs ≡ before ++ e ∷ rest → Made e rest
  made w [] before rest e h q = absurd (not_empty before rest e q)
  made w (c ∷ cs) [] rest e h q = record { at = w; comes = h; call = c; is = head_same (entry w c) e (run d vans (after w c) cs) rest q; calls = cs; goes_on = tail_same (entry w c) e (run d vans (after w c) cs) rest q }
  made w (c ∷ cs) (x ∷ before) rest e h q = made (after w c) cs before rest e (comes_after w c h) (tail_same (entry w c) x (run d vans (after w c) cs) (before ++ e ∷ rest) q)

  -- a later entry, with no taken set before it
  record Later (w : d.Value) (e : Entry d.Value) : Type 0 where
    at : d.Value
    comes : Comes d v at
    call : Call
    is : entry at call ≡ e
    tightened : Tightened (d.answers w) (d.answers at)

  later : (w : d.Value) (cs : List Call) (between rest : List (Entry d.Value)) (e : Entry d.Value) → Comes d v w → AllByRecursion (λ e. is_taken_set e.call e.answer ≡ false) between → run d vans w cs ≡ between ++ e ∷ rest → Later w e
  later w [] between rest e h n q = absurd (not_empty between rest e q)
  later w (c ∷ cs) [] rest e h n q = record { at = w; comes = h; call = c; is = head_same (entry w c) e (run d vans (after w c) cs) rest q; tightened = tightened_same (d.answers w) }
  later w (c ∷ cs) (x ∷ between) rest e h n q =
      let l = later (after w c) cs between rest e (comes_after w c h) n.1 (tail_same (entry w c) x (run d vans (after w c) cs) (between ++ e ∷ rest) q) in
      let first : is_taken_set c (step d vans w c).0 ≡ false = subst (λ x. is_taken_set x.call x.answer ≡ false) (sym (head_same (entry w c) x (run d vans (after w c) cs) (between ++ e ∷ rest) q)) n.0 in
      record {
        at = l.at;
        comes = l.comes;
        call = l.call;
        is = l.is;
        tightened = tightened_twice (d.answers w) (d.answers (after w c)) (d.answers l.at) (tightened_after w c h first) l.tightened;
      }

  -- the earlier call, by its kind
  never_below : (w : d.Value) (c : Call) (e : Entry d.Value) → Comes d v w → Later (after w c) e → NotAbove (step d vans w c).0 e.answer
  never_below w (set i j a) e h l = told_no_price (d.sets w i j a) e.answer
  never_below w (tighten i j s a) e h l = told_no_price (d.tightens w i j s a) e.answer
  never_below w (price p r) e h l =
      subst (λ e. NotAbove (step d vans w (price p r)).0 e.answer) l.is
      (not_above (d.answers w) (d.answers l.at) (d.ground_of w) (d.ground_of l.at) vans (step d vans w (price p r)).0 (step d vans l.at l.call).0 l.tightened (right_at w (price p r) h) (right_at l.at l.call l.comes))

  pub keeps_promise : (calls : List Call) → Promise d vans v (run d vans v calls)
  keeps_promise calls = record {
    right = all_right v calls here;
    kept = all_kept v calls here (kept_same v);
    never_falls = λ before between rest a b q n.
        let x = made v calls before (between ++ b ∷ rest) a here q in
        let l = later (after x.at x.call) x.calls between rest b (comes_after x.at x.call x.comes) n x.goes_on in
        subst (λ a. NotAbove a.answer b.answer) x.is (never_below x.at x.call b x.comes l);
  }
