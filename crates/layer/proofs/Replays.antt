-- A layer's replay is the replay below in step with the layer's own walk. Assumes nothing.
use Rattle.std.proofs.Common.{◌≡◌, ℕ, ◌+◌, ◌≤◌, List, [], ◌∷◌, ℤ, pos, ◌+ℤ◌, Some, None, Option, refl, ap, ◌∙◌, subst, arith}
use Rattle.std.proofs.lemmas.Int.{ints}
use Rattle.tier.specs.Answers.{Answers, Standing, at_depot, reached}
use Rattle.tier.specs.Routes.{and_then, plus, replay_from, reduced_cost}
use Rattle.tier.specs.Laws.{SizeLaws, most_tiers}
use Rattle.tier.specs.Layers.{higher}
use Rattle.tier.proofs.Options.{and_then_some, plus_some, plus_zero}
use Rattle.layer.specs.Owns.{Own, OwnLaws, add, walk}
use Rattle.layer.specs.Layers.{Pairing, step_sum, over}
use Rattle.layer.proofs.Parts.{step_parts, lower}
use Rattle.layer.proofs.Fits.{charge_fits, step_fits}

-- SUMS THAT MAY BE MISSING

-- what is barred below stays barred, whatever the walk
barred_below : (w : Option ℕ) → None ≡ and_then w (λ f. plus (pos f) None)
barred_below None = refl
barred_below (Some f) = refl

-- a step below with an own step, and what both have still to go
step_then_rest : (x : ℤ) (y : ℕ) (w : Option ℕ) (c : Option ℤ) → plus (x +ℤ pos y) (and_then w (λ f. plus (pos f) c)) ≡ and_then (add y w) (λ f. plus (pos f) (plus x c))
step_then_rest x y None c = refl
step_then_rest x y (Some f) None = refl
step_then_rest x y (Some f) (Some c) = ap Some (omega (arith, ints))

-- WHAT A LAYER ADMITS

-- the replay of r splits: an own walk from k, and a replay below from s
pub record Split {S M : Type 0} (m : Answers S) (o : Own M) (k : M) (s : S) (i : ℕ) (r : List ℕ) (c : ℤ) : Type 0 where
  pub charges : ℕ
  pub walked : walk o k r ≡ Some charges
  pub cost : ℤ
  pub replayed : replay_from m s i r ≡ Some cost
  pub sum : c ≡ pos charges +ℤ cost

module _ {S M T : Type 0} (pair : Pairing S M T) (m : Answers S) (o : Own M) where
  -- what the layer admits splits, at any state
  pub replay_splits : (t : T) (i : ℕ) (r : List ℕ) (c : ℤ) → replay_from (over pair m o) t i r ≡ Some c → Split m o (pair.own t) (pair.below t) i r c
  replay_splits t i [] c e = record { charges = 0; walked = refl; cost = c; replayed = e; sum = omega (arith, ints) }
  replay_splits t i (j ∷ js) c e =
      let b = and_then_some ((over pair m o).reach t i j) (λ p. plus p.1 (replay_from (over pair m o) p.0 j js)) c e in
      let u = b.first.0 in
      let x = b.first.1 in
      let more = plus_some x c (replay_from (over pair m o) u j js) b.then in
      let k = step_parts pair m o t u i j x b.is in
      let l = replay_splits u j js more.rest more.is in
      let first_sum = k.sum in
      let rest_sum = l.sum in
      let whole = more.sum in
      record {
        charges = k.own_charge + l.charges;
        walked = ap (λ a. and_then a (λ q. add q.1 (walk o q.0 js))) k.own_steps ∙ ap (add k.own_charge) l.walked;
        cost = k.charge +ℤ l.cost;
        replayed = ap (λ a. and_then a (λ p. plus p.1 (replay_from m p.0 j js))) k.below_reaches ∙ ap (plus k.charge) l.replayed;
        sum = omega (arith, ints);
      }

  -- and so does the reduced cost of a route that it admits
  pub cost_splits : (r : List ℕ) (c : ℤ) → reduced_cost (over pair m o) r ≡ Some c → Split m o o.first m.start 0 r c
  cost_splits r c e =
      subst (λ k. Split m o k m.start 0 r c) (pair.own_join m.start o.first)
      (subst (λ s. Split m o (pair.own (over pair m o).start) s 0 r c) (pair.below_join m.start o.first)
      (replay_splits (over pair m o).start 0 r c e))

-- THE REPLAY OF A LAYER

module _ {S M T : Type 0} (pair : Pairing S M T) (m : Answers S) (o : Own M) where
  -- the replay below in step with the own walk
  abbrev pub walk_and_replay : T → ℕ → List ℕ → Option ℤ
  walk_and_replay t i r = and_then (walk o (pair.own t) r) (λ f. plus (pos f) (replay_from m (pair.below t) i r))

  -- both sides of the first step, by what reach gives below and by what the own step gives
  abbrev layer_goes : ℕ → List ℕ → Option (S × ℤ) → Option (M × ℕ) → Option ℤ
  layer_goes j js a b = and_then (and_then a (λ p. and_then b (λ q. step_sum pair p q))) (λ p. plus p.1 (replay_from (over pair m o) p.0 j js))

  abbrev both_go : ℕ → List ℕ → Option (S × ℤ) → Option (M × ℕ) → Option ℤ
  both_go j js a b = and_then (and_then b (λ q. add q.1 (walk o q.0 js))) (λ f. plus (pos f) (and_then a (λ p. plus p.1 (replay_from m p.0 j js))))

  -- from a joined state both parts go on
  parts_of_join : (s : S) (n : M) (j : ℕ) (js : List ℕ) → walk_and_replay (pair.join s n) j js ≡ and_then (walk o n js) (λ f. plus (pos f) (replay_from m s j js))
  parts_of_join s n j js =
      ap (λ k. and_then (walk o k js) (λ f. plus (pos f) (replay_from m (pair.below (pair.join s n)) j js))) (pair.own_join s n)
      ∙ ap (λ u. and_then (walk o n js) (λ f. plus (pos f) (replay_from m u j js))) (pair.below_join s n)

module _ {S M T : Type 0} (pair : Pairing S M T) (m : Answers S) (o : Own M) (few : higher m.tiers ≤ most_tiers) (sizes : SizeLaws m) (own : OwnLaws m.stops o) where
  first_step : (t : T) (i j : ℕ) (js : List ℕ) → Standing (over pair m o) i t → ((u : T) → Standing (over pair m o) j u → replay_from (over pair m o) u j js ≡ walk_and_replay pair m o u j js) → (a : Option (S × ℤ)) (b : Option (M × ℕ)) → m.reach (pair.below t) i j ≡ a → o.step j (pair.own t) ≡ b → layer_goes pair m o j js a b ≡ both_go pair m o j js a b
  first_step t i j js st rest None b e f = barred_below (and_then b (λ q. add q.1 (walk o q.0 js)))
  first_step t i j js st rest (Some p) None e f = refl
  first_step t i j js st rest (Some p) (Some q) e f =
      let s = p.0 in
      let x = p.1 in
      let n = q.0 in
      let y = q.1 in
      let low = lower pair m o st in
      let u = pair.join s n in
      let stands : Standing (over pair m o) j u = reached j u (x +ℤ pos y) st (step_fits pair m o few sizes own t s n i j x y low e f) in
      ap (λ c. and_then {A = T × ℤ} (and_then c (λ z. Some (u, z))) (λ r. plus r.1 (replay_from (over pair m o) r.0 j js))) (charge_fits pair m o few sizes own (pair.below t) s (pair.own t) n i j x y low e f)
      ∙ ap (plus (x +ℤ pos y)) (rest u stands ∙ parts_of_join pair m o s n j js)
      ∙ step_then_rest x y (walk o n js) (replay_from m s j js)

  -- From a standing state, the layer's replay is the replay below in step with the own walk.
  pub replay_over : (r : List ℕ) (t : T) (i : ℕ) → Standing (over pair m o) i t → replay_from (over pair m o) t i r ≡ walk_and_replay pair m o t i r
  replay_over [] t i st = plus_zero (m.finish (pair.below t) i)
  replay_over (j ∷ js) t i st = first_step t i j js st (λ u stu. replay_over js u j stu) (m.reach (pair.below t) i j) (o.step j (pair.own t)) refl refl

  -- the reduced cost of a route is the own walk and the reduced cost below
  pub reduced_cost_over : (r : List ℕ) → reduced_cost (over pair m o) r ≡ and_then (walk o o.first r) (λ f. plus (pos f) (reduced_cost m r))
  reduced_cost_over r = replay_over r (over pair m o).start 0 at_depot ∙ parts_of_join pair m o m.start o.first 0 r

  -- a route that is walked, and admitted below, the layer admits for the sum
  pub cost_joins : (r : List ℕ) (f : ℕ) (c : ℤ) → walk o o.first r ≡ Some f → reduced_cost m r ≡ Some c → reduced_cost (over pair m o) r ≡ Some (pos f +ℤ c)
  cost_joins r f c walked admitted = reduced_cost_over r ∙ ap (λ w. and_then w (λ f. plus (pos f) (reduced_cost m r))) walked ∙ ap (plus (pos f)) admitted
