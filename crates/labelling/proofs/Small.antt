-- Costs and routes stay small, by keys. Assumes nothing.
use Rattle.std.proofs.Common.{◌≡◌, ℕ, zero, suc, ◌+◌, ◌*◌, ◌<◌, ◌≤◌, Bool, List, length, ℤ, ◌+ℤ◌, nat_abs, Some, sym, ap, ◌∙◌, subst, mul-le-mul_right, arith}
use Rattle.std.proofs.lemmas.List.{length_push}
use Rattle.std.proofs.lemmas.Int.{ints}
use Rattle.tier.specs.Answers.{Answers}
use Rattle.tier.specs.Routes.{and_then}
use Rattle.tier.specs.Laws.{SizeLaws, KeyLaws, most_tiers, greatest_key}
use Rattle.labelling.specs.Labelling.{Label, Table, find, after_parent, way_to}
use Rattle.labelling.specs.Moments.{Passed}
use Rattle.labelling.specs.Lowest.{size_limit, SmallTable}
use Rattle.labelling.proofs.Traces.{Traced, at_root, further, traced_standing}
use Rattle.labelling.proofs.Holds.{HeldIn, held_passed}

-- a charge more, at a greater key
next_small : (a b k : ℕ) (c x z : ℤ) → z ≡ c +ℤ x → nat_abs c ≤ a * k → nat_abs x ≤ k → a < b → nat_abs z ≤ b * k
next_small a b k c x z e p q l = let m = mul-le-mul_right k l in omega (arith, ints)

finish_small : (n k : ℕ) (c x z : ℤ) → z ≡ c +ℤ x → nat_abs c ≤ n * k → nat_abs x ≤ k → nat_abs z ≤ (1 + n) * k
finish_small n k c x z e p q = omega (arith, ints)

module _ {S : Type 0} (m : Answers S) (keys : KeyLaws m) where
  -- a way has at most as many stops as the key of its last state
  pub traced_short : (ks : List (Label S)) (l : Label S) → Traced m ks l → (f : ℕ) → length (way_to f ks l) ≤ m.key l.state
  traced_short ks _ (at_root l e) zero = omega arith
  traced_short ks _ (at_root l e) (suc f) = rw e (omega arith)
  traced_short ks _ (further l q x p s n a r c t) zero = omega arith
  traced_short ks _ (further l q x p s n a r c t) (suc f) =
      let found : and_then l.parent (λ n. find n ks) ≡ Some q = ap (λ o. and_then o (λ n. find n ks)) p ∙ s in
      let h = traced_short ks q t f in
      let k = keys.reach_raises_key q.stop l.stop q.state l.state x (traced_standing m ks q t) r in
      let d = length_push (way_to f ks q) l.stop in
      subst (λ o. length (after_parent (way_to f ks) l o) ≤ m.key l.state) (sym found) (omega arith)

  pub traced_key : (ks : List (Label S)) (l : Label S) → Traced m ks l → m.key l.state ≤ greatest_key
  traced_key ks l t = keys.key_in_range l.stop l.state (traced_standing m ks l t)

  module _ (few : m.tiers ≤ most_tiers) (sizes : SizeLaws m) where
    -- a label's cost, by its key
    pub traced_small : (ks : List (Label S)) (l : Label S) → Traced m ks l → nat_abs l.cost ≤ m.key l.state * size_limit m
    traced_small ks _ (at_root l e) = rw e (omega arith)
    traced_small ks _ (further l q x p s n a r c t) = next_small (m.key q.state) (m.key l.state) (size_limit m) q.cost x l.cost c (traced_small ks q t) (sizes.reach_small few q.stop l.stop q.state l.state x (traced_standing m ks q t) r) (keys.reach_raises_key q.stop l.stop q.state l.state x (traced_standing m ks q t) r)

    pub traced_within : (ks : List (Label S)) (l : Label S) → Traced m ks l → nat_abs l.cost ≤ greatest_key * size_limit m
    traced_within ks l t = let a = traced_small ks l t in let b = mul-le-mul_right (size_limit m) (traced_key ks l t) in omega arith

    pub small_table : (t : Table S) → HeldIn m t → SmallTable m t
    small_table t held = record {
      costs = λ l i. traced_small t.treated l (held.traced l i);
      keys = λ l i. traced_key t.treated l (held.traced l i);
      total = λ b e. let s = held.sound b e in finish_small greatest_key (size_limit m) b.last.cost s.charge b.total s.sum (traced_within t.treated b.last s.traced) (sizes.finish_small few b.last.stop b.last.state s.charge (traced_standing m t.treated b.last s.traced) s.home);
      short = λ b e. let s = held.sound b e in let l = traced_short t.treated b.last s.traced b.last.number in let k = traced_key t.treated b.last s.traced in omega arith;
    }

    pub stays_small : (earlier : S → S → Bool) (places : ℕ) (t : Table S) → Passed m earlier places t → SmallTable m t
    stays_small earlier places t p = small_table t (held_passed m earlier places t p)
