-- A step or a gap of a layer is one below and one of the layer's own. Assumes nothing.
use Rattle.std.proofs.Common.{◌≡◌, ℕ, ◌+◌, ℤ, pos, ◌+ℤ◌, Some, sym, ap, ◌∙◌}
use Rattle.tier.specs.Answers.{Answers, Standing}
use Rattle.tier.specs.Routes.{and_then}
use Rattle.tier.proofs.Options.{some_same, and_then_some}
use Rattle.tier.proofs.Layers.{stands_below}
use Rattle.layer.specs.Sums.{charge_sum, gap_sum}
use Rattle.layer.specs.Owns.{Own}
use Rattle.layer.specs.Layers.{Pairing, step_sum, over}
use Rattle.layer.proofs.InWord.{charge_sum_some, gap_sum_some}

module _ {S M T : Type 0} (pair : Pairing S M T) where
  -- what it says that two steps have a sum
  pub record Joined (p : S × ℤ) (q : M × ℕ) (u : T) (x : ℤ) : Type 0 where
    pub state : pair.join p.0 q.0 ≡ u
    pub sum : x ≡ p.1 +ℤ pos q.1

  step_sum_some : (p : S × ℤ) (q : M × ℕ) (u : T) (x : ℤ) → step_sum pair p q ≡ Some (u, x) → Joined p q u x
  step_sum_some p q u x e =
      let b = and_then_some (charge_sum p.1 q.1) (λ z. Some (pair.join p.0 q.0, z)) (u, x) e in
      let same = some_same b.then in
      record {
        state = ap (λ (r : T × ℤ). r.0) same;
        sum = sym (ap (λ (r : T × ℤ). r.1) same) ∙ charge_sum_some p.1 b.first q.1 b.is;
      }

module _ {S M T : Type 0} (pair : Pairing S M T) (m : Answers S) (o : Own M) where
  -- what it says that the layer steps
  pub record Steps (t u : T) (i j : ℕ) (x : ℤ) : Type 0 where
    pub charge : ℤ
    pub own_charge : ℕ
    pub below_reaches : m.reach (pair.below t) i j ≡ Some (pair.below u, charge)
    pub own_steps : o.step j (pair.own t) ≡ Some (pair.own u, own_charge)
    pub sum : x ≡ charge +ℤ pos own_charge

  pub step_parts : (t u : T) (i j : ℕ) (x : ℤ) → (over pair m o).reach t i j ≡ Some (u, x) → Steps t u i j x
  step_parts t u i j x e =
      let b = and_then_some (m.reach (pair.below t) i j) (λ p. and_then (o.step j (pair.own t)) (λ q. step_sum pair p q)) (u, x) e in
      let p = b.first in
      let c = and_then_some (o.step j (pair.own t)) (λ q. step_sum pair p q) (u, x) b.then in
      let q = c.first in
      let k = step_sum_some pair p q u x c.then in
      let s : p.0 ≡ pair.below u = sym (pair.below_join p.0 q.0) ∙ ap pair.below k.state in
      let n : q.0 ≡ pair.own u = sym (pair.own_join p.0 q.0) ∙ ap pair.own k.state in
      record {
        charge = p.1;
        own_charge = q.1;
        below_reaches = b.is ∙ ap (λ a. Some (a, p.1)) s;
        own_steps = c.is ∙ ap (λ a. Some (a, q.1)) n;
        sum = k.sum;
      }

  -- and two steps whose sum stays within the word are a step of the layer
  pub step_from_parts : (t : T) (s : S) (n : M) (i j : ℕ) (x : ℤ) (y : ℕ) → m.reach (pair.below t) i j ≡ Some (s, x) → o.step j (pair.own t) ≡ Some (n, y) → charge_sum x y ≡ Some (x +ℤ pos y) → (over pair m o).reach t i j ≡ Some (pair.join s n, x +ℤ pos y)
  step_from_parts t s n i j x y e f fits =
      ap (λ a. and_then a (λ p. and_then (o.step j (pair.own t)) (λ q. step_sum pair p q))) e
      ∙ ap (λ a. and_then a (λ q. step_sum pair (s, x) q)) f
      ∙ ap (λ a. and_then a (λ z. Some (pair.join s n, z))) fits

  -- what stands on the layer stands below
  pub lower : {i : ℕ} {t : T} → Standing (over pair m o) i t → Standing m i (pair.below t)
  lower st = stands_below m (over pair m o) pair.below (pair.below_join m.start o.first) (λ t u i j x e. let k = step_parts t u i j x e in (k.charge, k.below_reaches)) st

  -- what it says that the layer has a gap
  pub record Gaps (a b : T) (w : ℕ) : Type 0 where
    pub width : ℕ
    pub own_width : ℕ
    pub below_gap : m.gap (pair.below a) (pair.below b) ≡ Some width
    pub own_behind : o.behind (pair.own a) (pair.own b) ≡ Some own_width
    pub sum : w ≡ width + own_width

  pub gap_parts : (a b : T) (w : ℕ) → (over pair m o).gap a b ≡ Some w → Gaps a b w
  gap_parts a b w e =
      let c = and_then_some (m.gap (pair.below a) (pair.below b)) (λ g. and_then (o.behind (pair.own a) (pair.own b)) (λ h. gap_sum g h)) w e in
      let g = c.first in
      let k = and_then_some (o.behind (pair.own a) (pair.own b)) (λ h. gap_sum g h) w c.then in
      record { width = g; own_width = k.first; below_gap = c.is; own_behind = k.is; sum = gap_sum_some g k.first w k.then }

  -- and two gaps whose sum stays within the word are a gap of the layer
  pub gap_from_parts : (a b : T) (g h : ℕ) → m.gap (pair.below a) (pair.below b) ≡ Some g → o.behind (pair.own a) (pair.own b) ≡ Some h → gap_sum g h ≡ Some (g + h) → (over pair m o).gap a b ≡ Some (g + h)
  gap_from_parts a b g h e f fits =
      ap (λ x. and_then x (λ g. and_then (o.behind (pair.own a) (pair.own b)) (λ h. gap_sum g h))) e
      ∙ ap (λ x. and_then x (λ h. gap_sum g h)) f
      ∙ fits
