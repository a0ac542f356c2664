-- What holds between any two turns of a run, also while labels wait: no admitted route is lost from view.
use Rattle.std.specs.Prelude.{◌≡◌, ℕ, Bool, ◌⊎◌, List, [], ◌∷◌, ◌++◌, ℤ, pos, ◌+ℤ◌, ◌≤ℤ◌, Some, None, Option}
use Rattle.tier.specs.Answers.{Answers}
use Rattle.tier.specs.Routes.{Route, and_then, reduced_cost}
use Rattle.tier.specs.Laws.{GapLaws}
use Rattle.labelling.specs.Members.{In}
use Rattle.labelling.specs.Labelling.{Label, Finished, Table, treat, root, begin, route_to}

-- the tables that a run passes through: the first, and each that one more turn gives
pub data Passed {S : Type 0} (m : Answers S) (earlier : S → S → Bool) (places : ℕ) : Table S → Type 0 where
  at_first : Passed m earlier places (begin m)
  one_turn : {t : Table S} (u : Table S) → Passed m earlier places t → treat m earlier places t ≡ Some u → Passed m earlier places u

-- a van on its way: its state, where it is, and what it has paid
pub record Van (S : Type 0) : Type 0 where
  pub state : S
  pub place : ℕ
  pub paid : ℤ

abbrev pub van : {S : Type 0} → S → ℕ → ℤ → Van S
van s i c = record { state = s; place = i; paid = c }

-- the van after these stops; None if one of them is barred
abbrev pub drive : {S : Type 0} → Answers S → Van S → List ℕ → Option (Van S)
drive m v [] = Some v
drive m v (j ∷ js) = and_then (m.reach v.state v.place j) (λ p. drive m (van p.0 j (v.paid +ℤ p.1)) js)

-- from the depot
abbrev pub van_after : {S : Type 0} → Answers S → List ℕ → Option (Van S)
van_after m gone = drive m (van m.start 0 (pos 0)) gone

-- l is no worse than the van: it is at the same place, and its cost with the gap to the van's state is at most what
-- the van has paid
pub record CoversVan {S : Type 0} (m : Answers S) (l : Label S) (v : Van S) : Type 0 where
  pub there : l.stop ≡ v.place
  pub width : ℕ
  pub present : m.gap l.state v.state ≡ Some width
  pub small : (l.cost +ℤ pos width) ≤ℤ v.paid

-- there is a best total, and it is at most z
abbrev pub BestAtMost : {S : Type 0} → Option (Finished S) → ℤ → Type 0
BestAtMost None z = ⊥
BestAtMost (Some b) z = b.total ≤ℤ z

-- where the table has a route r of reduced cost z
pub data InView {S : Type 0} (m : Answers S) (t : Table S) (r : List ℕ) (z : ℤ) : Type 0 where
  -- a treated label is no worse than its van after all stops, and the best total is no more than z
  to_its_end : (l : Label S) (v : Van S) → In l t.treated → van_after m r ≡ Some v → CoversVan m l v → BestAtMost t.best z → InView m t r z
  -- a waiting label is no worse than its van after some stops; `left` are still to go
  on_its_way : (l : Label S) (v : Van S) (gone left : List ℕ) → In l t.waiting → gone ++ left ≡ r → van_after m gone ≡ Some v → CoversVan m l v → InView m t r z
  -- the root waits: nothing is treated yet
  not_begun : In (root m) t.waiting → InView m t r z

-- not struck
abbrev pub Live : {S : Type 0} → Table S → Label S → Type 0
Live t l = In l t.treated ⊎ In l t.waiting

-- r is a route, and admitted at exactly z
pub record Exact {S : Type 0} (m : Answers S) (r : List ℕ) (z : ℤ) : Type 0 where
  pub route : Route m.stops r
  pub admitted : reduced_cost m r ≡ Some z

pub record Moment {S : Type 0} (m : Answers S) (t : Table S) : Type 0 where
  -- each live label is the van after its stops
  pub labels_true : (l : Label S) → Live t l → van_after m (route_to t l) ≡ Some (van l.state l.stop l.cost)
  -- the best total is what its route costs
  pub best_true : (b : Finished S) → t.best ≡ Some b → Exact m (route_to t b.last) b.total
  -- every admitted route is in view
  pub in_view : (r : List ℕ) (z : ℤ) → Route m.stops r → reduced_cost m r ≡ Some z → InView m t r z

-- by the laws of gaps alone, whatever the order and the number of places
abbrev pub EveryMoment : Type 0 → Type 0
EveryMoment S = (m : Answers S) (earlier : S → S → Bool) (places : ℕ) (t : Table S) → GapLaws m → Passed m earlier places t → Moment m t
