-- What labelling comes to: it ends, it finds the lowest route, and its numbers stay small.
use Rattle.std.specs.Prelude.{◌≡◌, ℕ, ◌+◌, ◌*◌, ◌<◌, ◌≤◌, Bool, false, List, [], ◌∷◌, ◌++◌, length, ℤ, ◌≤ℤ◌, Some, None, Option, unsigned_abs}
use Rattle.stops.specs.Stops.{Stop}
use Rattle.tier.specs.Answers.{Answers}
use Rattle.tier.specs.Routes.{Route, Admitted, reduced_cost}
use Rattle.tier.specs.Laws.{GapLaws, SizeLaws, KeyLaws, most_tiers, greatest_key, size_of_tier}
use Rattle.labelling.specs.Members.{In}
use Rattle.labelling.specs.Labelling.{Label, Finished, Table, covers, child, by_key, choose, treat, turns, labelling, route_to}
use Rattle.labelling.specs.Moments.{Passed, Live, Exact}

-- IT ENDS: whatever the answers, no label waits after as many turns as there are places.
abbrev pub Ends : Type 0 → Type 0
Ends S = (m : Answers S) (earlier : S → S → Bool) (places : ℕ) (t : Table S) → 0 < places → labelling m earlier places ≡ Some t → t.waiting ≡ []

-- A TREATED LABEL IS NEVER STRUCK

-- the labels treated in t are so in u, in the same order; those treated later stand after them
abbrev pub KeepsTreated : {S : Type 0} → Table S → Table S → Type 0
KeepsTreated {S} t u = (more : List (Label S)) × (u.treated ≡ t.treated ++ more)

-- whatever the answers, in one turn and in many
pub record StaysTreated (S : Type 0) : Type 0 where
  pub in_a_turn : (m : Answers S) (earlier : S → S → Bool) (places : ℕ) (t u : Table S) → treat m earlier places t ≡ Some u → KeepsTreated t u
  pub in_a_run : (m : Answers S) (earlier : S → S → Bool) (places n : ℕ) (t u : Table S) → turns m earlier places n t ≡ Some u → KeepsTreated t u

-- Nor would it be, if offers were compared with every live label: in the order of keys no label that is offered
-- covers a treated one. So it makes no difference that only waiting labels are struck.
abbrev pub CoversNoTreated : Type 0 → Type 0
CoversNoTreated S = (m : Answers S) (places : ℕ) (t : Table S) (x : Label S) (xs : List (Label S)) → KeyLaws m → Passed m (by_key m) places t → t.waiting ≡ x ∷ xs → (k : Label S) → In k (t.treated ++ (choose (by_key m) x xs).0 ∷ []) → (number j : ℕ) (a : S × ℤ) → Stop m.stops j → m.reach (choose (by_key m) x xs).0.state (choose (by_key m) x xs).0.stop j ≡ Some a → covers m (child number (choose (by_key m) x xs).0 j a) k ≡ false

-- IT FINDS THE LOWEST

-- the route of the best total has exactly that cost, and no admitted route costs less; without one no route is
-- admitted
abbrev pub Found : {S : Type 0} → Answers S → Table S → Option (Finished S) → Type 0
Found m t None = (r : List ℕ) → Route m.stops r → Admitted m r → ⊥
Found m t (Some b) = Exact m (route_to t b.last) b.total × ((r : List ℕ) (c : ℤ) → Route m.stops r → reduced_cost m r ≡ Some c → b.total ≤ℤ c)

-- by the laws of gaps alone, whatever the order
abbrev pub FindsLowest : Type 0 → Type 0
FindsLowest S = (m : Answers S) (earlier : S → S → Bool) (places : ℕ) (t : Table S) → GapLaws m → 0 < places → labelling m earlier places ≡ Some t → Found m t t.best

-- COUNTS ADD UP

-- at every moment
pub record Counted {S : Type 0} (m : Answers S) (places : ℕ) (t : Table S) : Type 0 where
  -- each label that was kept is live or was struck
  pub live_or_struck : t.kept ≡ length t.treated + length t.waiting + t.struck
  -- each treated label offers at most one label for each stop
  pub few : t.kept + t.turned ≤ 1 + length t.treated * m.stops
  -- live labels never pass the places
  pub room : length t.treated + length t.waiting ≤ places

-- whatever the answers; so at most 1 + places × stops are kept and turned away in all
abbrev pub CountsAddUp : Type 0 → Type 0
CountsAddUp S = (m : Answers S) (earlier : S → S → Bool) (places : ℕ) (t : Table S) → 0 < places → Passed m earlier places t → Counted m places t

-- NUMBERS STAY SMALL

-- no charge, gap or credit passes this in size
abbrev pub size_limit : {S : Type 0} → Answers S → ℕ
size_limit m = m.tiers * size_of_tier

-- at every moment
pub record SmallTable {S : Type 0} (m : Answers S) (t : Table S) : Type 0 where
  -- a label has cost no more than its key times that
  pub costs : (l : Label S) → Live t l → unsigned_abs l.cost ≤ m.key l.state * size_limit m
  pub keys : (l : Label S) → Live t l → m.key l.state ≤ greatest_key
  pub total : (b : Finished S) → t.best ≡ Some b → unsigned_abs b.total ≤ (1 + greatest_key) * size_limit m
  -- a route has at most 1,440 stops
  pub short : (b : Finished S) → t.best ≡ Some b → length (route_to t b.last) ≤ greatest_key

abbrev pub StaysSmall : Type 0 → Type 0
StaysSmall S = (m : Answers S) (earlier : S → S → Bool) (places : ℕ) (t : Table S) → m.tiers ≤ most_tiers → SizeLaws m → KeyLaws m → Passed m earlier places t → SmallTable m t
