-- What every tier owes: the sentences of the interface that bar, and nine laws.
-- The laws speak of standing states alone; a, b and c stand at one stop i, and the depot is no stop.
-- (How many tiers stand, and what the ground is, each tier's own definition fixes.)
use Rattle.std.specs.Prelude.{◌≡◌, ℕ, ◌+◌, ◌*◌, ◌^◌, ◌<◌, ◌≤◌, List, ℤ, pos, ◌+ℤ◌, ◌≤ℤ◌, Some, None, Option, unsigned_abs}
use Rattle.stops.specs.Stops.{Stop, most_stops}
use Rattle.tier.specs.Answers.{Answers, Standing}
use Rattle.tier.specs.Routes.{Route, reduced_cost}
use Rattle.tier.specs.Plans.{Plan, total}
use Rattle.tier.specs.Meaning.{Meaning, taken, Comes}

-- over this many tiers nothing is reached
abbrev pub most_tiers : ℕ
most_tiers = 4

-- no key passes this
abbrev pub greatest_key : ℕ
greatest_key = 1440

-- the size that each tier may add to a charge, a gap and the credit
abbrev pub size_of_tier : ℕ
size_of_tier = 2 ^ 36

-- THE INTERFACE

-- a leg goes from a place to a stop other than that place
pub record IsLeg (n i j : ℕ) : Type 0 where
  pub apart : j ≡ i → ⊥
  pub to : Stop n j
  pub from : i ≤ n

-- what a pile over four tiers answers
pub record Shut {S : Type 0} (m : Answers S) : Type 0 where
  pub reach_barred : (s : S) (i j : ℕ) → m.reach s i j ≡ None
  pub finish_barred : (s : S) (i : ℕ) → m.finish s i ≡ None
  pub gap_zero : (a b : S) → m.gap a b ≡ Some 0
  pub credit_zero : m.credit ≡ pos 0

pub record Interface {S : Type 0} (m : Answers S) : Type 0 where
  -- reach is barred if `to` equals `from`, if `to` is no stop, or if `from` is neither a stop nor the depot
  pub reach_is_leg : (s t : S) (i j : ℕ) (x : ℤ) → m.reach s i j ≡ Some (t, x) → IsLeg m.stops i j
  -- finish is barred if `from` is no stop
  pub finish_from_stop : (s : S) (i : ℕ) (x : ℤ) → m.finish s i ≡ Some x → Stop m.stops i
  pub shut_over_four : most_tiers < m.tiers → Shut m

-- THE LAWS OF ONE VALUE'S ANSWERS

-- the gap from a to b is there, and at most this
pub record GapWithin {S : Type 0} (m : Answers S) (a b : S) (most : ℕ) : Type 0 where
  pub width : ℕ
  pub present : m.gap a b ≡ Some width
  pub small : width ≤ most

-- from i the state a reaches j too, as `next`, and the charge with the gap from `next` to t is at most this
pub record ReachesWithin {S : Type 0} (m : Answers S) (i j : ℕ) (a t : S) (most : ℤ) : Type 0 where
  pub next : S
  pub charge : ℤ
  pub reaches : m.reach a i j ≡ Some (next, charge)
  pub width : ℕ
  pub present : m.gap next t ≡ Some width
  pub small : (charge +ℤ pos width) ≤ℤ most

-- from i the state a finishes too, for at most this
pub record FinishesWithin {S : Type 0} (m : Answers S) (i : ℕ) (a : S) (most : ℤ) : Type 0 where
  pub charge : ℤ
  pub finishes : m.finish a i ≡ Some charge
  pub small : charge ≤ℤ most

-- The gap bounds how much worse a state can do than another at the same stop, in all that follows.
pub record GapLaws {S : Type 0} (m : Answers S) : Type 0 where
  -- 1: a state is not behind itself
  pub gap_to_itself : (i : ℕ) (a : S) → Stop m.stops i → Standing m i a → m.gap a a ≡ Some 0
  -- 2: gaps add up at most
  pub gap_through : (i : ℕ) (a b c : S) (g h : ℕ) → Stop m.stops i → Standing m i a → Standing m i b → Standing m i c → m.gap a b ≡ Some g → m.gap b c ≡ Some h → GapWithin m a c (g + h)
  -- 3: where b reaches j as t for y, a reaches j too, and is there worse off by no more than the gap
  pub reach_follows : (i j : ℕ) (a b t : S) (g : ℕ) (y : ℤ) → Stop m.stops i → Standing m i a → Standing m i b → m.gap a b ≡ Some g → m.reach b i j ≡ Some (t, y) → ReachesWithin m i j a t (y +ℤ pos g)
  -- 4: where b finishes, a finishes too, for no more than the gap above
  pub finish_follows : (i : ℕ) (a b : S) (g : ℕ) (y : ℤ) → Stop m.stops i → Standing m i a → Standing m i b → m.gap a b ≡ Some g → m.finish b i ≡ Some y → FinishesWithin m i a (y +ℤ pos g)

-- at most 2 ^ 36 in size for each tier
abbrev pub Small : ℕ → ℤ → Type 0
Small tiers x = unsigned_abs x ≤ tiers * size_of_tier

-- 5: there are few stops, and up to four tiers charges, gaps and the credit are small
pub record SizeLaws {S : Type 0} (m : Answers S) : Type 0 where
  pub few_stops : m.stops ≤ most_stops
  pub reach_small : m.tiers ≤ most_tiers → (i j : ℕ) (s t : S) (x : ℤ) → Standing m i s → m.reach s i j ≡ Some (t, x) → Small m.tiers x
  pub finish_small : m.tiers ≤ most_tiers → (i : ℕ) (s : S) (x : ℤ) → Standing m i s → m.finish s i ≡ Some x → Small m.tiers x
  pub gap_small : m.tiers ≤ most_tiers → (i : ℕ) (a b : S) (g : ℕ) → Stop m.stops i → Standing m i a → Standing m i b → m.gap a b ≡ Some g → Small m.tiers (pos g)
  pub credit_small : m.tiers ≤ most_tiers → Small m.tiers m.credit

-- 6: keys begin at 0, pass no limit and rise with each reach; where there is a gap from a to b, a's key is at
-- most b's
pub record KeyLaws {S : Type 0} (m : Answers S) : Type 0 where
  pub start_at_zero : m.key m.start ≡ 0
  pub key_in_range : (i : ℕ) (s : S) → Standing m i s → m.key s ≤ greatest_key
  pub reach_raises_key : (i j : ℕ) (s t : S) (x : ℤ) → Standing m i s → m.reach s i j ≡ Some (t, x) → m.key s < m.key t
  pub gap_orders_keys : (i : ℕ) (a b : S) (g : ℕ) → Stop m.stops i → Standing m i a → Standing m i b → m.gap a b ≡ Some g → m.key a ≤ m.key b

-- THE LAWS OF PLANS AND CALLS

-- every route is admitted, and their reduced costs sum to at most `cost` less the credit
pub record Pays {S : Type 0} (m : Answers S) (rs : List (List ℕ)) (cost : ℤ) : Type 0 where
  pub sum : ℤ
  -- there is a sum only if each route is admitted
  pub admitted : total (reduced_cost m) rs ≡ Some sum
  pub at_most : (sum +ℤ m.credit) ≤ℤ cost

-- 7: up to four tiers, whatever the number of vans, every plan is admitted and costs at least the credit and
-- the sum of its reduced costs
abbrev pub PlansPay : {S : Type 0} → Answers S → (List ℕ → Option ℤ) → Type 0
PlansPay m ground_of = m.tiers ≤ most_tiers → (vans : ℕ) (rs : List (List ℕ)) (cost : ℤ) → Plan m.stops ground_of vans rs cost → Pays m rs cost

-- every route that `after` admits was admitted before, at no greater reduced cost
abbrev pub NoCheaper : {S : Type 0} → Answers S → Answers S → Type 0
NoCheaper before after = (r : List ℕ) (c : ℤ) → Route after.stops r → reduced_cost after r ≡ Some c → (b : ℤ) × (reduced_cost before r ≡ Some b) × (b ≤ℤ c)

-- the same stops, tiers and ground
pub record Kept {S : Type 0} (d : Meaning S) (v w : d.Value) : Type 0 where
  pub stops : (d.answers w).stops ≡ (d.answers v).stops
  pub tiers : (d.answers w).tiers ≡ (d.answers v).tiers
  pub ground_of : d.ground_of w ≡ d.ground_of v

-- what is owed by one value
pub record Laws {S : Type 0} (d : Meaning S) (v : d.Value) : Type 0 where
  pub interface : Interface (d.answers v)
  pub gaps : GapLaws (d.answers v)
  pub sizes : SizeLaws (d.answers v)
  pub keys : KeyLaws (d.answers v)
  pub plans : PlansPay (d.answers v) (d.ground_of v)
  -- 8: a taken tighten admits no new route, and none for less
  pub tighten_no_cheaper : (w : d.Value) (tier index set : ℕ) (amount : ℤ) → d.tightens v tier index set amount ≡ taken w → NoCheaper (d.answers v) (d.answers w)
  -- 9: a taken call keeps stops, tiers and ground. (That questions and refused calls change nothing, and that
  -- questions answer alike each time, is what the contracts of the calls say.)
  pub set_keeps : (w : d.Value) (tier index : ℕ) (amount : ℤ) → d.sets v tier index amount ≡ taken w → Kept d v w
  pub tighten_keeps : (w : d.Value) (tier index set : ℕ) (amount : ℤ) → d.tightens v tier index set amount ≡ taken w → Kept d v w

-- A tier at v is lawful if every value that it can come to keeps the laws.
abbrev pub Lawful : {S : Type 0} → (d : Meaning S) → d.Value → Type 0
Lawful d v = (w : d.Value) → Comes d v w → Laws d w
