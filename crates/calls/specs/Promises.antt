-- THE THEOREM. Whatever lawful pile a sitting is opened on, with whatever number of vans, and whatever calls are made
-- in whatever order: the prices answered are right, the floors are lower bounds, and between two taken sets the lowest
-- never falls.
use Rattle.std.specs.Prelude.{◌≡◌, ℕ, ◌≤◌, Bool, true, false, List, ◌∷◌, ◌++◌, map, length, take, ℤ, pos, ◌+ℤ◌, ◌*ℤ◌, ◌≤ℤ◌, Some, Option}
use Rattle.std.specs.Int.{int_min}
use Rattle.std.specs.List.{AllByRecursion}
use Rattle.tier.specs.Answers.{Answers}
use Rattle.tier.specs.Routes.{Route, Admitted, reduced_cost}
use Rattle.tier.specs.Plans.{Plan}
use Rattle.tier.specs.Meaning.{Meaning}
use Rattle.tier.specs.Laws.{Kept}
use Rattle.calls.specs.Calls.{Call, set, tighten, price, Answer, call_taken, call_refused, lowest, no_route, Entry, run, left}

-- ONE PRICE, by the answers and the ground of the pile as it then stands

abbrev pub NoneAdmitted : {S : Type 0} → Answers S → Type 0
NoneAdmitted m = (r : List ℕ) → Route m.stops r → Admitted m r → ⊥

-- "Lowest cost, by this route; no plan is below this floor."
pub record RightLowest {S : Type 0} (m : Answers S) (ground_of : List ℕ → Option ℤ) (vans : ℕ) (cost : ℤ) (route : List ℕ) (floor : ℤ) : Type 0 where
  -- the route is one, and it is admitted, at exactly this cost
  pub is_route : Route m.stops route
  pub admitted : reduced_cost m route ≡ Some cost
  -- so "no route" would be wrong here
  pub some_admitted : NoneAdmitted m → ⊥
  -- every admitted route costs at least this
  pub none_cheaper : (r : List ℕ) (c : ℤ) → Route m.stops r → reduced_cost m r ≡ Some c → cost ≤ℤ c
  -- the floor is the credit, and for each van the lesser of 0 and the lowest
  pub floor_is : floor ≡ m.credit +ℤ (pos vans *ℤ int_min (pos 0) cost)
  -- every plan for these vans costs at least the floor
  pub plans_above : (rs : List (List ℕ)) (c : ℤ) → Plan m.stops ground_of vans rs c → floor ≤ℤ c

-- "There is no route."
pub record RightNoRoute {S : Type 0} (m : Answers S) (ground_of : List ℕ → Option ℤ) (vans : ℕ) : Type 0 where
  -- none is admitted
  pub none_admitted : NoneAdmitted m
  -- and there is no plan, whatever the number of vans
  pub no_plan : (any : ℕ) (rs : List (List ℕ)) (c : ℤ) → Plan m.stops ground_of any rs c → ⊥

-- An answer is right. Of the prices that are not refused, "no route" is answered exactly when none is admitted.
abbrev pub Right : {S : Type 0} → Answers S → (List ℕ → Option ℤ) → ℕ → Answer → Type 0
Right m ground_of vans call_taken = Unit {0}
Right m ground_of vans (call_refused n) = Unit {0}
Right m ground_of vans (lowest cost route floor counts) = RightLowest m ground_of vans cost route floor
Right m ground_of vans (no_route counts) = RightNoRoute m ground_of vans

-- TWO PRICES

-- a call that is a set, and was taken
abbrev pub is_taken_set : Call → Answer → Bool
is_taken_set (set tier index amount) call_taken = true
is_taken_set (set tier index amount) (call_refused n) = false
is_taken_set (set tier index amount) (lowest cost route floor counts) = false
is_taken_set (set tier index amount) (no_route counts) = false
is_taken_set (tighten tier index members amount) a = false
is_taken_set (price places row) a = false

-- The lowest of the earlier answer is not above that of the later. "No route" counts as above every number: after it
-- the later answer has no route either. Where one of the two has no price, nothing is said.
abbrev pub NotAbove : Answer → Answer → Type 0
NotAbove call_taken later = Unit {0}
NotAbove (call_refused n) later = Unit {0}
NotAbove (lowest c r f k) call_taken = Unit {0}
NotAbove (lowest c r f k) (call_refused n) = Unit {0}
NotAbove (lowest c r f k) (lowest c' r' f' k') = c ≤ℤ c'
NotAbove (lowest c r f k) (no_route k') = Unit {0}
NotAbove (no_route k) call_taken = Unit {0}
NotAbove (no_route k) (call_refused n) = Unit {0}
NotAbove (no_route k) (lowest c' r' f' k') = ⊥
NotAbove (no_route k) (no_route k') = Unit {0}

-- A WHOLE RUN

-- of the entries of a run that was opened at v
pub record Promise {S : Type 0} (d : Meaning S) (vans : ℕ) (v : d.Value) (entries : List (Entry d.Value)) : Type 0 where
  -- every answer is right, by the pile as it stood at the call
  pub right : AllByRecursion (λ e. Right (d.answers e.value) (d.ground_of e.value) vans e.answer) entries
  -- the stops, the tiers and the ground are those of the opening, so the plans are the same all along
  pub kept : AllByRecursion (λ e. Kept d v e.value) entries
  -- of any two entries with no taken set between them, the lowest of the later is not below that of the earlier
  pub never_falls : (before between after : List (Entry d.Value)) (a b : Entry d.Value) → entries ≡ before ++ a ∷ (between ++ b ∷ after) → AllByRecursion (λ e. is_taken_set e.call e.answer ≡ false) between → NotAbove a.answer b.answer

-- whatever the number of vans and the calls
abbrev pub Promises : {S : Type 0} → (d : Meaning S) → d.Value → Type 0
Promises d v = (vans : ℕ) (calls : List Call) → Promise d vans v (run d vans v calls)

-- What it is to carry out calls on a sitting that stands at v, with these answers and this value left: the answers and
-- the value are those of the definition, by the opening and the calls alone, and the promise holds of them.
pub record Carried {S : Type 0} (d : Meaning S) (vans : ℕ) (v : d.Value) (calls : List Call) (answers : List Answer) (after : d.Value) : Type 0 where
  pub answers_are : answers ≡ map (λ e. e.answer) (run d vans v calls)
  pub after_is : after ≡ left d vans v calls
  -- the stops, the tiers and the ground are those of the opening still
  pub kept : Kept d v after
  pub promise : Promise d vans v (run d vans v calls)

-- Carrying out was cut short: the value is the one that the first so many calls leave.
pub record CutShort {S : Type 0} (d : Meaning S) (vans : ℕ) (v : d.Value) (calls : List Call) (after : d.Value) : Type 0 where
  pub made : ℕ
  pub within : made ≤ length calls
  pub after_is : after ≡ left d vans v (take made calls)
  pub kept : Kept d v after
