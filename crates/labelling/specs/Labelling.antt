-- Labelling: how the lowest route is found, as a function of a tier's answers, an order among the keys of states,
-- and the number of places, which bounds how many labels may be live. How labels are stored is no part of it.
use Rattle.std.specs.Prelude.{ℕ, zero, suc, ◌+◌, Bool, false, cond, not, ◌&&◌, ◌||◌, List, [], ◌∷◌, ◌++◌, length, ℤ, pos, ◌+ℤ◌, Some, None, count_by, filter, Option, ◌==◌, int_le, int_lt, nat_le, nat_lt}
use Rattle.std.specs.List.{range_with_len}
use Rattle.tier.specs.Answers.{Answers}
use Rattle.tier.specs.Routes.{and_then}

-- LABELS

-- A label is a way from the depot to a stop: its state there and what it has cost. Labels are numbered as they are
-- kept. The parent is the number of the label that it goes on from; the root has none.
pub record Label (S : Type 0) : Type 0 where
  pub number : ℕ
  pub stop : ℕ
  pub state : S
  pub cost : ℤ
  pub parent : Option ℕ

-- a route that came home: what it costs in all, and its last label
pub record Finished (S : Type 0) : Type 0 where
  pub total : ℤ
  pub last : Label S

-- The live labels: those treated, in the order of treatment, and those waiting, in the order of number. A struck
-- label is gone from both.
pub record Table (S : Type 0) : Type 0 where
  pub treated : List (Label S)
  pub waiting : List (Label S)
  -- the lowest total so far
  pub best : Option (Finished S)
  -- how many labels were kept, the root too, how many of them were struck, and how many offers were turned away
  pub kept : ℕ
  pub struck : ℕ
  pub turned : ℕ

-- AN OFFER

-- the gap is there, and a with the gap is at most b
abbrev pub within_gap : Option ℕ → ℤ → ℤ → Bool
within_gap None a b = false
within_gap (Some g) a b = int_le (a +ℤ pos g) b

-- k covers l, or dominates it: at the same stop, there is a gap from k to l, and the cost of k with it is at most that of l
abbrev pub covers : {S : Type 0} → Answers S → Label S → Label S → Bool
covers m k l = k.stop == l.stop && within_gap (m.gap k.state l.state) k.cost l.cost

abbrev pub any : {X : Type 0} → (X → Bool) → List X → Bool
any p [] = false
any p (x ∷ xs) = p x || any p xs

-- some live label covers l
abbrev pub is_covered : {S : Type 0} → Answers S → Label S → Table S → Bool
is_covered m l t = any (λ k. covers m k l) t.treated || any (λ k. covers m k l) t.waiting

abbrev pub turn_away : {S : Type 0} → Table S → Table S
turn_away t = record { treated = t.treated; waiting = t.waiting; best = t.best; kept = t.kept; struck = t.struck; turned = t.turned + 1 }

-- every waiting label that l covers is struck
abbrev pub strike : {S : Type 0} → Answers S → Label S → Table S → Table S
strike m l t = record { treated = t.treated; waiting = filter (λ k. not (covers m l k)) t.waiting; best = t.best; kept = t.kept; struck = t.struck + count_by (covers m l) t.waiting; turned = t.turned }

abbrev pub add : {S : Type 0} → Label S → Table S → Table S
add l t = record { treated = t.treated; waiting = t.waiting ++ l ∷ []; best = t.best; kept = t.kept + 1; struck = t.struck; turned = t.turned }

-- l is kept, and waits; None: the live labels fill the places already
abbrev pub keep : {S : Type 0} → ℕ → Label S → Table S → Option (Table S)
keep places l t = cond (nat_lt (length t.treated + length t.waiting) places) (Some (add l t)) None

-- l is turned away if it is covered; else what it covers is struck, and then it is kept
abbrev pub offer : {S : Type 0} → Answers S → ℕ → Label S → Table S → Option (Table S)
offer m places l t = cond (is_covered m l t) (Some (turn_away t)) (keep places l (strike m l t))

-- the label at j that goes on from p, by the new state and the charge
abbrev pub child : {S : Type 0} → ℕ → Label S → ℕ → S × ℤ → Label S
child number p j a = record { number = number; stop = j; state = a.0; cost = p.cost +ℤ a.1; parent = Some p.number }

-- nothing is offered where reach is barred
abbrev pub offer_reached : {S : Type 0} → Answers S → ℕ → Label S → ℕ → Table S → Option (S × ℤ) → Option (Table S)
offer_reached m places p j t None = Some t
offer_reached m places p j t (Some a) = offer m places (child t.kept p j a) t

-- p goes on to j
abbrev pub go_on : {S : Type 0} → Answers S → ℕ → Label S → ℕ → Table S → Option (Table S)
go_on m places p j t = offer_reached m places p j t (m.reach p.state p.stop j)

-- p goes on to each of these stops in order
abbrev pub go_on_to : {S : Type 0} → Answers S → ℕ → Label S → List ℕ → Table S → Option (Table S)
go_on_to m places p [] t = Some t
go_on_to m places p (j ∷ js) t = and_then (go_on m places p j t) (go_on_to m places p js)

-- A TURN

-- the first total, or one below the best so far, becomes the best
abbrev pub lower : {S : Type 0} → Finished S → Option (Finished S) → Option (Finished S)
lower f None = Some f
lower f (Some b) = cond (int_lt f.total b.total) (Some f) (Some b)

abbrev pub finish_for : {S : Type 0} → Label S → Option (Finished S) → Option ℤ → Option (Finished S)
finish_for l best None = best
finish_for l best (Some y) = lower (record { total = l.cost +ℤ y; last = l }) best

-- the best after l has tried to finish; at the depot it does not try
abbrev pub try_finish : {S : Type 0} → Answers S → Label S → Option (Finished S) → Option (Finished S)
try_finish m l best = cond (l.stop == 0) best (finish_for l best (m.finish l.state l.stop))

-- l is treated from now on, and has tried to finish; `others` still wait
abbrev pub take_up : {S : Type 0} → Answers S → Label S → List (Label S) → Table S → Table S
take_up m l others t = record { treated = t.treated ++ l ∷ []; waiting = others; best = try_finish m l t.best; kept = t.kept; struck = t.struck; turned = t.turned }

-- l tries to finish, and then goes on to the stops 1 to n in order
abbrev pub treat_label : {S : Type 0} → Answers S → ℕ → Label S → List (Label S) → Table S → Option (Table S)
treat_label m places l others t = go_on_to m places l (range_with_len 1 m.stops) (take_up m l others t)

-- the order of the keys: the first state's key is at most the second's
abbrev pub by_key : {S : Type 0} → Answers S → S → S → Bool
by_key m s t = nat_le (m.key s) (m.key t)

-- of x and xs the earliest, on ties the first of them, and the others in their order; `before x y` says that x is no
-- later than y
abbrev pub first_of : {X : Type 0} → (X → X → Bool) → X → List X → X × List X
first_of before x [] = (x, [])
first_of before x (y ∷ ys) = cond (before x (first_of before y ys).0) (x, y ∷ ys) ((first_of before y ys).0, x ∷ (first_of before y ys).1)

-- of the waiting labels the earliest by its state, on ties that of least number, and the others
abbrev pub choose : {S : Type 0} → (S → S → Bool) → Label S → List (Label S) → Label S × List (Label S)
choose earlier x xs = first_of (λ a b. earlier a.state b.state) x xs

abbrev pub treat_of : {S : Type 0} → Answers S → (S → S → Bool) → ℕ → Table S → List (Label S) → Option (Table S)
treat_of m earlier places t [] = Some t
treat_of m earlier places t (x ∷ xs) = treat_label m places (choose earlier x xs).0 (choose earlier x xs).1 t

-- One turn: the label that is chosen among the waiting ones is treated; where none waits, nothing is done. None:
-- the places did not suffice.
abbrev pub treat : {S : Type 0} → Answers S → (S → S → Bool) → ℕ → Table S → Option (Table S)
treat m earlier places t = treat_of m earlier places t t.waiting

-- LABELLING

abbrev pub root : {S : Type 0} → Answers S → Label S
root m = record { number = 0; stop = 0; state = m.start; cost = pos 0; parent = None }

-- the root waits
abbrev pub begin : {S : Type 0} → Answers S → Table S
begin m = record { treated = []; waiting = root m ∷ []; best = None; kept = 1; struck = 0; turned = 0 }

-- so many turns
abbrev pub turns : {S : Type 0} → Answers S → (S → S → Bool) → ℕ → ℕ → Table S → Option (Table S)
turns m earlier places zero t = Some t
turns m earlier places (suc n) t = and_then (treat m earlier places t) (turns m earlier places n)

-- The table when no label waits any more, or None if the places did not suffice. Each turn treats one label, which
-- then stays; so as many turns as there are places are enough.
abbrev pub labelling : {S : Type 0} → Answers S → (S → S → Bool) → ℕ → Option (Table S)
labelling m earlier places = turns m earlier places places (begin m)

-- THE ROUTE OF A LABEL

-- the label with this number
abbrev pub find : {S : Type 0} → ℕ → List (Label S) → Option (Label S)
find n [] = None
find n (k ∷ ks) = cond (k.number == n) (Some k) (find n ks)

abbrev pub after_parent : {S : Type 0} → (Label S → List ℕ) → Label S → Option (Label S) → List ℕ
after_parent way l None = []
after_parent way l (Some q) = way q ++ l.stop ∷ []

-- The stops from the depot to l, read off the parents among ks. A parent's number is less than its child's, so the
-- number of l is enough of a measure.
abbrev pub way_to : {S : Type 0} → ℕ → List (Label S) → Label S → List ℕ
way_to zero ks l = []
way_to (suc f) ks l = after_parent (way_to f ks) l (and_then l.parent (λ p. find p ks))

-- a parent is always among the treated labels
abbrev pub route_to : {S : Type 0} → Table S → Label S → List ℕ
route_to t l = way_to l.number t.treated l
