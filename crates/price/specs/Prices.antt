-- What price answers, and what the row and the store hold then.
use Rattle.std.specs.Prelude.{◌≡◌, ℕ, ◌-◌, ◌<◌, List, ◌++◌, length, take, replicate, Some, None, Ok, Err, Option, Result, ◌≢◌, slice_index_or}
use Rattle.tier.specs.Answers.{Answers}
use Rattle.labelling.specs.Members.{In}
use Rattle.labelling.specs.Labelling.{Label, Table, by_key, labelling}
use Rattle.store.specs.Works.{Beside}
use Rattle.calls.specs.declared.refusal.PriceRefusal.{PriceRefusal}
use Rattle.calls.specs.Calls.{Counts, Answer, call_taken, call_refused, lowest, no_route, early_refusal, found, priced}
use Rattle.calls.specs.Refusals.{number}
use Rattle.price.specs.declared.answer.Lowest.{Lowest}
use Rattle.price.specs.declared.answer.Priced.{Priced}
use Rattle.price.specs.declared.label.Label.{Label as Cell}
use Rattle.price.specs.declared.label.Parent.{Parent}
use Rattle.price.specs.declared.label.Status.TheVariants.{Treated}
use Rattle.price.specs.declared.progress.Counts.{Counts as Counted}
use Rattle.price.specs.declared.progress.Progress.{Progress}
use Rattle.price.specs.Labels.{blank, writing}
use Rattle.price.specs.Progress.{work}

-- THE ANSWER

abbrev pub counts : Counted → Counts
counts c = record { kept = c.kept; struck = c.struck; turned = c.turned }

-- what is answered, by how its route is read
abbrev pub answer_of : {R : Type 0} → (R → List ℕ) → Option (Lowest R) → Counts → Answer
answer_of route None c = no_route c
answer_of route (Some b) c = lowest b.cost (route b.route) b.floor c

-- the route is what the first numbers of the row are then
abbrev pub told : Priced ℕ → List ℕ → Answer
told p row = answer_of (λ n. take n row) p.lowest (counts p.counts)

abbrev pub answered : Result (Priced ℕ) PriceRefusal → List ℕ → Answer
answered (Ok p) row = told p row
answered (Err e) row = call_refused (number e)

abbrev pub stops_of : Option (Lowest ℕ) → ℕ
stops_of None = 0
stops_of (Some b) = b.route

-- how many numbers of the row are the route
abbrev pub stops_told : Result (Priced ℕ) PriceRefusal → ℕ
stops_told (Ok p) = stops_of p.lowest
stops_told (Err e) = 0

abbrev pub stops_in : Answer → ℕ
stops_in call_taken = 0
stops_in (call_refused n) = 0
stops_in (lowest cost route floor counts) = length route
stops_in (no_route counts) = 0

-- THE ROW

-- the route, and zeros to the very end; zeros alone where there is no route; as it was where the price is refused
abbrev pub row_after : Answer → List ℕ → List ℕ
row_after call_taken row = row
row_after (call_refused n) row = row
row_after (lowest cost route floor counts) row = route ++ replicate (length row - length route) 0
row_after (no_route counts) row = replicate (length row) 0

-- THE STORE

-- a parent's place is that of the parent's number
abbrev pub parent_by : (ℕ → ℕ) → Option ℕ → Option Parent
parent_by place None = None
parent_by place (Some n) = Some (record { place = place n; number = n })

-- a treated label as it stands in the store
abbrev pub filed : {S : Type 0} → (ℕ → ℕ) → Label S → Cell S
filed place l = record { stop = l.stop; state = l.state; cost = l.cost; parent = parent_by place l.parent; number = l.number; status = Treated }

-- The store holds just these labels, each at a place of its own; which place is open.
pub record Filed {S : Type 0} (start : S) (labels : List (Label S)) (cells : List (Cell S)) : Type 0 where
  -- the place of the label with each number
  pub place : ℕ → ℕ
  pub inside : (l : Label S) → In l labels → place l.number < length cells
  -- no two labels share a place
  pub apart : (k l : Label S) → In k labels → In l labels → place k.number ≡ place l.number → k ≡ l
  -- each label stands there whole, with its parent's place
  pub shown : (l : Label S) → In l labels → slice_index_or cells (place l.number) (blank start) ≡ filed place l
  -- a label's parent is one of the labels too
  pub parents : (l : Label S) → In l labels → (n : ℕ) → l.parent ≡ Some n → (p : Label S) × In p labels × (p.number ≡ n)
  -- every other place is blank
  pub blank_else : (i : ℕ) → i < length cells → ((l : Label S) → In l labels → place l.number ≢ i) → slice_index_or cells i (blank start) ≡ blank start

-- Of a price: by the refusal before a label is made, if any, and what labelling comes to. Refused early, the store is
-- as it was; where the places did not suffice every place is blank; and where labelling ends the store holds the live
-- labels, which are then all treated.
abbrev pub StoreAfter : {S : Type 0} → Answers S → Option ℕ → Option (Table S) → List (Cell S) → List (Cell S) → Type 0
StoreAfter m (Some n) end before after = after ≡ before
StoreAfter m None None before after = after ≡ replicate (length before) (blank m.start)
StoreAfter m None (Some t) before after = Filed m.start t.treated after

-- A PRICE

-- What a price over m for so many vans gives: the store and the row before and after, and the result.
pub record IsPriced {S : Type 0} (m : Answers S) (vans : ℕ) (before after : List (Cell S)) (held left : List ℕ) (r : Result (Priced ℕ) PriceRefusal) : Type 0 where
  -- it answers as the definition of price does, with the route read off the row
  pub answer : answered r left ≡ priced m (by_key m) vans (length before) (length held)
  -- so many numbers of the row are the route
  pub stops : stops_told r ≡ stops_in (priced m (by_key m) vans (length before) (length held))
  -- what the row holds then
  pub row : left ≡ row_after (priced m (by_key m) vans (length before) (length held)) held
  -- what the store holds then
  pub store : StoreAfter m (early_refusal m vans (length before) (length held)) (labelling m (by_key m) (length before)) before after

-- STEPS OF A PRICE

-- labelling ended, and the store is beside its table; or the places did not suffice, and the store is blank
abbrev pub Labelled : {S : Type 0} → Answers S → ℕ → Option (Table S) → Result Progress PriceRefusal → List (Cell S) → Type 0
Labelled m places None (Ok p) cells = ⊥
Labelled m places None (Err e) cells = (number e ≡ 5) × (cells ≡ replicate places (blank m.start))
Labelled m places (Some t) (Ok p) cells = Beside (writing m.start) m places None (work cells p) t
Labelled m places (Some t) (Err e) cells = ⊥

-- labelling ended, and the store is beside its table
pub record ToldFrom {S : Type 0} (m : Answers S) (places : ℕ) (cells : List (Cell S)) (p : Progress) : Type 0 where
  pub table : Table S
  pub ends : labelling m (by_key m) places ≡ Some table
  pub beside : Beside (writing m.start) m places None (work cells p) table

-- what is told of the best of the table that labelling comes to, and what the row then holds
abbrev pub Tells : {S : Type 0} → Answers S → ℕ → ℕ → Priced ℕ → List ℕ → List ℕ → Type 0
Tells {S} m vans places p before after = (t : Table S) → labelling m (by_key m) places ≡ Some t → (told p after ≡ found m vans t t.best) × (stops_told (Ok p) ≡ stops_in (found m vans t t.best)) × (after ≡ row_after (found m vans t t.best) before)
