-- A store of places, some blank, beside the lists of labels treated and waiting. Which place a label has is open.
use Rattle.std.specs.Prelude.{◌≡◌, ℕ, ◌+◌, ◌<◌, ◌≤◌, Bool, true, false, cond, ◌||◌, ◌⊎◌, List, length, Some, None, sum_by, Option, slice_index_or}
use Rattle.labelling.specs.Members.{In}
use Rattle.labelling.specs.Labelling.{Label}

-- How a place is read. What else a place holds, for speed say, plays no part here.
pub record Reading (C S : Type 0) : Type 0 where
  -- the label that stands there
  pub view : C → Label S
  pub is_treated : C → Bool
  pub is_waiting : C → Bool
  pub blank : C
  pub one_kind : (c : C) → is_waiting c ≡ true → is_treated c ≡ false
  pub blank_waits : is_waiting blank ≡ false
  pub blank_treated : is_treated blank ≡ false

abbrev pub is_live : {C S : Type 0} → Reading C S → C → Bool
is_live r c = r.is_treated c || r.is_waiting c

-- what a place counts for, if treated labels count by f, waiting ones by g, and blanks nothing
abbrev pub weigh : {C S : Type 0} → Reading C S → (Label S → ℕ) → (Label S → ℕ) → C → ℕ
weigh r f g c = cond (r.is_treated c) (f (r.view c)) (cond (r.is_waiting c) (g (r.view c)) 0)

-- The places hold just these labels: whatever is counted, the store gives the same as the two lists; and what a place
-- shows stands in its list.
pub record Stored {C S : Type 0} (r : Reading C S) (cells : List C) (ts ws : List (Label S)) : Type 0 where
  pub same : (f g : Label S → ℕ) → sum_by (weigh r f g) cells ≡ sum_by f ts + sum_by g ws
  pub treats : (i : ℕ) → i < length cells → r.is_treated (slice_index_or cells i r.blank) ≡ true → In (r.view (slice_index_or cells i r.blank)) ts
  pub waits : (i : ℕ) → i < length cells → r.is_waiting (slice_index_or cells i r.blank) ≡ true → In (r.view (slice_index_or cells i r.blank)) ws

-- a comes before b: its rank is less, or it is the same and the number is no greater
abbrev pub Precedes : {S : Type 0} → (Label S → ℕ) → Label S → Label S → Type 0
Precedes rank a b = (rank a < rank b) ⊎ ((rank a ≡ rank b) × (a.number ≤ b.number))

-- place i has the waiting label of least rank, on ties of least number
pub record First {C S : Type 0} (r : Reading C S) (rank : Label S → ℕ) (cells : List C) (i : ℕ) : Type 0 where
  pub within : i < length cells
  pub here : r.is_waiting (slice_index_or cells i r.blank) ≡ true
  pub before : (j : ℕ) → j < length cells → r.is_waiting (slice_index_or cells j r.blank) ≡ true → Precedes rank (r.view (slice_index_or cells i r.blank)) (r.view (slice_index_or cells j r.blank))

-- which place is next: none waits, or the first by rank and number
abbrev pub Picks : {C S : Type 0} → Reading C S → (Label S → ℕ) → List C → Option ℕ → Type 0
Picks r rank cells None = (i : ℕ) → i < length cells → r.is_waiting (slice_index_or cells i r.blank) ≡ false
Picks r rank cells (Some i) = First r rank cells i
