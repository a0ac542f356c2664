-- Labelling on a store of places: the steps of labelling as list functions of the store.
use Rattle.std.specs.Prelude.{◌≡◌, ℕ, zero, suc, ◌+◌, ◌<◌, Bool, true, false, cond, ◌&&◌, List, [], ◌∷◌, ◌++◌, map, length, replicate, ℤ, ◌+ℤ◌, Some, None, count_by, Option, ◌==◌, int_lt, slice_index_or, slice_set}
use Rattle.std.specs.List.{range_with_len}
use Rattle.tier.specs.Answers.{Answers}
use Rattle.tier.specs.Routes.{and_then}
use Rattle.labelling.specs.Members.{In}
use Rattle.labelling.specs.Labelling.{Label, Finished, Table, covers, any, child, by_key, root, begin, treat, way_to}
use Rattle.labelling.specs.Moments.{Passed}
use Rattle.store.specs.Places.{Reading, is_live, Stored, First, Picks}

-- How places are written: a waiting label with its parent's place, and the mark of a treated one.
pub record Writing (C S : Type 0) : Type 0 where
  pub reading : Reading C S
  -- of the parent's place and the label
  pub fresh : ℕ → Label S → C
  pub fresh_view : (i : ℕ) (l : Label S) → reading.view (fresh i l) ≡ l
  pub fresh_waits : (i : ℕ) (l : Label S) → reading.is_waiting (fresh i l) ≡ true
  -- the parent's place; it says nothing where the label has no parent
  pub up : C → ℕ
  pub fresh_up : (i : ℕ) (l : Label S) (n : ℕ) → l.parent ≡ Some n → up (fresh i l) ≡ i
  pub mark : C → C
  pub mark_up : (c : C) → up (mark c) ≡ up c
  pub mark_view : (c : C) → reading.view (mark c) ≡ reading.view c
  pub mark_treated : (c : C) → reading.is_treated (mark c) ≡ true

-- the store, the best total so far with the place of its last label, and the counts
pub record Work (C : Type 0) : Type 0 where
  pub cells : List C
  pub best : Option (ℤ × ℕ)
  pub kept : ℕ
  pub struck : ℕ
  pub turned : ℕ

module _ {C S : Type 0} (k : Writing C S) (m : Answers S) where
  -- AN OFFER

  -- the first blank place; i is the place of the list's first element
  abbrev pub first_blank : ℕ → List C → Option ℕ
  first_blank i [] = None
  first_blank i (c ∷ cs) = cond (is_live k.reading c) (first_blank (i + 1) cs) (Some i)

  -- some live label covers that of c
  abbrev pub covered_at : C → List C → Bool
  covered_at c cells = any (λ b. is_live k.reading b && covers m (k.reading.view b) (k.reading.view c)) cells

  -- b waits, and the label of c covers it
  abbrev pub falls : C → C → Bool
  falls c b = k.reading.is_waiting b && covers m (k.reading.view c) (k.reading.view b)

  abbrev pub strike_at : C → List C → List C
  strike_at c cells = map (λ b. cond (falls c b) k.reading.blank b) cells

  abbrev pub turn_away_at : Work C → Work C
  turn_away_at s = record { cells = s.cells; best = s.best; kept = s.kept; struck = s.struck; turned = s.turned + 1 }

  -- c is put at the blank place, if there is one
  abbrev pub keep_at : C → Work C → Option ℕ → Option (Work C)
  keep_at c s None = None
  keep_at c s (Some i) = Some (record { cells = slice_set (strike_at c s.cells) i c; best = s.best; kept = s.kept + 1; struck = s.struck + count_by (falls c) s.cells; turned = s.turned })

  abbrev pub offer_at : C → Work C → Option (Work C)
  offer_at c s = cond (covered_at c s.cells) (Some (turn_away_at s)) (keep_at c s (first_blank 0 (strike_at c s.cells)))

  abbrev pub offer_reached_at : ℕ → Label S → ℕ → Work C → Option (S × ℤ) → Option (Work C)
  offer_reached_at i p j s None = Some s
  offer_reached_at i p j s (Some a) = offer_at (k.fresh i (child s.kept p j a)) s

  -- the label p at place i goes on to j
  abbrev pub go_on_at : ℕ → Label S → ℕ → Work C → Option (Work C)
  go_on_at i p j s = offer_reached_at i p j s (m.reach p.state p.stop j)

  abbrev pub go_on_to_at : ℕ → Label S → List ℕ → Work C → Option (Work C)
  go_on_to_at i p [] s = Some s
  go_on_to_at i p (j ∷ js) s = and_then (go_on_at i p j s) (go_on_to_at i p js)

  -- A TURN

  abbrev pub lower_at : ℤ → ℕ → Option (ℤ × ℕ) → Option (ℤ × ℕ)
  lower_at z i None = Some (z, i)
  lower_at z i (Some b) = cond (int_lt z b.0) (Some (z, i)) (Some b)

  abbrev pub finish_for_at : ℕ → Label S → Option (ℤ × ℕ) → Option ℤ → Option (ℤ × ℕ)
  finish_for_at i p best None = best
  finish_for_at i p best (Some y) = lower_at (p.cost +ℤ y) i best

  abbrev pub try_finish_at : ℕ → Label S → Option (ℤ × ℕ) → Option (ℤ × ℕ)
  try_finish_at i p best = cond (p.stop == 0) best (finish_for_at i p best (m.finish p.state p.stop))

  -- the label at place i
  abbrev pub label_at : List C → ℕ → Label S
  label_at cells i = k.reading.view (slice_index_or cells i k.reading.blank)

  -- the label at place i is treated from now on, and has tried to finish
  abbrev pub take_up_at : ℕ → Work C → Work C
  take_up_at i s = record { cells = slice_set s.cells i (k.mark (slice_index_or s.cells i k.reading.blank)); best = try_finish_at i (label_at s.cells i) s.best; kept = s.kept; struck = s.struck; turned = s.turned }

  abbrev pub treat_at : ℕ → Work C → Option (Work C)
  treat_at i s = go_on_to_at i (label_at s.cells i) (range_with_len 1 m.stops) (take_up_at i s)

  -- the root waits at the first place, and the others are blank
  abbrev pub begin_at : ℕ → Work C
  begin_at places = record { cells = slice_set (replicate places k.reading.blank) 0 (k.fresh 0 (root m)); best = None; kept = 1; struck = 0; turned = 0 }

  -- THE STORE BESIDE THE DEFINITION

  -- place i holds the treated label l
  pub record Holds (cells : List C) (i : ℕ) (l : Label S) : Type 0 where
    pub within : i < length cells
    pub treated : k.reading.is_treated (slice_index_or cells i k.reading.blank) ≡ true
    pub is : label_at cells i ≡ l

  -- the best total is the same, and the place is that of its last label
  abbrev pub BestAt : List C → Option (ℤ × ℕ) → Option (Finished S) → Type 0
  BestAt cells None None = Unit {0}
  BestAt cells None (Some f) = ⊥
  BestAt cells (Some b) None = ⊥
  BestAt cells (Some b) (Some f) = (b.0 ≡ f.total) × Holds cells b.1 f.last

  -- the label that is being treated, with its place
  abbrev pub Hand : List C → Option (ℕ × Label S) → Type 0
  Hand cells None = Unit {0}
  Hand cells (Some a) = Holds cells a.0 a.1

  -- the parent's place holds a treated label with the parent's number
  abbrev pub Linked : List C → Type 0
  Linked cells = (j : ℕ) → j < length cells → is_live k.reading (slice_index_or cells j k.reading.blank) ≡ true → (n : ℕ) → (label_at cells j).parent ≡ Some n → (q : Label S) × Holds cells (k.up (slice_index_or cells j k.reading.blank)) q × (q.number ≡ n)

  -- a place without a live label is blank
  abbrev pub Clean : List C → Type 0
  Clean cells = (i : ℕ) → i < length cells → is_live k.reading (slice_index_or cells i k.reading.blank) ≡ false → slice_index_or cells i k.reading.blank ≡ k.reading.blank

  pub record Beside (places : ℕ) (hand : Option (ℕ × Label S)) (s : Work C) (t : Table S) : Type 0 where
    pub long : length s.cells ≡ places
    pub stored : Stored k.reading s.cells t.treated t.waiting
    pub best : BestAt s.cells s.best t.best
    pub held : Hand s.cells hand
    pub linked : Linked s.cells
    pub clean : Clean s.cells
    pub kept : s.kept ≡ t.kept
    pub struck : s.struck ≡ t.struck
    pub turned : s.turned ≡ t.turned

  -- the places did not suffice in both, or in neither
  abbrev pub Matches : ℕ → Option (ℕ × Label S) → Option (Work C) → Option (Table S) → Type 0
  Matches places hand None None = Unit {0}
  Matches places hand None (Some t) = ⊥
  Matches places hand (Some s) None = ⊥
  Matches places hand (Some s) (Some t) = Beside places hand s t

  -- THE ROUTE

  abbrev pub after_parent_at : (ℕ → List ℕ) → C → Option ℕ → List ℕ
  after_parent_at way c None = []
  after_parent_at way c (Some n) = way (k.up c) ++ (k.reading.view c).stop ∷ []

  -- the stops from the depot to the label at place i, read off the parents' places
  abbrev pub way_at : ℕ → List C → ℕ → List ℕ
  way_at zero cells i = []
  way_at (suc f) cells i = after_parent_at (way_at f cells) (slice_index_or cells i k.reading.blank) (label_at cells i).parent

  -- WHAT IS PROVED

  pub record Alike (places : ℕ) : Type 0 where
    -- the root's store beside the root's table
    pub begins : 0 < places → Beside places None (begin_at places) (begin m)
    -- a turn on the store beside a turn of the definition, by any choice of the place that is the first
    pub turn : (s : Work C) (t : Table S) (i : ℕ) → Passed m (by_key m) places t → Beside places None s t → First k.reading (λ l. m.key l.state) s.cells i → Matches places None (treat_at i s) (treat m (by_key m) places t)
    -- none waits in the store: none waits in the definition
    pub done : (s : Work C) (t : Table S) → Passed m (by_key m) places t → Beside places None s t → Picks k.reading (λ l. m.key l.state) s.cells None → t.waiting ≡ []
    -- each treated label has a place
    pub placed : (s : Work C) (t : Table S) → Passed m (by_key m) places t → Beside places None s t → (l : Label S) → In l t.treated → (i : ℕ) × Holds s.cells i l
    -- and no other
    pub alone : (s : Work C) (t : Table S) → Passed m (by_key m) places t → Beside places None s t → (l : Label S) (i j : ℕ) → Holds s.cells i l → Holds s.cells j l → i ≡ j
    -- the route read off the places is the definition's
    pub routes : (s : Work C) (t : Table S) → Passed m (by_key m) places t → Beside places None s t → (f i : ℕ) (l : Label S) → Holds s.cells i l → way_at f s.cells i ≡ way_to f t.treated l

-- whatever the answers
abbrev pub WorksAlike : Type 0 → Type 0 → Type 0
WorksAlike C S = (k : Writing C S) (m : Answers S) (places : ℕ) → Alike k m places
