-- The code's labels, read as those of the definition.
use Rattle.std.specs.Prelude.{◌≡◌, ℕ, Bool, true, false, ◌||◌, pos, Some, None, Option, refl}
use Rattle.std.proofs.Common.{sym, ap, arith}
use Rattle.labelling.specs.Labelling.{Label}
use Rattle.store.specs.Places.{Reading}
use Rattle.store.specs.Works.{Writing}
use Rattle.price.specs.declared.label.Label.{Label as Cell}
use Rattle.price.specs.declared.label.Parent.{Parent}
use Rattle.price.specs.declared.label.Status.{Status}
use Rattle.price.specs.declared.label.Status.TheVariants.{Blank, Waiting, Treated}

abbrev pub is_waiting : Status → Bool
is_waiting Blank = false
is_waiting Waiting = true
is_waiting Treated = false

abbrev pub is_treated : Status → Bool
is_treated Blank = false
is_treated Waiting = false
is_treated Treated = true

-- a label is here
abbrev pub is_live : Status → Bool
is_live s = is_treated s || is_waiting s

-- what a place holds that has no label, by the state at the depot
abbrev pub blank : {S : Type 0} → S → Cell S
blank start = record { stop = 0; state = start; cost = pos 0; parent = None; number = 0; status = Blank }

-- the number of the parent
abbrev pub parent_number : Option Parent → Option ℕ
parent_number None = None
parent_number (Some p) = Some p.number

-- the place of the parent; 0 where there is none
abbrev pub parent_place : Option Parent → ℕ
parent_place None = 0
parent_place (Some p) = p.place

-- a place with the parent's number
abbrev pub parent_at : ℕ → Option ℕ → Option Parent
parent_at i None = None
parent_at i (Some n) = Some (record { place = i; number = n })

-- the label that stands here
abbrev pub view : {S : Type 0} → Cell S → Label S
view c = record { number = c.number; stop = c.stop; state = c.state; cost = c.cost; parent = parent_number c.parent }

-- l as it waits, with its parent at place i
abbrev pub waiting : {S : Type 0} → ℕ → Label S → Cell S
waiting i l = record { stop = l.stop; state = l.state; cost = l.cost; parent = parent_at i l.parent; number = l.number; status = Waiting }

-- the same, treated
abbrev pub marked : {S : Type 0} → Cell S → Cell S
marked c = record { stop = c.stop; state = c.state; cost = c.cost; parent = c.parent; number = c.number; status = Treated }

-- the root, by the state at the depot
abbrev pub root : {S : Type 0} → S → Label S
root start = record { number = 0; stop = 0; state = start; cost = pos 0; parent = None }

pub one_kind : (s : Status) → is_waiting s ≡ true → is_treated s ≡ false
one_kind Blank e = refl
one_kind Waiting e = refl
one_kind Treated e = sym e

pub placed : (i : ℕ) (o : Option ℕ) → parent_number (parent_at i o) ≡ o
placed i None = refl
placed i (Some n) = refl

pub place_is : (i n : ℕ) (o : Option ℕ) → o ≡ Some n → parent_place (parent_at i o) ≡ i
place_is i n None e = let z : ◌≡◌ {A = ℕ} 0 1 = cc in absurd (omega arith)
place_is i n (Some k) e = refl

abbrev pub reading : {S : Type 0} → S → Reading (Cell S) S
reading start = record {
  view = view;
  is_treated = λ c. is_treated c.status;
  is_waiting = λ c. is_waiting c.status;
  blank = blank start;
  one_kind = λ c e. one_kind c.status e;
  blank_waits = refl;
  blank_treated = refl;
}

abbrev pub writing : {S : Type 0} → S → Writing (Cell S) S
writing start = record {
  reading = reading start;
  fresh = waiting;
  fresh_view = λ i l. ap (λ o. record { number = l.number; stop = l.stop; state = l.state; cost = l.cost; parent = o }) (placed i l.parent);
  fresh_waits = λ i l. refl;
  up = λ c. parent_place c.parent;
  fresh_up = λ i l n e. place_is i n l.parent e;
  mark = marked;
  mark_up = λ c. refl;
  mark_view = λ c. refl;
  mark_treated = λ c. refl;
}
