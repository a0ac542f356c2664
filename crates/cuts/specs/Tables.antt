-- What a table of cuts keeps, and what set and tighten make of it.
use Rattle.std.specs.Prelude.{◌≡◌, ℕ, ◌<◌, ◌≤◌, Bool, true, cond, ◌&&◌, List, [], ◌∷◌, ◌++◌, length, ℤ, pos, ◌==◌, int_le, nat_le, nat_lt, slice_set, unsigned_abs}
use Rattle.stops.specs.Stops.{most_member, member, joined, within, all_stops, count_to}
use Rattle.tier.specs.Meaning.{Outcome, taken, refused}
use Rattle.tier.specs.Refusals.{number}
use Rattle.tier.specs.declared.refusal.Refusal.TheVariants.{NoSuchIndex, BadAmount, BadMembers, TableFull}
use Rattle.cuts.specs.declared.cut.Cut.{Cut}
use Rattle.cuts.specs.Cuts.{most_cuts, most_penalty, cut_at}

-- three of the stops 1 to n, and no other member
abbrev pub three_stops : ℕ → ℕ → Bool
three_stops n members = all_stops n members && count_to (member members) n == 3

-- WHAT A TABLE KEEPS

-- each of the first `count` cuts has three different stops
abbrev pub ThreeStops : ℕ → List Cut → Type 0
ThreeStops count cs = (k : ℕ) → k < count → three_stops most_member (cut_at cs k).stops.word ≡ true

-- no cut has more than three stops
abbrev pub FewStops : List Cut → Type 0
FewStops cs = (k n : ℕ) → count_to (member (cut_at cs k).stops.word) n ≤ 3

-- no penalty is over its limit
abbrev pub Cheap : List Cut → Type 0
Cheap cs = (k : ℕ) → (cut_at cs k).penalty ≤ most_penalty

-- every cut remembers its own stops
abbrev pub KeptAtStops : List Cut → Type 0
KeptAtStops cs = (k : ℕ) → within (cut_at cs k).stops.word (cut_at cs k).memory.word ≡ true

-- what the laws rest on, whatever the number of stops
pub record Good (n : ℕ) (cs : List Cut) : Type 0 where
  pub few : length cs ≤ most_cuts
  pub sparse : FewStops cs
  pub cheap : Cheap cs
  pub kept : KeptAtStops cs

-- SET AND TIGHTEN

-- 0 to 2 ^ 30
abbrev pub in_range : ℤ → Bool
in_range amount = int_le (pos 0) amount && nat_le (unsigned_abs amount) most_penalty

-- the cut with this penalty
abbrev pub reprice : Cut → ℤ → Cut
reprice c amount = record { stops = c.stops; memory = c.memory; penalty = unsigned_abs amount }

-- set puts the penalty of cut `index` at the amount. It refuses, in this order, an index that is no cut, and an
-- amount out of range.
abbrev pub set_penalty : List Cut → ℕ → ℤ → Outcome (List Cut)
set_penalty cs index amount =
    cond (nat_lt index (length cs))
    (cond (in_range amount) (taken (slice_set cs index (reprice (cut_at cs index) amount)))
    (refused (number BadAmount)))
    (refused (number NoSuchIndex))

-- the cut with these members in its memory too
abbrev pub remember : Cut → ℕ → Cut
remember c members = record { stops = c.stops; memory = record { word = joined c.memory.word members }; penalty = c.penalty }

-- An old cut remembers more. Refused are, in this order, a member that is no stop, and an amount that is not 0.
abbrev pub tighten_old : ℕ → List Cut → ℕ → ℕ → ℤ → Outcome (List Cut)
tighten_old n cs index members amount =
    cond (all_stops n members)
    (cond (unsigned_abs amount == 0) (taken (slice_set cs index (remember (cut_at cs index) members)))
    (refused (number BadAmount)))
    (refused (number BadMembers))

-- a cut at these stops, which remembers just them
abbrev pub new_cut : ℕ → ℤ → Cut
new_cut members amount = record { stops = record { word = members }; memory = record { word = members }; penalty = unsigned_abs amount }

-- A new cut comes after the others. Refused are, in this order, a cut more than there can be, members that are
-- not three stops, and an amount out of range.
abbrev pub tighten_new : ℕ → List Cut → ℕ → ℤ → Outcome (List Cut)
tighten_new n cs members amount =
    cond (nat_lt (length cs) most_cuts)
    (cond (three_stops n members)
    (cond (in_range amount) (taken (cs ++ new_cut members amount ∷ []))
    (refused (number BadAmount)))
    (refused (number BadMembers)))
    (refused (number TableFull))

-- over n stops; an index past the next new cut is refused first
abbrev pub tighten_cut : ℕ → List Cut → ℕ → ℕ → ℤ → Outcome (List Cut)
tighten_cut n cs index members amount =
    cond (nat_lt index (length cs)) (tighten_old n cs index members amount)
    (cond (index == length cs) (tighten_new n cs members amount)
    (refused (number NoSuchIndex)))
