-- The ng-route relaxation, as a layer over any tier: a route may come back to a stop once it is forgotten.
use Rattle.std.specs.Prelude.{ℕ, zero, suc, cond, ◌&&◌, List, [], ◌∷◌, ◌++◌, ℤ, Some, None, ◌==◌, nat_le, slice_index_or, slice_set, unsigned_abs, refl}
use Rattle.stops.specs.Stops.{most_places, member, empty_set, just, common, joined, within, all_stops}
use Rattle.stops.specs.declared.StopSet.{StopSet}
use Rattle.tier.specs.Meaning.{Meaning, Outcome, taken, refused}
use Rattle.tier.specs.Refusals.{number}
use Rattle.tier.specs.declared.refusal.Refusal.TheVariants.{NotAtThisTier, NoSuchIndex, BadAmount, BadMembers}
use Rattle.layer.specs.Owns.{Own}
use Rattle.layer.specs.Layers.{Pairing, Kind, layer}
use Rattle.ng.specs.declared.NgState.{NgState}

-- NEIGHBOURHOODS

abbrev pub set_of : ℕ → StopSet
set_of word = record { word = word }

-- a table of 61 places, in which the neighbourhood of stop j stands at j
abbrev pub near_of : List StopSet → ℕ → ℕ
near_of near j = (slice_index_or near j (set_of empty_set)).word

-- of the places below n, each alone
abbrev pub alone_to : ℕ → List StopSet
alone_to zero = []
alone_to (suc n) = alone_to n ++ set_of (just n) ∷ []

-- at first every stop has only itself for a neighbour
abbrev pub first_near : List StopSet
first_near = alone_to most_places

-- MEMORIES

-- what is remembered on reaching j: of what was remembered the neighbours of j, and j
abbrev pub recall : ℕ → ℕ → ℕ → ℕ
recall near j memory = joined (common memory near) (just j)

-- A state remembers stops, at first none, and cannot reach a stop that it remembers. The gap is 0 if a's
-- memory is a subset of b's, else absent. Nothing is charged.
abbrev pub ng_own : List StopSet → Own ℕ
ng_own near = record {
  first = empty_set;
  step = λ j memory. cond (member memory j) None (Some (recall (near_of near j) j memory, 0));
  behind = λ a b. cond (within a b) (Some 0) None;
  penalties = 0;
}

-- CALLS

-- the neighbourhood of stop `index` with the set
abbrev pub wider_at : List StopSet → ℕ → ℕ → List StopSet
wider_at near index stops = slice_set near index (set_of (joined (near_of near index) stops))

-- A tighten adds a set to the neighbourhood of stop `index`, 1 to n. It refuses, in this order, an index that is no
-- stop, a set with a member that is no stop, and an amount other than 0.
abbrev pub ng_tighten : ℕ → List StopSet → ℕ → ℕ → ℤ → Outcome (List StopSet)
ng_tighten n near index stops amount =
    cond (nat_le 1 index && nat_le index n)
    (cond (all_stops n stops)
    (cond (unsigned_abs amount == 0) (taken (wider_at near index stops))
    (refused (number BadAmount)))
    (refused (number BadMembers)))
    (refused (number NoSuchIndex))

-- there is nothing to set
abbrev pub ng_kind : Kind (List StopSet) ℕ
ng_kind = record {
  own_of = ng_own;
  own_set = λ n near index amount. refused (number NotAtThisTier);
  own_tighten = ng_tighten;
}

-- THE LAYER

-- a state below with a memory
abbrev pub ng_pairing : {S : Type 0} → Pairing S ℕ (NgState S)
ng_pairing = record {
  join = λ s memory. record { below = s; memory = set_of memory };
  below = λ t. t.below;
  own = λ t. t.memory.word;
  below_join = λ s memory. refl;
  own_join = λ s memory. refl;
  join_parts = λ t. refl;
}

abbrev pub ng : {S : Type 0} → Meaning S → Meaning (NgState S)
ng d = layer ng_pairing ng_kind d
