-- Three visits over Round, ng and cuts: one cut at all three stops, and every stop in every neighbourhood. Costs that
-- are compared without the gap of the cut's bit lose the cheapest route.
use Rattle.std.specs.Prelude.{ℕ, false, [], ◌∷◌, pos, Some, None, Option, slice_set}
use Rattle.stops.specs.Stops.{just, joined}
use Rattle.tier.specs.Answers.{Answers}
use Rattle.book.specs.Books.{Contents, opened, with_visit, with_leg}
use Rattle.book.specs.declared.parts.Leg.{Leg}
use Rattle.book.specs.declared.parts.Visit.{Visit}
use Rattle.duals.specs.Duals.{zero_duals}
use Rattle.duals.specs.Bottoms.{bottom_at}
use Rattle.round.specs.Round.{round}
use Rattle.round.specs.declared.state.RoundState.{RoundState}
use Rattle.layer.specs.Layers.{layer_at}
use Rattle.ng.specs.Ng.{ng, first_near, wider_at}
use Rattle.ng.specs.declared.NgState.{NgState}
use Rattle.cuts.specs.Layer.{cuts}
use Rattle.cuts.specs.Tables.{new_cut}
use Rattle.cuts.specs.declared.cuts_layer.CutsState.{CutsState}
use Rattle.labelling.specs.Labelling.{by_key}
use Rattle.calls.specs.Calls.{Answer, priced}

abbrev open_to : ℕ → Visit
open_to closes = record { opens = 0; closes = closes; load = 0; charger = false }

-- every leg takes a minute
abbrev costs : ℕ → Leg
costs cost = record { cost = cost; minutes = 1 }

-- the legs from place i to the three others in order
abbrev legs_from : ℕ → ℕ → ℕ → ℕ → ℕ → ℕ → ℕ → Contents → Contents
legs_from i a x b y c z book = with_leg (with_leg (with_leg book i a (costs x)) i b (costs y)) i c (costs z)

abbrev book : Contents
book =
    legs_from 0 1 3 2 4 3 1 (legs_from 1 0 3 2 0 3 5 (legs_from 2 0 3 1 2 3 4 (legs_from 3 0 3 1 0 2 2
    (with_visit (with_visit (with_visit (opened 3 (record { vans = 1; capacity = 99; battery = 40; most = 4 }))
    1 (open_to 4)) 2 (open_to 7)) 3 (open_to 8)))))

-- all three stops
abbrev all : ℕ
all = joined (joined (just 1) (just 2)) (just 3)

-- at the duals 6, 4 and 0, with a penalty of 3
abbrev pile : Answers (CutsState (NgState RoundState))
pile =
    (cuts (ng round)).answers
    (layer_at (layer_at (bottom_at book (slice_set (slice_set zero_duals 1 (pos 6)) 2 (pos 4))) (wider_at (wider_at (wider_at first_near 1 all) 2 all) 3 all)) (new_cut all (pos 3) ∷ []))

-- a gap that is there, taken as 0
abbrev flat : Option ℕ → Option ℕ
flat None = None
flat (Some g) = Some 0

-- the same pile, as if costs were compared without the gap
abbrev pile_without : Answers (CutsState (NgState RoundState))
pile_without = record {
  stops = pile.stops;
  tiers = pile.tiers;
  start = pile.start;
  key = pile.key;
  reach = pile.reach;
  finish = pile.finish;
  gap = λ a b. flat (pile.gap a b);
  credit = pile.credit;
}

-- a price for one van in twenty places
abbrev pub price_cut : Answer
price_cut = priced pile (by_key pile) 1 20 1440

abbrev pub price_cut_without : Answer
price_cut_without = priced pile_without (by_key pile_without) 1 20 1440
