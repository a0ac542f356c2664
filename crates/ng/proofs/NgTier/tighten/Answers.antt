use Rattle.std.proofs.Common.{rules, ◌<◌, ◌≤◌, arith}
use Rattle.tier.specs.Meaning.{here}
use Rattle.ng.proofs.NgTier.tighten.Given as given
use Rattle.ng.proofs.NgTier.tighten.Goals as goal
use Rattle.ng.proofs.NgTier.tighten.Goals.{Else-amount-ne0}

-- the index is a stop of the tier below, which has at most 60
index_small : (g : given.Over) (c : Else-amount-ne0 g) → c.args.index < 61
index_small g c =
    let t = c.args.self.now.below in
    let few = (g.met.B.Tier.lawful t (g.B.Tier.value t) here).sizes.few_stops in
    let stops = c.stops-stops.ensures in
    let within : c.args.index ≤ c.stops-stops.result = search rules in
    omega arith

pub offset_bounds-self-index : goal.offset_bounds-self-index
offset_bounds-self-index g c = omega (arith, index_small g (goal.at.offset_bounds-self-index g c).Else-amount-ne0)

pub bounds-self-index : goal.bounds-self-index
bounds-self-index g c = index_small g (goal.at.bounds-self-index g c).Else-amount-ne0

pub neighbours-requires : goal.neighbours-requires
neighbours-requires g c = index_small g (goal.at.neighbours-requires g c).Else-amount-ne0
