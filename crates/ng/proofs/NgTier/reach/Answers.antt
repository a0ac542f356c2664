use Rattle.std.proofs.Common.{◌<◌, sym, ◌∙◌, arith}
use Rattle.tier.specs.Meaning.{here}
use Rattle.ng.proofs.NgTier.reach.Given as given
use Rattle.ng.proofs.NgTier.reach.Goals as goal
use Rattle.ng.proofs.NgTier.reach.Goals.{In_ok-below}

-- the tier below reaches only its stops, and from its places, of which there are at most 61
places : (g : given.Over) (c : In_ok-below g) → (c.args.from < 61) × (c.args.to < 61)
places g c =
    let t = c.args.self.now.below in
    let laws = g.met.B.Tier.lawful t (g.B.Tier.value t) here in
    let few = laws.sizes.few_stops in
    let leg = laws.interface.reach_is_leg _ _ _ _ _ (sym c.reach.ensures ∙ c.in_ok-below.was) in
    let from = leg.from in
    let to = leg.to in
    (omega arith, omega arith)

pub neighbours-requires : goal.neighbours-requires
neighbours-requires g c = let p = places g (goal.at.neighbours-requires g c).In_ok-below in omega arith

pub remembered-memory-requires : goal.remembered-memory-requires
remembered-memory-requires g c = let p = places g (goal.at.remembered-memory-requires g c).In_ok-below in omega arith
