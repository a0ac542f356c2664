use Rattle.store.specs.Works.{falls}
use Rattle.price.specs.Labels.{blank, writing}
use Rattle.price.proofs.Maps.{Blanking}
use Rattle.price.proofs.places.strike.Given as goal

abbrev pub invariant-loop-label : goal.invariant-loop-label
invariant-loop-label g l =
    let m = g.T.Tier.meaning.answers (g.T.Tier.value l.tier) in
    Blanking (falls (writing m.start) m l.offered) (blank m.start) l.initial.label-items l.label-items l.count l.label-index
