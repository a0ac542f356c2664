use Rattle.price.proofs.Ways.{Written}
use Rattle.price.proofs.rows.write_back.Given as goal

abbrev pub invariant-loop-label : goal.invariant-loop-label
invariant-loop-label g l = Written l.store l.last l.initial.row l.label l.stops l.row

abbrev pub decreases-loop-label : goal.decreases-loop-label
decreases-loop-label g l = l.label.number
