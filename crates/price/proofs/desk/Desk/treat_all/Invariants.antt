use Rattle.std.proofs.Common.{◌-◌, length}
use Rattle.price.proofs.Along.{treated_in, Under_way}
use Rattle.price.proofs.desk.Desk.treat_all.Given as goal

abbrev pub invariant-loop-place : goal.invariant-loop-place
invariant-loop-place g l = Under_way l.initial.self l.self

abbrev pub decreases-loop-place : goal.decreases-loop-place
decreases-loop-place g l = length l.self.store.now - treated_in l.self.store.now
