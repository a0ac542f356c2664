use Rattle.price.proofs.Steps.{Going}
use Rattle.price.proofs.desk.Desk.go_on_to_all.Given as goal

abbrev pub invariant-loop-stop : goal.invariant-loop-stop
invariant-loop-stop g l = Going l.initial.self l.label l.place l.self l.stop
