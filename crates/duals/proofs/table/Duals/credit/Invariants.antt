use Rattle.std.proofs.Common.{◌≡◌}
use Rattle.duals.specs.Duals.{sum_of_duals}
use Rattle.duals.proofs.table.Duals.credit.Given as goal

abbrev pub invariant-loop-dual : goal.invariant-loop-dual
invariant-loop-dual l = l.sum ≡ sum_of_duals l.self.amounts l.dual-index
