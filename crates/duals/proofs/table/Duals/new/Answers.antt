use Rattle.std.proofs.Common.{◌^◌, ◌≤◌, pos, nat_abs, arith, rules}
use Rattle.stops.proofs.Lists.{each_copy}
use Rattle.duals.proofs.table.Duals.new.Goals as goal

pub invariant_of-result : goal.invariant_of-result
invariant_of-result c = record {
  few = search rules;
  ranged = each_copy (λ z. nat_abs z ≤ 2 ^ 30) (pos 0) 61 (pos 0) (omega arith) (omega arith);
}
