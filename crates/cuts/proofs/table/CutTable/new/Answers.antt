use Rattle.std.proofs.Common.{sym, subst}
use Rattle.cuts.proofs.Kept.{KeptTable, kept_none}
use Rattle.cuts.proofs.table.CutTable.new.Goals as goal

pub invariant_of-result : goal.invariant_of-result
invariant_of-result c =
    let k = subst KeptTable (sym c.new.ensures) kept_none in
    record { few = k.few; three = k.three; sparse = k.sparse; cheap = k.cheap; kept = k.kept }
