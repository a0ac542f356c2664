use Rattle.std.proofs.Common.{sym, ◌∙◌, arith}
use Rattle.std.proofs.lemmas.Bool.{le-ltb}
use Rattle.stops.proofs.Members.{none_past}
use Rattle.stops.proofs.StopSet.has.Goals as goal

pub returns-else-stop-lt64 : goal.returns-else-stop-lt64
returns-else-stop-lt64 c =
    le-ltb _ _ c.if-stop-lt64.false ∙ sym (none_past 64 c.args.self.word c.args.stop (omega arith) c.if-stop-lt64.false)
