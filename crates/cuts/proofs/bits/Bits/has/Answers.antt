use Rattle.std.proofs.Common.{sym, ◌∙◌, arith}
use Rattle.std.proofs.lemmas.Bool.{le-ltb}
use Rattle.stops.proofs.Members.{none_past}
use Rattle.cuts.proofs.bits.Bits.has.Goals as goal

pub returns-else-cut-lt32 : goal.returns-else-cut-lt32
returns-else-cut-lt32 c =
    le-ltb _ _ c.if-cut-lt32.false ∙ sym (none_past 32 c.args.self.word c.args.cut (omega arith) c.if-cut-lt32.false)
