use Rattle.std.proofs.Common.{refl, rules}
use Rattle.output.proofs.Lent.{lent}
use Rattle.output.proofs.out.Out.print.Goals as goal

pub returns-clause-wrote : goal.returns-clause-wrote
returns-clause-wrote g c = lent _ _ _ c.printer.new.arg2 c.in_ok-self.field-0 c.if-self.false (search rules) refl refl refl
