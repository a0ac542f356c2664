use Rattle.std.proofs.Common.{decimal}
use Rattle.output.specs.contracts.out.fn.Out.number.print as closure
use Rattle.output.proofs.out.Out.number.Given as goal

abbrev pub ghost-print : goal.ghost-print
ghost-print a = decimal (closure.captures a.printer).n
