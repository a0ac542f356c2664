use Rattle.output.specs.contracts.out.fn.Out.bytes.print as closure
use Rattle.output.proofs.out.Out.bytes.Given as goal

abbrev pub ghost-print : goal.ghost-print
ghost-print a = (closure.captures a.printer).bytes.now
