use Rattle.std.proofs.Common.{◌+◌, ◌^◌, ◌<◌, ◌≤◌, sym, ◌∙◌, arith, pow_mono}
use Rattle.std.proofs.lemmas.Bool.{le-leb, lt-ltb}
use Rattle.stops.proofs.Members.{shifted_out}
use Rattle.stops.proofs.StopSet.none_past.Goals as goal

pub returns-then-last-ge63 : goal.returns-then-last-ge63
returns-then-last-ge63 c =
    let w = c.args.self.word in
    let n = c.args.last in
    let long : 64 ≤ n + 1 = omega (arith, c.if-last-ge63.true) in
    let wide = pow_mono long in
    let fits : w < 2 ^ (n + 1) = omega arith in
    le-leb 63 n c.if-last-ge63.true ∙ sym (lt-ltb _ _ fits)

pub returns-else-last-ge63 : goal.returns-else-last-ge63
returns-else-last-ge63 c = shifted_out c.args.self.word (c.args.last + 1)
