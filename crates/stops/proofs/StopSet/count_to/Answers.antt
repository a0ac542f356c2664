use Rattle.std.proofs.Common.{rules, ◌+◌, ◌∙◌, arith}
use Rattle.std.specs.List.{range_with_len}
use Rattle.std.proofs.lemmas.Iterator.{YieldsList-from_range}
use Rattle.std.proofs.lemmas.Iterator.Consumers.{YieldsList-from_filter, YieldsList-at, count_from_yields_List}
use Rattle.std.proofs.lemmas.List.Sums.{length-filter}
use Rattle.stops.specs.Stops.{member}
use Rattle.stops.proofs.Members.{count_in_range}
use Rattle.stops.proofs.StopSet.count_to.Goals as goal

pub returns : goal.returns
returns c =
    let w = c.args.self.word in
    let last = c.args.last in
    count_from_yields_List c.filter.result _ c.count.ensures.ran
    (YieldsList-from_filter _ (member w) (YieldsList-at c.filter.ensures.source (YieldsList-from_range 1 (last + 1) last (cc) (omega arith))) c.filter.ensures.closure (λ x b q k. search rules))
    ∙ length-filter (member w) (range_with_len 1 last)
    ∙ count_in_range (member w) last
