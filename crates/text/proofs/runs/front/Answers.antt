use Rattle.std.proofs.Common.{take, ap, ◌∙◌}
use Rattle.std.proofs.lemmas.Iterator.{YieldsList-from_slice}
use Rattle.std.proofs.lemmas.Iterator.Consumers.{YieldsList-at, YieldsList-from_copied, count_from_yields_List}
use Rattle.std.proofs.lemmas.Iterator.Search.{YieldsList-from_take_while}
use Rattle.std.proofs.lemmas.List.Folds.{length-prefix_len}
use Rattle.text.proofs.Fronts.{all_front}
use Rattle.text.proofs.runs.front.Goals as goal

pub returns-clause-longest : goal.returns-clause-longest
returns-clause-longest g c = λ p acts.
    let bs = c.args.text.now in
    let road = YieldsList-from_take_while g.P.FnMut p (YieldsList-at c.take_while.ensures.source (YieldsList-from_copied (YieldsList-at c.copied.ensures.source (YieldsList-from_slice bs cc)))) c.take_while.ensures.closure c.take_while.ensures.done acts in
    let n = count_from_yields_List c.take_while.result c.count-n.result c.count-n.ensures.ran road in
    ap (λ k. take k bs) (n ∙ length-prefix_len p bs)

pub returns-clause-passing : goal.returns-clause-passing
returns-clause-passing g c = λ p acts. rw (returns-clause-longest g c p acts) (all_front p c.args.text.now)
