use Rattle.std.proofs.Common.{◌≡◌, take, option_map, rules, tests}
use Rattle.std.proofs.lemmas.Iterator.{YieldsList-from_slice}
use Rattle.std.proofs.lemmas.Iterator.Consumers.{YieldsList-at, YieldsList-from_filter, YieldsList-from_enumerate}
use Rattle.price.specs.Desks.{answers}
use Rattle.price.proofs.Picks.{waits, next_label}
use Rattle.price.proofs.desk.Desk.choose.Goals as goal

pub returns : goal.returns
returns g c =
    let d = c.args.self.now in
    let r : c.map.result ≡ option_map (λ x. x.0) c.min_by_key-next.result = search rules in
    let h = next_label (answers d) d.store.now d.used d.unused (λ x. (x.0, x.1.now)) c.min_by_key-next.result c.min_by_key-next.ensures.ran (YieldsList-from_filter _ waits (YieldsList-at c.filter-waiting.ensures.source (YieldsList-from_enumerate (YieldsList-from_slice (take d.used d.store.now) cc) cc)) c.filter-waiting.ensures.closure (λ x r q k. search (rules, tests))) (λ x k q h. search (rules, tests)) c.map.result r in
    record { first = h.0; within = h.1 }
