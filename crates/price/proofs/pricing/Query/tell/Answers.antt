use Rattle.std.proofs.Common.{◌≡◌, length, take, ap, ◌∙◌, subst, arith, w64, to_z, of_z}
use Rattle.std.proofs.lemmas.Int.{ints}
use Rattle.tier.specs.Laws.{Laws}
use Rattle.tier.specs.Meaning.{here}
use Rattle.calls.specs.Calls.{lowest, floor, found}
use Rattle.price.specs.Prices.{counts, stops_in, row_after}
use Rattle.price.proofs.Files.{falls_back}
use Rattle.price.proofs.Tellings.{passed, the_table, best_of, short, small, tells}
use Rattle.price.proofs.pricing.Query.tell.Given as given
use Rattle.price.proofs.pricing.Query.tell.Goals as goal

abbrev laws_of : (g : given.Over) (t : g.row.T.Denot) → Laws g.T.Tier.meaning (g.T.Tier.value t)
laws_of g t = g.met.T.Tier.lawful t (g.T.Tier.value t) here

pub write_route-route-requires-clause-back : goal.write_route-route-requires-clause-back
write_route-route-requires-clause-back g c =
    let m = g.T.Tier.meaning.answers (g.T.Tier.value c.args.self.now.pile.now) in
    let cells = c.args.store.now in
    let d = c.requires.labelled in
    falls_back m (length cells) cells c.args.progress d.table (passed m (length cells) cells c.args.progress d) d.beside

pub write_route-route-requires-clause-short : goal.write_route-route-requires-clause-short
write_route-route-requires-clause-short g c =
    let m = g.T.Tier.meaning.answers (g.T.Tier.value c.args.self.now.pile.now) in
    let l = laws_of g c.args.self.now.pile.now in
    let cells = c.args.store.now in
    let d = c.requires.labelled in
    let b = best_of m (length cells) cells c.args.progress d c.in-Some.cost c.in-Some.last c.in-Some.is in
    short m (length cells) cells c.args.progress d c.in-Some.cost c.in-Some.last b c.args.self.now.few l.sizes l.keys

pub floor-floor-requires : goal.floor-floor-requires
floor-floor-requires g c =
    let m = g.T.Tier.meaning.answers (g.T.Tier.value c.args.self.now.pile.now) in
    let l = laws_of g c.args.self.now.pile.now in
    let cells = c.args.store.now in
    let d = c.requires.labelled in
    let b = best_of m (length cells) cells c.args.progress d c.in-Some.cost c.in-Some.last c.in-Some.is in
    let s = small m (length cells) cells c.args.progress d c.in-Some.cost c.in-Some.last b c.args.self.now.few l.sizes l.keys in
    omega (arith, ints)

pub returns-in-Some : goal.returns-in-Some
returns-in-Some g c t e =
    let m = g.T.Tier.meaning.answers (g.T.Tier.value c.args.self.now.pile.now) in
    let l = laws_of g c.args.self.now.pile.now in
    let cells = c.args.store.now in
    let p = c.args.progress in
    let d = c.requires.labelled in
    let row = c.write_route-route.new.row in
    let b = best_of m (length cells) cells p d c.in-Some.cost c.in-Some.last c.in-Some.is in
    let s = small m (length cells) cells p d c.in-Some.cost c.in-Some.last b c.args.self.now.few l.sizes l.keys in
    let same : to_z w64 (of_z w64 c.in-Some.cost) ≡ c.in-Some.cost = omega (arith, ints) in
    let ok = c.floor-floor.type_inv in
    let fits : to_z w64 (of_z w64 c.floor-floor.result) ≡ c.floor-floor.result = omega (arith, ints) in
    let z : to_z w64 (of_z w64 c.floor-floor.result) ≡ floor m c.args.self.now.vans c.in-Some.cost = fits ∙ c.floor-floor.ensures ∙ ap (floor m c.args.self.now.vans) same in
    let h = tells m (length cells) cells p d c.in-Some.cost c.in-Some.last b c.args.self.now.vans c.write_route-route.result (to_z w64 (of_z w64 c.floor-floor.result)) c.args.row.now row c.write_route-route.ensures.stops c.write_route-route.ensures.row z in
    subst (λ u. (lowest (to_z w64 (of_z w64 c.in-Some.cost)) (take c.write_route-route.result row) (to_z w64 (of_z w64 c.floor-floor.result)) (counts p.counts) ≡ found m c.args.self.now.vans u u.best) × (c.write_route-route.result ≡ stops_in (found m c.args.self.now.vans u u.best)) × (row ≡ row_after (found m c.args.self.now.vans u u.best) c.args.row.now)) (the_table m (length cells) cells p d t e)
    (ap (λ x. lowest x (take c.write_route-route.result row) (to_z w64 (of_z w64 c.floor-floor.result)) (counts p.counts)) same ∙ h.0, h.1, h.2)
