use Rattle.std.proofs.Common.{◌<◌, length, get_or, sym, ◌∙◌, arith}
use Rattle.std.proofs.lemmas.List.{get_or_read}
use Rattle.price.specs.Desks.{answers}
use Rattle.price.specs.Labels.{blank}
use Rattle.price.proofs.Goes.{treats}
use Rattle.price.proofs.desk.Desk.treat.Goals as goal

pub returns : goal.returns
returns g c =
    let d = c.args.self.now in
    let a = c.requires.within in
    let b = d.unused.within in
    let inside : c.args.place < length d.store.now = omega arith in
    let x = get_or d.store.now c.args.place c.index-self-place.result in
    let here = sym c.index-self-place.is ∙ get_or_read d.store.now c.args.place c.index-self-place.result inside c.index-self-place.is (blank (answers d).start) in
    record {
      tier = c.go_on_to_all.ensures.tier;
      store = c.go_on_to_all.ensures.store;
      is = c.go_on_to_all.ensures.is ∙ treats (answers d) d.store.now d.progress c.args.place x c.try_finish-self.result here c.try_finish-self.ensures;
    }
