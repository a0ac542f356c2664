use Rattle.std.proofs.Common.{◌≡◌, ◌++◌, length, drop, count_by, sym, refl, ap, ◌∙◌, subst, arith}
use Rattle.std.proofs.lemmas.List.{length-map}
use Rattle.store.specs.Works.{falls, strike_at}
use Rattle.price.specs.Desks.{answers, hand}
use Rattle.price.specs.Labels.{blank}
use Rattle.price.specs.Places.{Unused}
use Rattle.price.proofs.Maps.{blanked, blanking_rest, counting_rest}
use Rattle.price.proofs.Keeps.{unused_struck, unused_wider, crowded, keeps}
use Rattle.price.proofs.desk.Desk.offer.Given as given
use Rattle.price.proofs.desk.Desk.offer.Goals as goal
use Rattle.price.proofs.desk.Desk.offer.Goals.{After-strike}

-- what the whole store is after the strikes, and how many there were
struck : (g : given.Over) (c : After-strike g) → (c.strike.new.labels ++ drop c.args.self.now.used c.args.self.now.store.now ≡ strike_at (hand c.args.self.now) (answers c.args.self.now) c.args.label.now c.args.self.now.store.now) × (c.strike.result ≡ count_by (falls (hand c.args.self.now) (answers c.args.self.now) c.args.label.now) c.args.self.now.store.now)
struck g c =
    let d = c.args.self.now in
    let p = falls (hand d) (answers d) c.args.label.now in
    let b = blank (answers d).start in (
      ap (λ l. l ++ drop d.used d.store.now) c.strike.ensures.struck ∙ blanking_rest p b d.store.now d.used refl d.unused.rest,
      c.strike.ensures.count ∙ counting_rest p b d.store.now d.used refl d.unused.rest,
    )

pub returns-in_default : goal.returns-in_default
returns-in_default g c =
    let d = c.args.self.now in
    let s = struck g (goal.at.returns-in_default g c).After-strike in
    record { tier = refl; store = refl; is = crowded (answers d) c.args.label.now d.store.now _ d.progress c.if-turned_away.ensures s.0 c.in_default.ensures.value }

pub invariant_of-self-3 : goal.invariant_of-self-3
invariant_of-self-3 g c =
    let d = c.args.self.now in
    let m = answers d in
    let after = c.strike.new.labels ++ drop d.used d.store.now in
    let p = falls (hand d) m c.args.label.now in
    let s = (struck g (goal.at.invariant_of-self-3 g c).After-strike).0 in
    let u : Unused m.start d.used after = subst (Unused m.start d.used) (sym s) (unused_struck m.start d.used d.store.now d.unused p refl) in
    let n : length after ≡ length d.store.now = ap length s ∙ length-map d.store.now (blanked p (blank m.start)) in
    let k = d.short in
    let used = c.max-self.ensures in
    let inside = c.in-Some.ensures.within in
    let near = c.in-Some.ensures.near in
    let w = u.within in
    record { unused = unused_wider m.start d.used after u c.max-self.result (omega arith) (omega arith); short = omega arith }

pub returns : goal.returns
returns g c =
    let d = c.args.self.now in
    let s = struck g (goal.at.returns g c).After-strike in
    record { tier = refl; store = refl; is = keeps (answers d) c.args.label.now d.store.now _ d.progress c.in-Some.place c.strike.result c.if-turned_away.ensures s.0 s.1 c.in-Some.ensures.value }
