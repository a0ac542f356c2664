use Rattle.std.proofs.Common.{◌≡◌, ℕ, ℤ, pos, ◌-ℤ◌, Ok, Err, Result, refl, ap, ◌∙◌}
use Rattle.std.specs.Result.{result_ok}
use Rattle.book.specs.Books.{contents, leg_at}
use Rattle.duals.specs.Duals.{dual_of}
use Rattle.duals.specs.Bottoms.{costing, less_dual}
use Rattle.bottom.specs.Driving.{driven, charged}
use Rattle.bottom.proofs.bottom.BottomTier.reach.Goals as goal

charges : {S E : Type 0} (o : Result S E) (cost : ℕ) (dual : ℤ) → result_ok (charged (pos cost -ℤ dual) o) ≡ less_dual dual (costing cost o)
charges (Ok s) cost dual = refl
charges (Err e) cost dual = refl

pub returns : goal.returns
returns g c =
    let t = c.args.self.now in
    c.ok.ensures.value ∙ ap result_ok c.step.ensures
    ∙ charges (driven g.R.Rules.driving (contents t.book) c.args.state c.args.from c.args.to) (leg_at (contents t.book) c.args.from c.args.to).cost (dual_of t.duals.amounts c.args.to)
