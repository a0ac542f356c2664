-- When none waits, the best total is the lowest. Assumes nothing.
use Rattle.std.proofs.Common.{◌≡◌, ℕ, ◌<◌, Bool, List, [], ℤ, Some, None, Option, refl, subst}
use Rattle.tier.specs.Answers.{Answers}
use Rattle.tier.specs.Laws.{GapLaws}
use Rattle.labelling.specs.Members.{In}
use Rattle.labelling.specs.Labelling.{Finished, Table, root, labelling}
use Rattle.labelling.specs.Moments.{BestAtMost, InView, to_its_end, on_its_way, not_begun, Moment}
use Rattle.labelling.specs.Lowest.{Found}
use Rattle.labelling.proofs.Ends.{ends, labelling_passed}
use Rattle.labelling.proofs.Moments.{every_moment}

module _ {S : Type 0} (m : Answers S) (t : Table S) (none : t.waiting ≡ []) where
  at_the_end : (r : List ℕ) (z : ℤ) → InView m t r z → BestAtMost t.best z
  at_the_end r z (to_its_end l v i e c b) = b
  at_the_end r z (on_its_way l v gone left i e f c) = absurd (subst (In l) none i)
  at_the_end r z (not_begun i) = absurd (subst (In (root m)) none i)

  pub found : Moment m t → Found m t t.best
  found now = by t.best refl
    where
      by : (o : Option (Finished S)) → t.best ≡ o → Found m t o
      by None q = λ r p a. subst (λ o. BestAtMost o a.0) q (at_the_end r a.0 (now.in_view r a.0 p a.1))
      by (Some b) q = (now.best_true b q, λ r c p e. subst (λ o. BestAtMost o c) q (at_the_end r c (now.in_view r c p e)))

pub finds_lowest : {S : Type 0} (m : Answers S) (earlier : S → S → Bool) (places : ℕ) (t : Table S) → GapLaws m → 0 < places → labelling m earlier places ≡ Some t → Found m t t.best
finds_lowest m earlier places t laws a e = found m t (ends m earlier places t a e) (every_moment m earlier places t laws (labelling_passed m earlier places t e))
