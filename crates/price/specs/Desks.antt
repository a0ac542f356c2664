-- A desk: what its tier answers, how labels stand in its store, and what comes of a step.
use Rattle.std.specs.Prelude.{◌≡◌, Bool, Option}
use Rattle.tier.specs.declared.Tier.{Ghosts}
use Rattle.tier.specs.Answers.{Answers}
use Rattle.store.specs.Works.{Writing, Work}
use Rattle.price.specs.declared.label.Label.{Label as Cell}
use Rattle.price.specs.declared.desk.Desk.{Desk}
use Rattle.price.specs.Labels.{writing}
use Rattle.price.specs.Progress.{work, outcome}

module _ {X S : Type 0} {t : Ghosts X S} where
  abbrev pub answers : Desk X S t → Answers S
  answers d = t.meaning.answers (t.value d.tier.now)

  -- how its places are written
  abbrev pub hand : Desk X S t → Writing (Cell S) S
  hand d = writing (answers d).start

  abbrev pub so_far : Desk X S t → Work (Cell S)
  so_far d = work d.store.now d.progress

  -- The same tier and the same store; and this is what came of it, None where the places did not suffice.
  pub record Comes (before after : Desk X S t) (ok : Bool) (next : Option (Work (Cell S))) : Type 0 where
    pub tier : after.tier ≡ before.tier
    pub store : after.store.ghost_name ≡ before.store.ghost_name
    pub is : outcome ok after.store.now after.progress ≡ next
