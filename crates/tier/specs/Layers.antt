-- What all layers do alike: how high they stand, that they are shut over four tiers, and which calls are theirs.
use Rattle.std.specs.Prelude.{ℕ, ◌+◌, min, Bool, cond, ℤ, pos, Some, None, Option, ◌==◌, nat_lt}
use Rattle.tier.specs.Answers.{Answers}
use Rattle.tier.specs.Meaning.{Meaning, Outcome}
use Rattle.tier.specs.Laws.{most_tiers}

-- one tier more, held at 5
abbrev pub higher : ℕ → ℕ
higher tiers = min (tiers + 1) 5

-- the same answers, or if shut: nothing is reached, nothing finishes, and gaps and credit are 0
abbrev pub shut_if : {S : Type 0} → Bool → Answers S → Answers S
shut_if shut m = record {
  stops = m.stops;
  tiers = m.tiers;
  start = m.start;
  key = m.key;
  reach = λ s i j. cond shut None (m.reach s i j);
  finish = λ s i. cond shut None (m.finish s i);
  gap = λ a b. cond shut (Some 0) (m.gap a b);
  credit = cond shut (pos 0) m.credit;
}

-- the same answers up to four tiers, and shut over that
abbrev pub up_to_four : {S : Type 0} → Answers S → Answers S
up_to_four m = shut_if (nat_lt most_tiers m.tiers) m

-- a kind of tier that answers as before up to four tiers, and is shut over that
abbrev pub shut_above_four : {S : Type 0} → Meaning S → Meaning S
shut_above_four d = record {
  Value = d.Value;
  answers = λ v. up_to_four (d.answers v);
  ground_of = d.ground_of;
  sets = d.sets;
  tightens = d.tightens;
}

-- the new state turned by f, for the same charge
abbrev pub carry : {S T : Type 0} → (S → T) → Option (S × ℤ) → Option (T × ℤ)
carry f None = None
carry f (Some p) = Some (f p.0, p.1)

-- A call that names the layer's own number is the layer's to answer; any other goes down unchanged.
abbrev pub own_or_below : {V : Type 0} → ℕ → ℕ → Outcome V → Outcome V → Outcome V
own_or_below tiers tier own below = cond (tier == tiers) own below
