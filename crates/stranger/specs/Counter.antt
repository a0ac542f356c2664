-- A bottom that only counts: a route may visit at most so many stops.
use Rattle.std.specs.Prelude.{ℕ, ◌+◌, ◌*◌, Bool, cond, ◌||◌, ℤ, pos, Some, None, Option, ◌==◌, nat_le, nat_lt}
use Rattle.tier.specs.Answers.{Answers}
use Rattle.tier.specs.Routes.{reduced_cost}
use Rattle.tier.specs.Meaning.{Meaning, Outcome, refused}
use Rattle.stranger.specs.declared.counts.Count.{Count}

-- how many stops there are, and how many of them a route may visit
pub record Limits : Type 0 where
  pub stops : ℕ
  pub most : ℕ

-- from i to j is no leg
abbrev pub no_leg : ℕ → ℕ → ℕ → Bool
no_leg n i j = j == i || j == 0 || nat_lt n j || nat_lt n i

-- one stop more is too many
abbrev pub full : Limits → Count → Bool
full v s = nat_le v.most s.made

abbrev pub one_more : Count → Count
one_more s = record { made = s.made + 1 }

-- a stop costs the more, the greater its number
abbrev pub fare : ℕ → ℤ
fare j = pos (10 * j + 1)

abbrev pub count_reach : Limits → Count → ℕ → ℕ → Option (Count × ℤ)
count_reach v s i j = cond (no_leg v.stops i j || full v s) None (Some (one_more s, fare j))

abbrev pub count_finish : Limits → ℕ → Option ℤ
count_finish v i = cond (i == 0 || nat_lt v.stops i) None (Some (pos 5))

-- who has made fewer visits is not behind
abbrev pub count_gap : Count → Count → Option ℕ
count_gap a b = cond (nat_le a.made b.made) (Some 0) None

abbrev pub count_answers : Limits → Answers Count
count_answers v = record {
  stops = v.stops;
  tiers = 1;
  start = record { made = 0 };
  key = λ s. s.made;
  reach = count_reach v;
  finish = λ s i. count_finish v i;
  gap = count_gap;
  credit = pos 0;
}

-- nothing can be set or tightened
abbrev pub never : ℕ → Outcome Limits
never tier = cond (tier == 1) (refused 7) (refused 6)

-- there are no duals, so the leg costs of a route are its replay
abbrev pub counter : Meaning Count
counter = record {
  Value = Limits;
  answers = count_answers;
  ground_of = λ v. reduced_cost (count_answers v);
  sets = λ v tier index amount. never tier;
  tightens = λ v tier index set amount. never tier;
}
