-- A layer that passes every question down, over the meaning of any tier.
use Rattle.tier.specs.Answers.{Answers}
use Rattle.tier.specs.Meaning.{Meaning, refused}
use Rattle.tier.specs.Layers.{higher, shut_above_four, carry, own_or_below}
use Rattle.stranger.specs.declared.through.Passed.{Passed}

abbrev pub wrap : {S : Type 0} → S → Passed S
wrap s = record { below = s }

-- what the tier below answers, one tier higher
abbrev pub passes : {S : Type 0} → Answers S → Answers (Passed S)
passes m = record {
  stops = m.stops;
  tiers = higher m.tiers;
  start = wrap m.start;
  key = λ s. m.key s.below;
  reach = λ s i j. carry wrap (m.reach s.below i j);
  finish = λ s i. m.finish s.below i;
  gap = λ a b. m.gap a.below b.below;
  credit = m.credit;
}

-- the layer as far as it goes; it has nothing of its own to set or tighten
abbrev pub passing : {S : Type 0} → Meaning S → Meaning (Passed S)
passing d = record {
  Value = d.Value;
  answers = λ v. passes (d.answers v);
  ground_of = d.ground_of;
  sets = λ v tier index amount. own_or_below (higher (d.answers v).tiers) tier (refused 7) (d.sets v tier index amount);
  tightens = λ v tier index set amount. own_or_below (higher (d.answers v).tiers) tier (refused 7) (d.tightens v tier index set amount);
}

abbrev pub through : {S : Type 0} → Meaning S → Meaning (Passed S)
through d = shut_above_four (passing d)
