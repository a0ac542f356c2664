-- A layer of cuts over the meaning of any tier.
use Rattle.std.specs.Prelude.{List, refl}
use Rattle.tier.specs.Meaning.{Meaning}
use Rattle.layer.specs.Layers.{Pairing, Kind, layer}
use Rattle.cuts.specs.declared.bits.Bits.{Bits}
use Rattle.cuts.specs.declared.cut.Cut.{Cut}
use Rattle.cuts.specs.declared.cuts_layer.CutsState.{CutsState}
use Rattle.cuts.specs.Cuts.{cuts_own}
use Rattle.cuts.specs.Tables.{set_penalty, tighten_cut}

-- a state below with the bits
abbrev pub cuts_pairing : {S : Type 0} → Pairing S Bits (CutsState S)
cuts_pairing = record {
  join = λ s m. record { below = s; bits = m };
  below = λ t. t.below;
  own = λ t. t.bits;
  below_join = λ s m. refl;
  own_join = λ s m. refl;
  join_parts = λ t. refl;
}

abbrev pub cuts_kind : Kind (List Cut) Bits
cuts_kind = record {
  own_of = cuts_own;
  own_set = λ n cs index amount. set_penalty cs index amount;
  own_tighten = tighten_cut;
}

abbrev pub cuts : {S : Type 0} → Meaning S → Meaning (CutsState S)
cuts d = layer cuts_pairing cuts_kind d
