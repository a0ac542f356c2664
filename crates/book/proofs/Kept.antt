-- What a book keeps of its numbers, by its contents, and which legs there are. Assumes nothing.
use Rattle.std.proofs.Common.{◌≡◌, ℕ, ◌*◌, ◌≤◌, Bool, true, false, cond, not, ◌&&◌, length, get_or, sym, refl, ap, ◌∙◌, subst, arith}
use Rattle.std.proofs.lemmas.Bool.{eq-eqb, ne_eqb}
use Rattle.stops.specs.Stops.{most_stops, most_places}
use Rattle.book.specs.Limits.{last_minute, most_made}
use Rattle.book.specs.Ranges.{fleet_ok, blank_leg, leg_index, VisitsOk, LegsOk}
use Rattle.book.specs.Books.{Contents, contents, is_place, is_stop, can_go, visit_at, no_leg, leg_at}
use Rattle.book.specs.declared.book.Book.{Book}
use Rattle.book.proofs.Fits.{few_stops, most_in_range, closes_in_day, LegInRange, leg_in_range}

pub record InRanges (b : Contents) : Type 0 where
  pub fleet : fleet_ok b.stops b.fleet ≡ true
  pub visits : VisitsOk b.stops b.visits
  pub legs : LegsOk b.stops b.legs
  pub places : length b.visits ≡ most_places
  pub pairs : length b.legs ≡ most_places * most_places

pub in_ranges : (b : Book) → InRanges (contents b)
in_ranges b = record { fleet = b.fleets; visits = b.visiting; legs = b.driving; places = b.places; pairs = b.pairs }

-- between different places the leg is the one in the table
leg_between : (b : Contents) (i j : ℕ) → (j ≡ i → ⊥) → leg_at b i j ≡ get_or b.legs (leg_index i j) blank_leg
leg_between b i j apart = ap (λ t. cond t no_leg (get_or b.legs (leg_index i j) blank_leg)) (ne_eqb i j (λ e. apart (sym e)))

module _ (b : Contents) (ok : InRanges b) where
  pub stops_kept : b.stops ≤ most_stops
  stops_kept = few_stops b.stops b.fleet ok.fleet

  pub most_kept : b.fleet.most ≤ most_made
  most_kept = most_in_range b.stops b.fleet ok.fleet

  pub close_kept : (j : ℕ) → (visit_at b j).closes ≤ last_minute
  close_kept j = closes_in_day b.stops j (visit_at b j) (ok.visits j)

  pub leg_kept : (i j : ℕ) → j ≤ b.stops → (j ≡ i → ⊥) → LegInRange (leg_at b i j)
  leg_kept i j to apart =
      let few = stops_kept in
      subst LegInRange (sym (leg_between b i j apart)) (leg_in_range b.stops i j (get_or b.legs (leg_index i j) blank_leg) (omega arith) (ok.legs i j))

-- there is no leg from a place to itself
pub nowhere : (b : Contents) (i j : ℕ) → i ≡ j → can_go b i j ≡ false
nowhere b i j e = ap (λ t. is_place b i && is_stop b j && not t) (eq-eqb i j e) ∙ nothing (is_place b i && is_stop b j)
  where
    nothing : (x : Bool) → (x && false) ≡ false
    nothing true = refl
    nothing false = refl
