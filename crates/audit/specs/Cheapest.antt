-- Which of two routes is the cheapest.
use Rattle.std.specs.Prelude.{cond, ℤ, Some, None, Option, int_le}
use Rattle.audit.specs.declared.cheapest.Route.{Route}
use Rattle.audit.specs.declared.cheapest.Route.TheVariants.{First, Second}

-- by their reduced costs, None where a route is not admitted; the first on ties, and None if neither is admitted
abbrev pub cheapest_of : Option ℤ → Option ℤ → Option Route
cheapest_of None None = None
cheapest_of None (Some b) = Some Second
cheapest_of (Some a) None = Some First
cheapest_of (Some a) (Some b) = cond (int_le a b) (Some First) (Some Second)
