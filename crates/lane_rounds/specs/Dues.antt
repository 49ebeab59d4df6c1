-- The sooner of two moments of rounds.
use Rattle.std.specs.Prelude.{min}
use Rattle.round_pace.specs.declared.due.Due.{Due}
use Rattle.round_pace.specs.declared.due.Due.TheVariants.{Now, At}

abbrev pub sooner : Due → Due → Due
sooner Now other = Now
sooner (At one) Now = Now
sooner (At one) (At other) = At (min one other)
