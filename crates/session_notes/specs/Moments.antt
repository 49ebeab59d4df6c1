-- The moment of a note.
use Rattle.std.specs.Prelude.{ℤ, pos, ◌/◌, ◌*◌}
use Rattle.std.specs.Duration.{as_nanos}
use Rattle.std.specs.declared.time.Duration.{Duration}

-- the nanoseconds of the whole seconds of a time since 1970
abbrev pub nanos_of_second : Duration → ℤ
nanos_of_second time = pos (as_nanos time / 1_000_000_000 * 1_000_000_000)
