-- The configurations that an owner asks a server to take.
use Rattle.std.specs.Prelude.{◌≡◌, Bool, true}
use Rattle.line_rates.specs.Rates.{Rates}
use Rattle.ftp_daemon.specs.declared.reloading.ReloadSign.{ReloadSign}
use Rattle.ftp_daemon.specs.declared.reloading.ReloadSign.TheVariants.{Nothing, Refused, Asked}

-- the rates of a configuration that is asked for pass the test of its owner
abbrev pub IsAllowed : (Rates → Bool) → ReloadSign → Type 0
IsAllowed allows Nothing = Unit {0}
IsAllowed allows (Refused reason) = Unit {0}
IsAllowed allows (Asked reload) = allows reload.limits ≡ true
