-- Octets that users got since the start.
use Rattle.std.specs.Prelude.{ℕ, ◌+◌, ◌-◌, ◌^◌, min}
use Rattle.line_rates.specs.declared.ask.Way.{Way}
use Rattle.line_rates.specs.declared.ask.Way.TheVariants.{Down, Up}
use Rattle.status_keeper.specs.declared.facts.KeptAccount.{KeptAccount}

-- a sum that stays at the greatest number
abbrev pub added : ℕ → ℕ → ℕ
added a b = min (a + b) (2 ^ 64 - 1)

-- with what a transfer got that has ended
abbrev pub with_granted : Way → ℕ → KeptAccount → KeptAccount
with_granted Down octets a = record a { granted_down = added a.granted_down octets }
with_granted Up octets a = record a { granted_up = added a.granted_up octets }

-- with a time in which a guarantee was not met
abbrev pub with_unmet : Way → ℕ → KeptAccount → KeptAccount
with_unmet Down micros a = record a { unmet_down = added a.unmet_down micros }
with_unmet Up micros a = record a { unmet_up = added a.unmet_up micros }
