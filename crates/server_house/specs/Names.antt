-- The word that has the user and the direction of a transfer.
use Rattle.std.specs.Prelude.{ℕ, ◌+◌, ◌*◌}
use Rattle.line_rates.specs.declared.ask.Way.{Way}
use Rattle.line_rates.specs.declared.ask.Way.TheVariants.{Down, Up}

-- twice the user's number, plus one for an upload
abbrev pub name_word : Way → ℕ → ℕ
name_word Down user = user * 2
name_word Up user = user * 2 + 1
