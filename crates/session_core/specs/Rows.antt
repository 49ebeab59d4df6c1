-- Rules whose texts are borrowed.
use Rattle.session_table.specs.declared.rules.LoginRow.{LoginRow}
use Rattle.session_table.specs.declared.rules.LoginRow.TheVariants as login
use Rattle.session_table.specs.declared.rules.NamedRow.{NamedRow}
use Rattle.session_table.specs.declared.rules.NamedRow.TheVariants as row
use Rattle.session_table.specs.declared.rules.Rule.{Rule}

-- a row, and a rule, with each text by a function
module _ {X Y : Type 0} (f : X → Y) where
  abbrev pub login_by : LoginRow X → LoginRow Y
  login_by (login.User name) = login.User (f name)
  login_by (login.Pass password) = login.Pass (f password)
  login_by login.Quit = login.Quit
  login_by login.Rein = login.Rein

  abbrev pub row_by : NamedRow X → NamedRow Y
  row_by (row.Login what) = row.Login (login_by what)
  row_by (row.State what) = row.State what
  row_by (row.At place) =
      row.At (record { letter = place.letter; text = f place.text; row = place.row })

  abbrev pub rule_by : Rule X → Rule Y
  rule_by given = record { conditions = given.conditions; row = row_by given.row }
