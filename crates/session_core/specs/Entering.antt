-- The input by which a user would log in.
use Rattle.std.specs.Prelude.{ℕ, ◌&&◌, if◌then◌else◌, Bool, true, false, List, [], Option, Some, None, Ok, unwrap_or}
use Rattle.authorizer.specs.Changes.{is_password}
use Rattle.authorizer.specs.Users.{Users}
use Rattle.ftp_wire.specs.Items.{Item}
use Rattle.ftp_wire.specs.declared.commands.Command.TheVariants as command
use Rattle.session_table.specs.declared.inputs.Input.{Input}
use Rattle.session_table.specs.declared.stages.Stage.{Stage}
use Rattle.session_table.specs.declared.stages.Stage.TheVariants.{Named}
use Rattle.session_table.specs.Steps.{in_its_turn}
use Rattle.session_table.specs.Views.{View, serves_lines}

-- a name was given by USER, and no right password yet
abbrev pub is_named : Stage → Bool
is_named Named = true
is_named _ = false

-- the line is PASS with the password of the user
abbrev pub is_right : Users → List ℕ → Option Item → Bool
is_right users name (Some (Ok (command.Pass text))) = is_password users name (unwrap_or text [])
is_right users name _ = false

-- The name of the user for whom the step of an input asks for admission: the one who was named, if
-- the line in its turn is PASS with the right password.
abbrev pub entering : {A K : Type 0} → Users → View → List Item → Input A K → Option (List ℕ)
entering users view held reported =
    if serves_lines view
    && (is_named view.stage && is_right users view.name (in_its_turn reported held))
    then Some view.name else None
