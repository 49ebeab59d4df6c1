-- The user whom the step of an input would log in.
use Rattle.std.specs.Prelude.{ℕ, Option, option_map}
use Rattle.std.specs.declared.alloc.Global.{Global}
use Rattle.authorizer.specs.Users.{Users}
use Rattle.session_core.specs.Entering.{entering}
use Rattle.session_table.specs.Steps.{Standing}
use Rattle.session_table.specs.declared.inputs.Input.{Input}
use Rattle.socket_host.specs.Standing.{number_of}

-- the number of the user who gives the right password in their turn, by these users
abbrev pub entrant : {K : Type 0} → Users → Standing → Input Global K → Option ℕ
entrant users session reported =
    option_map (number_of users) (entering users session.view session.held reported)
