-- The ends of `serve`.
use Rattle.std.proofs.Common.{◌≡◌, ℕ, List, Option, Ok, Err, subst, sym}
use Rattle.client_patience.specs.declared.patience.Patience.{Patience}
use Rattle.config_report.specs.Looks.{Shown}
use Rattle.server_config.specs.declared.config.Config.{Config}
use Rattle.sheets_program.specs.Runs.{Octets}
use Rattle.ftpd_program.specs.Serving.{Answer, IsServeEnd, IsWarnedIn, Service, end_of}

-- the end of the answer of a server that is passed the octets of the warnings
pub answered : (gives : Octets) (shown : Shown) (config_path : List ℕ) (serves : Service) (path ready : Option (List ℕ)) (p : Patience) (old new : Option (List ℕ)) (config : Config) (reported passed : List ℕ) (answer : Answer)
    → IsWarnedIn gives shown config_path config reported → passed ≡ reported → serves config passed path ready p old new answer → IsServeEnd gives shown config_path serves path ready p old new (end_of answer)
answered gives shown config_path serves path ready p old new config reported passed (Ok tt) read same is =
    (config, passed, subst (λ (t : List ℕ). IsWarnedIn gives shown config_path config t) (sym same) read, is)
answered gives shown config_path serves path ready p old new config reported passed (Err why) read same is =
    (config, passed, subst (λ (t : List ℕ). IsWarnedIn gives shown config_path config t) (sym same) read, is)
