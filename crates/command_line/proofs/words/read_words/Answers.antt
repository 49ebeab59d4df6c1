use Rattle.std.proofs.Common.{None, Some, Bool, codes, false, inl, inr, refl, sym, [], ◌≡◌, ◌∙◌, ap, ap₂, subst, map, ℕ, List, Option, true}
use Rattle.std.specs.Borrow.{Bor}
use Rattle.command_line.specs.Commands.{ftpd}
use Rattle.command_line.specs.Given.{IsCheck, IsCheckConfig, IsFound, IsLoggedBy, IsOfSheets, IsPlanWords, IsRefusal, IsServe, IsShare, IsStatusBy, IsTop, is_flagged}
use Rattle.command_line.specs.Stated.{IsStatedBy, IsUnnumbered}
use Rattle.command_line.specs.Timed.{usual_patience}
use Rattle.command_line.specs.declared.numbers.NumberForm.TheVariants.{Lines, Port, Seconds}
use Rattle.command_line.specs.declared.numbers.TheConstants.{ROWS}
use Rattle.clap.specs.Words.{App, Row, Text, app_of, fault_of, is_simple, is_simple_and_free, first_of, subcommand_of, takes}
use Rattle.command_line.proofs.AgainstWords.{checks_against, checks_against_json}
use Rattle.command_line.proofs.Taken.{refused_by_none, ftpd_is_free, ftpd_is_simple, ftpd_checks, ftpd_pictures, ftpd_shares, checks_config, checks_running, migrates, plans, plans_json, reports_json, scripts}
use Rattle.command_line.proofs.StatedNumbers.{config_stated, no_port, number_plain, patient, plan_stated, refused_other, refused_stated, serve_stated, some_lines, some_port, top_stated, usual, usual_lines}
use Rattle.command_line.proofs.ServeWords.{serves, serves_logged, serves_ready, serves_status, serves_timed, serves_until}
use Rattle.command_line.proofs.TopWords.{tops, tops_once}
use Rattle.command_line.proofs.GivenCommand.{check_config_is, check_of_sheets, ftpd_found, logged_is, migrate_is, plan_is, script_is, serve_is, share_of_sheets, status_is, top_is}
use Rattle.command_line.proofs.words.read_words.Goals as goal

pub returns-in-Err-clause-share : goal.returns-in-Err-clause-share
returns-in-Err-clause-share c = λ word plain are.
    c.in-Err.ensures.takes (ap₂ takes c.in-Ok.ensures.ftpd are ∙ (ftpd_shares word plain).taken)

pub returns-in-Err-clause-share_svg : goal.returns-in-Err-clause-share_svg
returns-in-Err-clause-share_svg c = λ word plain are.
    c.in-Err.ensures.takes (ap₂ takes c.in-Ok.ensures.ftpd are ∙ (ftpd_pictures word plain).taken)

pub returns-in-Err-clause-check : goal.returns-in-Err-clause-check
returns-in-Err-clause-check c = λ first second plain also are.
    c.in-Err.ensures.takes (ap₂ takes c.in-Ok.ensures.ftpd are ∙ (ftpd_checks first second plain also).taken)

pub returns-in-Err-clause-check_config : goal.returns-in-Err-clause-check_config
returns-in-Err-clause-check_config c = λ word plain are.
    c.in-Err.ensures.takes (ap₂ takes c.in-Ok.ensures.ftpd are ∙ (checks_config word plain).taken)

pub returns-in-Err-clause-check_config_json : goal.returns-in-Err-clause-check_config_json
returns-in-Err-clause-check_config_json c = λ word plain are.
    c.in-Err.ensures.takes (ap₂ takes c.in-Ok.ensures.ftpd are ∙ (reports_json word plain).taken)

pub returns-in-Err-clause-check_against : goal.returns-in-Err-clause-check_against
returns-in-Err-clause-check_against c = λ word other plain also are.
    c.in-Err.ensures.takes (ap₂ takes c.in-Ok.ensures.ftpd are ∙ (checks_against word other plain also).taken)

pub returns-in-Err-clause-check_against_json : goal.returns-in-Err-clause-check_against_json
returns-in-Err-clause-check_against_json c = λ word other plain also are.
    c.in-Err.ensures.takes (ap₂ takes c.in-Ok.ensures.ftpd are ∙ (checks_against_json word other plain also).taken)

pub returns-in-Err-clause-check_running : goal.returns-in-Err-clause-check_running
returns-in-Err-clause-check_running c = λ word plain are.
    c.in-Err.ensures.takes (ap₂ takes c.in-Ok.ensures.ftpd are ∙ (checks_running word plain).taken)

pub returns-in-Err-clause-migrate : goal.returns-in-Err-clause-migrate
returns-in-Err-clause-migrate c = λ word plain are.
    c.in-Err.ensures.takes (ap₂ takes c.in-Ok.ensures.ftpd are ∙ (migrates word plain).taken)

pub returns-in-Err-clause-script : goal.returns-in-Err-clause-script
returns-in-Err-clause-script c = λ word plain are.
    c.in-Err.ensures.takes (ap₂ takes c.in-Ok.ensures.ftpd are ∙ (scripts word plain).taken)

pub returns-in-Err-clause-serve : goal.returns-in-Err-clause-serve
returns-in-Err-clause-serve c = λ word plain are.
    c.in-Err.ensures.takes (ap₂ takes c.in-Ok.ensures.ftpd are ∙ (serves word plain).taken)

pub returns-in-Err-clause-serve_until : goal.returns-in-Err-clause-serve_until
returns-in-Err-clause-serve_until c = λ word path plain also are.
    c.in-Err.ensures.takes (ap₂ takes c.in-Ok.ensures.ftpd are ∙ (serves_until word path plain also).taken)

pub returns-in-Err-clause-serve_ready : goal.returns-in-Err-clause-serve_ready
returns-in-Err-clause-serve_ready c = λ word path ready plain also third are.
    c.in-Err.ensures.takes (ap₂ takes c.in-Ok.ensures.ftpd are ∙ (serves_ready word path ready plain also third).taken)

pub returns-in-Err-clause-serve_logged : goal.returns-in-Err-clause-serve_logged
returns-in-Err-clause-serve_logged c = λ word path form plain also third are.
    c.in-Err.ensures.takes (ap₂ takes c.in-Ok.ensures.ftpd are ∙ (serves_logged word path form plain also third).taken)

pub returns-in-Err-clause-serve_status : goal.returns-in-Err-clause-serve_status
returns-in-Err-clause-serve_status c = λ word path port n plain also number are.
    c.in-Err.ensures.takes (ap₂ takes c.in-Ok.ensures.ftpd are ∙ (serves_status word path port plain also (number_plain Port port n number)).taken)

pub returns-in-Err-clause-serve_timed : goal.returns-in-Err-clause-serve_timed
returns-in-Err-clause-serve_timed c = λ word first second third fourth p plain one two three four are.
    let held = serves_timed word first second third fourth plain (number_plain Seconds first _ one) (number_plain Seconds second _ two) (number_plain Seconds third _ three) (number_plain Seconds fourth _ four) in
    c.in-Err.ensures.takes (ap₂ takes c.in-Ok.ensures.ftpd are ∙ held.taken)

pub returns-in-Err-clause-plan : goal.returns-in-Err-clause-plan
returns-in-Err-clause-plan c = λ word stated plain also are.
    c.in-Err.ensures.takes (ap₂ takes c.in-Ok.ensures.ftpd are ∙ (plans word stated plain also).taken)

pub returns-in-Err-clause-plan_json : goal.returns-in-Err-clause-plan_json
returns-in-Err-clause-plan_json c = λ word stated plain also are.
    c.in-Err.ensures.takes (ap₂ takes c.in-Ok.ensures.ftpd are ∙ (plans_json word stated plain also).taken)

pub returns-in-Err-clause-top : goal.returns-in-Err-clause-top
returns-in-Err-clause-top c = λ word plain are.
    c.in-Err.ensures.takes (ap₂ takes c.in-Ok.ensures.ftpd are ∙ (tops word plain).taken)

pub returns-in-Err-clause-top_once : goal.returns-in-Err-clause-top_once
returns-in-Err-clause-top_once c = λ word lines n plain number are.
    c.in-Err.ensures.takes (ap₂ takes c.in-Ok.ensures.ftpd are ∙ (tops_once word lines plain (number_plain Lines lines n number)).taken)

pub returns-in-Err-clause-refused : goal.returns-in-Err-clause-refused
returns-in-Err-clause-refused c =
    let texts = map (λ (s : Bor (List ℕ)). s.now) c.args.words.now in
    let refused = c.in-Err.ensures.refused (ap is_simple_and_free c.in-Ok.ensures.ftpd ∙ ftpd_is_free) in
    inl (subst (λ (a : App). IsRefusal (fault_of a texts) c.in-Err.fault) c.in-Ok.ensures.ftpd refused)

pub returns-in_default-clause-taken : goal.returns-in_default-clause-taken
returns-in_default-clause-taken c = λ is.
    let texts = map (λ (s : Bor (List ℕ)). s.now) c.args.words.now in
    let found = ftpd_found c.args.words texts is.1.0 is.1.1 is.1.2 is.1.3 is.0 is.1.4 in
    (found.0, found.1, refl)

pub returns-in-Err-clause-taken : goal.returns-in-Err-clause-taken
returns-in-Err-clause-taken c = λ is.
    let texts = map (λ (s : Bor (List ℕ)). s.now) c.args.words.now in
    let found = ftpd_found c.args.words texts is.1.0 is.1.1 is.1.2 is.1.3 is.0 is.1.4 in
    let refused = c.in-Err.ensures.refused (ap is_simple_and_free c.in-Ok.ensures.ftpd ∙ ftpd_is_free) in
    let by_parser = subst (λ (a : App). IsRefusal (fault_of a texts) c.in-Err.fault) c.in-Ok.ensures.ftpd refused in
    (found.0, found.1, refused_by_none (fault_of ftpd texts) c.in-Err.fault is.0 by_parser)

-- ---- where a number is refused

pub returns-in-Err-stated_numbers-clause-share : goal.returns-in-Err-stated_numbers-clause-share
returns-in-Err-stated_numbers-clause-share c = λ word plain are.
    let held = ftpd_shares word plain in
    let simple : is_simple (app_of c.in-Ok.command) ≡ true = ap is_simple c.in-Ok.ensures.ftpd ∙ ftpd_is_simple in
    let entered = c.in-Ok-parsed_or_hinted.ensures.found simple ∙ ap₂ subcommand_of c.in-Ok.ensures.ftpd are ∙ held.entered in
    refused_other _ (codes "share") held.rows _ refl refl refl refl entered c.in-Err-stated_numbers.ensures.refused

pub returns-in-Err-stated_numbers-clause-share_svg : goal.returns-in-Err-stated_numbers-clause-share_svg
returns-in-Err-stated_numbers-clause-share_svg c = λ word plain are.
    let held = ftpd_pictures word plain in
    let simple : is_simple (app_of c.in-Ok.command) ≡ true = ap is_simple c.in-Ok.ensures.ftpd ∙ ftpd_is_simple in
    let entered = c.in-Ok-parsed_or_hinted.ensures.found simple ∙ ap₂ subcommand_of c.in-Ok.ensures.ftpd are ∙ held.entered in
    refused_other _ (codes "share") held.rows _ refl refl refl refl entered c.in-Err-stated_numbers.ensures.refused

pub returns-in-Err-stated_numbers-clause-check : goal.returns-in-Err-stated_numbers-clause-check
returns-in-Err-stated_numbers-clause-check c = λ first second plain also are.
    let held = ftpd_checks first second plain also in
    let simple : is_simple (app_of c.in-Ok.command) ≡ true = ap is_simple c.in-Ok.ensures.ftpd ∙ ftpd_is_simple in
    let entered = c.in-Ok-parsed_or_hinted.ensures.found simple ∙ ap₂ subcommand_of c.in-Ok.ensures.ftpd are ∙ held.entered in
    refused_other _ (codes "check") held.rows _ refl refl refl refl entered c.in-Err-stated_numbers.ensures.refused

pub returns-in-Err-stated_numbers-clause-check_config : goal.returns-in-Err-stated_numbers-clause-check_config
returns-in-Err-stated_numbers-clause-check_config c = λ word plain are.
    let held = checks_config word plain in
    let simple : is_simple (app_of c.in-Ok.command) ≡ true = ap is_simple c.in-Ok.ensures.ftpd ∙ ftpd_is_simple in
    let entered = c.in-Ok-parsed_or_hinted.ensures.found simple ∙ ap₂ subcommand_of c.in-Ok.ensures.ftpd are ∙ held.entered in
    refused_stated _ _ _ _ _ _ (config_stated _ held.rows entered held.unshared) c.in-Err-stated_numbers.ensures.refused

pub returns-in-Err-stated_numbers-clause-check_config_json : goal.returns-in-Err-stated_numbers-clause-check_config_json
returns-in-Err-stated_numbers-clause-check_config_json c = λ word plain are.
    let held = reports_json word plain in
    let simple : is_simple (app_of c.in-Ok.command) ≡ true = ap is_simple c.in-Ok.ensures.ftpd ∙ ftpd_is_simple in
    let entered = c.in-Ok-parsed_or_hinted.ensures.found simple ∙ ap₂ subcommand_of c.in-Ok.ensures.ftpd are ∙ held.entered in
    refused_stated _ _ _ _ _ _ (config_stated _ held.rows entered held.unshared) c.in-Err-stated_numbers.ensures.refused

pub returns-in-Err-stated_numbers-clause-check_against : goal.returns-in-Err-stated_numbers-clause-check_against
returns-in-Err-stated_numbers-clause-check_against c = λ word other plain also are.
    let held = checks_against word other plain also in
    let simple : is_simple (app_of c.in-Ok.command) ≡ true = ap is_simple c.in-Ok.ensures.ftpd ∙ ftpd_is_simple in
    let entered = c.in-Ok-parsed_or_hinted.ensures.found simple ∙ ap₂ subcommand_of c.in-Ok.ensures.ftpd are ∙ held.entered in
    refused_stated _ _ _ _ _ _ (config_stated _ held.rows entered held.unshared) c.in-Err-stated_numbers.ensures.refused

pub returns-in-Err-stated_numbers-clause-check_against_json : goal.returns-in-Err-stated_numbers-clause-check_against_json
returns-in-Err-stated_numbers-clause-check_against_json c = λ word other plain also are.
    let held = checks_against_json word other plain also in
    let simple : is_simple (app_of c.in-Ok.command) ≡ true = ap is_simple c.in-Ok.ensures.ftpd ∙ ftpd_is_simple in
    let entered = c.in-Ok-parsed_or_hinted.ensures.found simple ∙ ap₂ subcommand_of c.in-Ok.ensures.ftpd are ∙ held.entered in
    refused_stated _ _ _ _ _ _ (config_stated _ held.rows entered held.unshared) c.in-Err-stated_numbers.ensures.refused

pub returns-in-Err-stated_numbers-clause-check_running : goal.returns-in-Err-stated_numbers-clause-check_running
returns-in-Err-stated_numbers-clause-check_running c = λ word plain are.
    let held = checks_running word plain in
    let simple : is_simple (app_of c.in-Ok.command) ≡ true = ap is_simple c.in-Ok.ensures.ftpd ∙ ftpd_is_simple in
    let entered = c.in-Ok-parsed_or_hinted.ensures.found simple ∙ ap₂ subcommand_of c.in-Ok.ensures.ftpd are ∙ held.entered in
    refused_stated _ _ _ _ _ _ (config_stated _ held.rows entered held.unshared) c.in-Err-stated_numbers.ensures.refused

pub returns-in-Err-stated_numbers-clause-migrate : goal.returns-in-Err-stated_numbers-clause-migrate
returns-in-Err-stated_numbers-clause-migrate c = λ word plain are.
    let held = migrates word plain in
    let simple : is_simple (app_of c.in-Ok.command) ≡ true = ap is_simple c.in-Ok.ensures.ftpd ∙ ftpd_is_simple in
    let entered = c.in-Ok-parsed_or_hinted.ensures.found simple ∙ ap₂ subcommand_of c.in-Ok.ensures.ftpd are ∙ held.entered in
    refused_other _ (codes "migrate") held.rows _ refl refl refl refl entered c.in-Err-stated_numbers.ensures.refused

pub returns-in-Err-stated_numbers-clause-script : goal.returns-in-Err-stated_numbers-clause-script
returns-in-Err-stated_numbers-clause-script c = λ word plain are.
    let held = scripts word plain in
    let simple : is_simple (app_of c.in-Ok.command) ≡ true = ap is_simple c.in-Ok.ensures.ftpd ∙ ftpd_is_simple in
    let entered = c.in-Ok-parsed_or_hinted.ensures.found simple ∙ ap₂ subcommand_of c.in-Ok.ensures.ftpd are ∙ held.entered in
    refused_other _ (codes "script") held.rows _ refl refl refl refl entered c.in-Err-stated_numbers.ensures.refused

pub returns-in-Err-stated_numbers-clause-serve : goal.returns-in-Err-stated_numbers-clause-serve
returns-in-Err-stated_numbers-clause-serve c = λ word plain are.
    let held = serves word plain in
    let simple : is_simple (app_of c.in-Ok.command) ≡ true = ap is_simple c.in-Ok.ensures.ftpd ∙ ftpd_is_simple in
    let entered = c.in-Ok-parsed_or_hinted.ensures.found simple ∙ ap₂ subcommand_of c.in-Ok.ensures.ftpd are ∙ held.entered in
    refused_stated _ _ _ _ _ _ (serve_stated _ _ None held.rows entered (usual held.rows held.usual) (no_port held.rows held.portless) held.usual.4) c.in-Err-stated_numbers.ensures.refused

pub returns-in-Err-stated_numbers-clause-serve_until : goal.returns-in-Err-stated_numbers-clause-serve_until
returns-in-Err-stated_numbers-clause-serve_until c = λ word path plain also are.
    let held = serves_until word path plain also in
    let simple : is_simple (app_of c.in-Ok.command) ≡ true = ap is_simple c.in-Ok.ensures.ftpd ∙ ftpd_is_simple in
    let entered = c.in-Ok-parsed_or_hinted.ensures.found simple ∙ ap₂ subcommand_of c.in-Ok.ensures.ftpd are ∙ held.entered in
    refused_stated _ _ _ _ _ _ (serve_stated _ _ None held.rows entered (usual held.rows held.usual) (no_port held.rows held.portless) held.usual.4) c.in-Err-stated_numbers.ensures.refused

pub returns-in-Err-stated_numbers-clause-serve_ready : goal.returns-in-Err-stated_numbers-clause-serve_ready
returns-in-Err-stated_numbers-clause-serve_ready c = λ word path ready plain also third are.
    let held = serves_ready word path ready plain also third in
    let simple : is_simple (app_of c.in-Ok.command) ≡ true = ap is_simple c.in-Ok.ensures.ftpd ∙ ftpd_is_simple in
    let entered = c.in-Ok-parsed_or_hinted.ensures.found simple ∙ ap₂ subcommand_of c.in-Ok.ensures.ftpd are ∙ held.entered in
    refused_stated _ _ _ _ _ _ (serve_stated _ _ None held.rows entered (usual held.rows held.usual) (no_port held.rows held.portless) held.usual.4) c.in-Err-stated_numbers.ensures.refused

pub returns-in-Err-stated_numbers-clause-serve_logged : goal.returns-in-Err-stated_numbers-clause-serve_logged
returns-in-Err-stated_numbers-clause-serve_logged c = λ word path form plain also third are.
    let held = serves_logged word path form plain also third in
    let simple : is_simple (app_of c.in-Ok.command) ≡ true = ap is_simple c.in-Ok.ensures.ftpd ∙ ftpd_is_simple in
    let entered = c.in-Ok-parsed_or_hinted.ensures.found simple ∙ ap₂ subcommand_of c.in-Ok.ensures.ftpd are ∙ held.entered in
    refused_stated _ _ _ _ _ _ (serve_stated _ _ None held.rows entered (usual held.rows held.usual) (no_port held.rows held.portless) held.usual.4) c.in-Err-stated_numbers.ensures.refused

pub returns-in-Err-stated_numbers-clause-serve_status : goal.returns-in-Err-stated_numbers-clause-serve_status
returns-in-Err-stated_numbers-clause-serve_status c = λ word path port n plain also number are.
    let held = serves_status word path port plain also (number_plain Port port n number) in
    let simple : is_simple (app_of c.in-Ok.command) ≡ true = ap is_simple c.in-Ok.ensures.ftpd ∙ ftpd_is_simple in
    let entered = c.in-Ok-parsed_or_hinted.ensures.found simple ∙ ap₂ subcommand_of c.in-Ok.ensures.ftpd are ∙ held.entered in
    let stated = some_port held.rows port n held.status_port number in
    refused_stated _ _ _ _ _ _ (serve_stated _ _ (Some n) held.rows entered (usual held.rows held.usual) stated held.usual.4) c.in-Err-stated_numbers.ensures.refused

pub returns-in-Err-stated_numbers-clause-serve_timed : goal.returns-in-Err-stated_numbers-clause-serve_timed
returns-in-Err-stated_numbers-clause-serve_timed c = λ word first second third fourth p plain one two three four are.
    let held = serves_timed word first second third fourth plain (number_plain Seconds first _ one) (number_plain Seconds second _ two) (number_plain Seconds third _ three) (number_plain Seconds fourth _ four) in
    let simple : is_simple (app_of c.in-Ok.command) ≡ true = ap is_simple c.in-Ok.ensures.ftpd ∙ ftpd_is_simple in
    let entered = c.in-Ok-parsed_or_hinted.ensures.found simple ∙ ap₂ subcommand_of c.in-Ok.ensures.ftpd are ∙ held.entered in
    let states = patient held.rows p first second third fourth held.first held.second held.third held.fourth one two three four in
    refused_stated _ p _ _ _ _ (serve_stated _ p None held.rows entered states (no_port held.rows held.portless) held.unshared) c.in-Err-stated_numbers.ensures.refused

pub returns-in-Err-stated_numbers-clause-plan : goal.returns-in-Err-stated_numbers-clause-plan
returns-in-Err-stated_numbers-clause-plan c = λ word stated plain also are.
    let held = plans word stated plain also in
    let simple : is_simple (app_of c.in-Ok.command) ≡ true = ap is_simple c.in-Ok.ensures.ftpd ∙ ftpd_is_simple in
    let entered = c.in-Ok-parsed_or_hinted.ensures.found simple ∙ ap₂ subcommand_of c.in-Ok.ensures.ftpd are ∙ held.entered in
    refused_stated _ _ _ _ _ _ (plan_stated _ held.rows entered held.unshared) c.in-Err-stated_numbers.ensures.refused

pub returns-in-Err-stated_numbers-clause-plan_json : goal.returns-in-Err-stated_numbers-clause-plan_json
returns-in-Err-stated_numbers-clause-plan_json c = λ word stated plain also are.
    let held = plans_json word stated plain also in
    let simple : is_simple (app_of c.in-Ok.command) ≡ true = ap is_simple c.in-Ok.ensures.ftpd ∙ ftpd_is_simple in
    let entered = c.in-Ok-parsed_or_hinted.ensures.found simple ∙ ap₂ subcommand_of c.in-Ok.ensures.ftpd are ∙ held.entered in
    refused_stated _ _ _ _ _ _ (plan_stated _ held.rows entered held.unshared) c.in-Err-stated_numbers.ensures.refused

pub returns-in-Err-stated_numbers-clause-top : goal.returns-in-Err-stated_numbers-clause-top
returns-in-Err-stated_numbers-clause-top c = λ word plain are.
    let held = tops word plain in
    let simple : is_simple (app_of c.in-Ok.command) ≡ true = ap is_simple c.in-Ok.ensures.ftpd ∙ ftpd_is_simple in
    let entered = c.in-Ok-parsed_or_hinted.ensures.found simple ∙ ap₂ subcommand_of c.in-Ok.ensures.ftpd are ∙ held.entered in
    refused_stated _ _ _ _ _ _ (top_stated _ ROWS held.rows entered (usual_lines held.rows held.lineless)) c.in-Err-stated_numbers.ensures.refused

pub returns-in-Err-stated_numbers-clause-top_once : goal.returns-in-Err-stated_numbers-clause-top_once
returns-in-Err-stated_numbers-clause-top_once c = λ word lines n plain number are.
    let held = tops_once word lines plain (number_plain Lines lines n number) in
    let simple : is_simple (app_of c.in-Ok.command) ≡ true = ap is_simple c.in-Ok.ensures.ftpd ∙ ftpd_is_simple in
    let entered = c.in-Ok-parsed_or_hinted.ensures.found simple ∙ ap₂ subcommand_of c.in-Ok.ensures.ftpd are ∙ held.entered in
    refused_stated _ _ _ _ _ _ (top_stated _ n held.rows entered (some_lines held.rows lines n held.lines_stated number)) c.in-Err-stated_numbers.ensures.refused

pub returns-in-Err-stated_numbers-clause-refused : goal.returns-in-Err-stated_numbers-clause-refused
returns-in-Err-stated_numbers-clause-refused c =
    let texts = map (λ (s : Bor (List ℕ)). s.now) c.args.words.now in
    let simple : is_simple (app_of c.in-Ok.command) ≡ true = ap is_simple c.in-Ok.ensures.ftpd ∙ ftpd_is_simple in
    let entered = c.in-Ok-parsed_or_hinted.ensures.found simple ∙ ap (λ (a : App). subcommand_of a texts) c.in-Ok.ensures.ftpd in
    inr (subst (λ (found : Option (Text × List Row)). IsUnnumbered found c.in-Err-stated_numbers.fault) entered c.in-Err-stated_numbers.ensures.refused)

pub returns-in-Err-stated_numbers-clause-taken : goal.returns-in-Err-stated_numbers-clause-taken
returns-in-Err-stated_numbers-clause-taken c = λ is.
    let texts = map (λ (s : Bor (List ℕ)). s.now) c.args.words.now in
    let simple : is_simple (app_of c.in-Ok.command) ≡ true = ap is_simple c.in-Ok.ensures.ftpd ∙ ftpd_is_simple in
    let entered = c.in-Ok-parsed_or_hinted.ensures.found simple ∙ ap (λ (a : App). subcommand_of a texts) c.in-Ok.ensures.ftpd in
    let found = ftpd_found c.args.words texts is.1.0 is.1.1 is.1.2 is.1.3 is.0 is.1.4 in
    let refused = subst (λ (found : Option (Text × List Row)). IsUnnumbered found c.in-Err-stated_numbers.fault) entered c.in-Err-stated_numbers.ensures.refused in
    (found.0, found.1, refused_stated _ is.1.0 is.1.1 is.1.2 is.1.3 _ is.1.4 refused)

-- ---- where there is a command

pub unreachable-requires : goal.unreachable-requires
unreachable-requires c =
    let texts = map (λ (s : Bor (List ℕ)). s.now) c.args.words.now in
    let free : is_simple_and_free (app_of c.in-Ok.command) ≡ true = ap is_simple_and_free c.in-Ok.ensures.ftpd ∙ ftpd_is_free in
    let simple : is_simple (app_of c.in-Ok.command) ≡ true = ap is_simple c.in-Ok.ensures.ftpd ∙ ftpd_is_simple in
    let none : fault_of ftpd texts ≡ [] = subst (λ (a : App). fault_of a texts ≡ []) c.in-Ok.ensures.ftpd (c.in-Ok-parsed_or_hinted.ensures.given free) in
    let entered = c.in-Ok-parsed_or_hinted.ensures.found simple ∙ ap (λ (a : App). subcommand_of a texts) c.in-Ok.ensures.ftpd in
    let numbers = c.in-Ok-stated_numbers.numbers in
    let stated = subst (λ (o : Option (Text × List Row)). IsStatedBy o numbers.patience numbers.status_port numbers.rows numbers.share_by) entered c.in-Ok-stated_numbers.ensures.stated in
    let found = ftpd_found c.args.words texts numbers.patience numbers.status_port numbers.rows numbers.share_by none stated in
    let held = subst (λ (o : Option (Text × List Row)). IsFound o found.0) (sym entered) found.1 in
    c.in-None.ensures.none refl found.0 held

pub returns-clause-share : goal.returns-clause-share
returns-clause-share c = λ word plain are.
    let held = ftpd_shares word plain in
    let simple : is_simple (app_of c.in-Ok.command) ≡ true = ap is_simple c.in-Ok.ensures.ftpd ∙ ftpd_is_simple in
    let entered = c.in-Ok-parsed_or_hinted.ensures.found simple ∙ ap₂ subcommand_of c.in-Ok.ensures.ftpd are ∙ held.entered in
    subst (λ (by : Option Text). IsOfSheets (IsShare word false by) c.in-Some.words) held.alone
    (subst (λ (flag : Bool). IsOfSheets (IsShare word flag (first_of (codes "by") held.rows)) c.in-Some.words) held.unflagged
    (share_of_sheets _ _ held.rows word entered held.sheet c.in-Some.ensures.found))

pub returns-clause-share_svg : goal.returns-clause-share_svg
returns-clause-share_svg c = λ word plain are.
    let held = ftpd_pictures word plain in
    let simple : is_simple (app_of c.in-Ok.command) ≡ true = ap is_simple c.in-Ok.ensures.ftpd ∙ ftpd_is_simple in
    let entered = c.in-Ok-parsed_or_hinted.ensures.found simple ∙ ap₂ subcommand_of c.in-Ok.ensures.ftpd are ∙ held.entered in
    subst (λ (by : Option Text). IsOfSheets (IsShare word true by) c.in-Some.words) held.alone
    (subst (λ (flag : Bool). IsOfSheets (IsShare word flag (first_of (codes "by") held.rows)) c.in-Some.words) held.flagged
    (share_of_sheets _ _ held.rows word entered held.sheet c.in-Some.ensures.found))

pub returns-clause-check : goal.returns-clause-check
returns-clause-check c = λ first second plain also are.
    let held = ftpd_checks first second plain also in
    let simple : is_simple (app_of c.in-Ok.command) ≡ true = ap is_simple c.in-Ok.ensures.ftpd ∙ ftpd_is_simple in
    let entered = c.in-Ok-parsed_or_hinted.ensures.found simple ∙ ap₂ subcommand_of c.in-Ok.ensures.ftpd are ∙ held.entered in
    subst (λ (by : Option Text). IsOfSheets (IsCheck first second by) c.in-Some.words) held.alone
    (check_of_sheets _ _ held.rows first second entered held.sheet held.grants c.in-Some.ensures.found)

pub returns-clause-check_config : goal.returns-clause-check_config
returns-clause-check_config c = λ word plain are.
    let held = checks_config word plain in
    let simple : is_simple (app_of c.in-Ok.command) ≡ true = ap is_simple c.in-Ok.ensures.ftpd ∙ ftpd_is_simple in
    let entered = c.in-Ok-parsed_or_hinted.ensures.found simple ∙ ap₂ subcommand_of c.in-Ok.ensures.ftpd are ∙ held.entered in
    subst (λ (on : Bool). IsCheckConfig word false None on c.in-Some.words) held.still
    (subst (λ (other : Option Text). IsCheckConfig word false other (is_flagged (codes "against-running") held.rows) c.in-Some.words) held.alone
    (subst (λ (flag : Bool). IsCheckConfig word flag (first_of (codes "against") held.rows) (is_flagged (codes "against-running") held.rows) c.in-Some.words) held.unflagged
    (check_config_is _ _ held.rows word entered held.config held.unshared c.in-Some.ensures.found)))

pub returns-clause-check_config_json : goal.returns-clause-check_config_json
returns-clause-check_config_json c = λ word plain are.
    let held = reports_json word plain in
    let simple : is_simple (app_of c.in-Ok.command) ≡ true = ap is_simple c.in-Ok.ensures.ftpd ∙ ftpd_is_simple in
    let entered = c.in-Ok-parsed_or_hinted.ensures.found simple ∙ ap₂ subcommand_of c.in-Ok.ensures.ftpd are ∙ held.entered in
    subst (λ (on : Bool). IsCheckConfig word true None on c.in-Some.words) held.still
    (subst (λ (other : Option Text). IsCheckConfig word true other (is_flagged (codes "against-running") held.rows) c.in-Some.words) held.alone
    (subst (λ (flag : Bool). IsCheckConfig word flag (first_of (codes "against") held.rows) (is_flagged (codes "against-running") held.rows) c.in-Some.words) held.flagged
    (check_config_is _ _ held.rows word entered held.config held.unshared c.in-Some.ensures.found)))

pub returns-clause-check_against : goal.returns-clause-check_against
returns-clause-check_against c = λ word other plain also are.
    let held = checks_against word other plain also in
    let simple : is_simple (app_of c.in-Ok.command) ≡ true = ap is_simple c.in-Ok.ensures.ftpd ∙ ftpd_is_simple in
    let entered = c.in-Ok-parsed_or_hinted.ensures.found simple ∙ ap₂ subcommand_of c.in-Ok.ensures.ftpd are ∙ held.entered in
    subst (λ (on : Bool). IsCheckConfig word false (Some other) on c.in-Some.words) held.still
    (subst (λ (against : Option Text). IsCheckConfig word false against (is_flagged (codes "against-running") held.rows) c.in-Some.words) held.against
    (subst (λ (flag : Bool). IsCheckConfig word flag (first_of (codes "against") held.rows) (is_flagged (codes "against-running") held.rows) c.in-Some.words) held.flag
    (check_config_is _ _ held.rows word entered held.config held.unshared c.in-Some.ensures.found)))

pub returns-clause-check_against_json : goal.returns-clause-check_against_json
returns-clause-check_against_json c = λ word other plain also are.
    let held = checks_against_json word other plain also in
    let simple : is_simple (app_of c.in-Ok.command) ≡ true = ap is_simple c.in-Ok.ensures.ftpd ∙ ftpd_is_simple in
    let entered = c.in-Ok-parsed_or_hinted.ensures.found simple ∙ ap₂ subcommand_of c.in-Ok.ensures.ftpd are ∙ held.entered in
    subst (λ (on : Bool). IsCheckConfig word true (Some other) on c.in-Some.words) held.still
    (subst (λ (against : Option Text). IsCheckConfig word true against (is_flagged (codes "against-running") held.rows) c.in-Some.words) held.against
    (subst (λ (flag : Bool). IsCheckConfig word flag (first_of (codes "against") held.rows) (is_flagged (codes "against-running") held.rows) c.in-Some.words) held.flag
    (check_config_is _ _ held.rows word entered held.config held.unshared c.in-Some.ensures.found)))

pub returns-clause-check_running : goal.returns-clause-check_running
returns-clause-check_running c = λ word plain are.
    let held = checks_running word plain in
    let simple : is_simple (app_of c.in-Ok.command) ≡ true = ap is_simple c.in-Ok.ensures.ftpd ∙ ftpd_is_simple in
    let entered = c.in-Ok-parsed_or_hinted.ensures.found simple ∙ ap₂ subcommand_of c.in-Ok.ensures.ftpd are ∙ held.entered in
    subst (λ (on : Bool). IsCheckConfig word false None on c.in-Some.words) held.on
    (subst (λ (other : Option Text). IsCheckConfig word false other (is_flagged (codes "against-running") held.rows) c.in-Some.words) held.alone
    (subst (λ (flag : Bool). IsCheckConfig word flag (first_of (codes "against") held.rows) (is_flagged (codes "against-running") held.rows) c.in-Some.words) held.unflagged
    (check_config_is _ _ held.rows word entered held.config held.unshared c.in-Some.ensures.found)))

pub returns-clause-migrate : goal.returns-clause-migrate
returns-clause-migrate c = λ word plain are.
    let held = migrates word plain in
    let simple : is_simple (app_of c.in-Ok.command) ≡ true = ap is_simple c.in-Ok.ensures.ftpd ∙ ftpd_is_simple in
    let entered = c.in-Ok-parsed_or_hinted.ensures.found simple ∙ ap₂ subcommand_of c.in-Ok.ensures.ftpd are ∙ held.entered in
    migrate_is _ _ held.rows word entered held.config c.in-Some.ensures.found

pub returns-clause-script : goal.returns-clause-script
returns-clause-script c = λ word plain are.
    let held = scripts word plain in
    let simple : is_simple (app_of c.in-Ok.command) ≡ true = ap is_simple c.in-Ok.ensures.ftpd ∙ ftpd_is_simple in
    let entered = c.in-Ok-parsed_or_hinted.ensures.found simple ∙ ap₂ subcommand_of c.in-Ok.ensures.ftpd are ∙ held.entered in
    script_is _ _ held.rows word entered held.config c.in-Some.ensures.found

pub returns-clause-serve : goal.returns-clause-serve
returns-clause-serve c = λ word plain are.
    let held = serves word plain in
    let simple : is_simple (app_of c.in-Ok.command) ≡ true = ap is_simple c.in-Ok.ensures.ftpd ∙ ftpd_is_simple in
    let entered = c.in-Ok-parsed_or_hinted.ensures.found simple ∙ ap₂ subcommand_of c.in-Ok.ensures.ftpd are ∙ held.entered in
    subst (λ (ready : Option Text). IsServe word None ready usual_patience c.in-Some.words) held.no_ready
    (subst (λ (path : Option Text). IsServe word path (first_of (codes "ready-file") held.rows) usual_patience c.in-Some.words) held.no_path
    (serve_is _ _ held.rows word usual_patience entered held.of (usual held.rows held.usual) c.in-Some.ensures.found))

pub returns-clause-serve_until : goal.returns-clause-serve_until
returns-clause-serve_until c = λ word path plain also are.
    let held = serves_until word path plain also in
    let simple : is_simple (app_of c.in-Ok.command) ≡ true = ap is_simple c.in-Ok.ensures.ftpd ∙ ftpd_is_simple in
    let entered = c.in-Ok-parsed_or_hinted.ensures.found simple ∙ ap₂ subcommand_of c.in-Ok.ensures.ftpd are ∙ held.entered in
    subst (λ (ready : Option Text). IsServe word (Some path) ready usual_patience c.in-Some.words) held.no_ready
    (subst (λ (stop : Option Text). IsServe word stop (first_of (codes "ready-file") held.rows) usual_patience c.in-Some.words) held.stop_file
    (serve_is _ _ held.rows word usual_patience entered held.of (usual held.rows held.usual) c.in-Some.ensures.found))

pub returns-clause-serve_ready : goal.returns-clause-serve_ready
returns-clause-serve_ready c = λ word path ready plain also third are.
    let held = serves_ready word path ready plain also third in
    let simple : is_simple (app_of c.in-Ok.command) ≡ true = ap is_simple c.in-Ok.ensures.ftpd ∙ ftpd_is_simple in
    let entered = c.in-Ok-parsed_or_hinted.ensures.found simple ∙ ap₂ subcommand_of c.in-Ok.ensures.ftpd are ∙ held.entered in
    subst (λ (file : Option Text). IsServe word (Some path) file usual_patience c.in-Some.words) held.ready_file
    (subst (λ (stop : Option Text). IsServe word stop (first_of (codes "ready-file") held.rows) usual_patience c.in-Some.words) held.stop_file
    (serve_is _ _ held.rows word usual_patience entered held.of (usual held.rows held.usual) c.in-Some.ensures.found))

pub returns-clause-serve_logged : goal.returns-clause-serve_logged
returns-clause-serve_logged c = λ word path form plain also third are.
    let held = serves_logged word path form plain also third in
    let simple : is_simple (app_of c.in-Ok.command) ≡ true = ap is_simple c.in-Ok.ensures.ftpd ∙ ftpd_is_simple in
    let entered = c.in-Ok-parsed_or_hinted.ensures.found simple ∙ ap₂ subcommand_of c.in-Ok.ensures.ftpd are ∙ held.entered in
    subst (λ (form : Option Text). IsLoggedBy word (Some path) form c.in-Some.words) held.log_form
    (subst (λ (log : Option Text). IsLoggedBy word log (first_of (codes "log-form") held.rows) c.in-Some.words) held.transfer_log
    (logged_is _ _ held.rows word entered held.of c.in-Some.ensures.found))

pub returns-clause-serve_status : goal.returns-clause-serve_status
returns-clause-serve_status c = λ word path port n plain also number are.
    let held = serves_status word path port plain also (number_plain Port port n number) in
    let simple : is_simple (app_of c.in-Ok.command) ≡ true = ap is_simple c.in-Ok.ensures.ftpd ∙ ftpd_is_simple in
    let entered = c.in-Ok-parsed_or_hinted.ensures.found simple ∙ ap₂ subcommand_of c.in-Ok.ensures.ftpd are ∙ held.entered in
    subst (λ (file : Option Text). IsStatusBy word file (Some n) c.in-Some.words) held.status
    (status_is _ _ held.rows word (Some n) entered held.of (some_port held.rows port n held.status_port number) c.in-Some.ensures.found)

pub returns-clause-serve_timed : goal.returns-clause-serve_timed
returns-clause-serve_timed c = λ word first second third fourth p plain one two three four are.
    let held = serves_timed word first second third fourth plain (number_plain Seconds first _ one) (number_plain Seconds second _ two) (number_plain Seconds third _ three) (number_plain Seconds fourth _ four) in
    let simple : is_simple (app_of c.in-Ok.command) ≡ true = ap is_simple c.in-Ok.ensures.ftpd ∙ ftpd_is_simple in
    let entered = c.in-Ok-parsed_or_hinted.ensures.found simple ∙ ap₂ subcommand_of c.in-Ok.ensures.ftpd are ∙ held.entered in
    let states = patient held.rows p first second third fourth held.first held.second held.third held.fourth one two three four in
    subst (λ (ready : Option Text). IsServe word None ready p c.in-Some.words) held.no_ready
    (subst (λ (path : Option Text). IsServe word path (first_of (codes "ready-file") held.rows) p c.in-Some.words) held.no_path
    (serve_is _ _ held.rows word p entered held.of states c.in-Some.ensures.found))

pub returns-clause-plan : goal.returns-clause-plan
returns-clause-plan c = λ word stated plain also are.
    let held = plans word stated plain also in
    let simple : is_simple (app_of c.in-Ok.command) ≡ true = ap is_simple c.in-Ok.ensures.ftpd ∙ ftpd_is_simple in
    let entered = c.in-Ok-parsed_or_hinted.ensures.found simple ∙ ap₂ subcommand_of c.in-Ok.ensures.ftpd are ∙ held.entered in
    subst (λ (flag : Bool). IsPlanWords word stated flag c.in-Some.words) held.unflagged
    (plan_is _ _ held.rows word stated entered held.config held.transfers held.unshared c.in-Some.ensures.found)

pub returns-clause-plan_json : goal.returns-clause-plan_json
returns-clause-plan_json c = λ word stated plain also are.
    let held = plans_json word stated plain also in
    let simple : is_simple (app_of c.in-Ok.command) ≡ true = ap is_simple c.in-Ok.ensures.ftpd ∙ ftpd_is_simple in
    let entered = c.in-Ok-parsed_or_hinted.ensures.found simple ∙ ap₂ subcommand_of c.in-Ok.ensures.ftpd are ∙ held.entered in
    subst (λ (flag : Bool). IsPlanWords word stated flag c.in-Some.words) held.flagged
    (plan_is _ _ held.rows word stated entered held.config held.transfers held.unshared c.in-Some.ensures.found)

pub returns-clause-top : goal.returns-clause-top
returns-clause-top c = λ word plain are.
    let held = tops word plain in
    let simple : is_simple (app_of c.in-Ok.command) ≡ true = ap is_simple c.in-Ok.ensures.ftpd ∙ ftpd_is_simple in
    let entered = c.in-Ok-parsed_or_hinted.ensures.found simple ∙ ap₂ subcommand_of c.in-Ok.ensures.ftpd are ∙ held.entered in
    subst (λ (flag : Bool). IsTop word flag ROWS c.in-Some.words) held.unflagged
    (top_is _ _ held.rows word ROWS entered held.status (usual_lines held.rows held.lineless) c.in-Some.ensures.found)

pub returns-clause-top_once : goal.returns-clause-top_once
returns-clause-top_once c = λ word lines n plain number are.
    let held = tops_once word lines plain (number_plain Lines lines n number) in
    let simple : is_simple (app_of c.in-Ok.command) ≡ true = ap is_simple c.in-Ok.ensures.ftpd ∙ ftpd_is_simple in
    let entered = c.in-Ok-parsed_or_hinted.ensures.found simple ∙ ap₂ subcommand_of c.in-Ok.ensures.ftpd are ∙ held.entered in
    subst (λ (flag : Bool). IsTop word flag n c.in-Some.words) held.flagged
    (top_is _ _ held.rows word n entered held.status (some_lines held.rows lines n held.lines_stated number) c.in-Some.ensures.found)

pub returns-clause-given : goal.returns-clause-given
returns-clause-given c =
    let texts = map (λ (s : Bor (List ℕ)). s.now) c.args.words.now in
    let free : is_simple_and_free (app_of c.in-Ok.command) ≡ true = ap is_simple_and_free c.in-Ok.ensures.ftpd ∙ ftpd_is_free in
    let simple : is_simple (app_of c.in-Ok.command) ≡ true = ap is_simple c.in-Ok.ensures.ftpd ∙ ftpd_is_simple in
    let none : fault_of ftpd texts ≡ [] = subst (λ (a : App). fault_of a texts ≡ []) c.in-Ok.ensures.ftpd (c.in-Ok-parsed_or_hinted.ensures.given free) in
    let entered = c.in-Ok-parsed_or_hinted.ensures.found simple ∙ ap (λ (a : App). subcommand_of a texts) c.in-Ok.ensures.ftpd in
    let numbers = c.in-Ok-stated_numbers.numbers in
    let stated = subst (λ (o : Option (Text × List Row)). IsStatedBy o numbers.patience numbers.status_port numbers.rows numbers.share_by) entered c.in-Ok-stated_numbers.ensures.stated in
    (none, (numbers.patience, numbers.status_port, numbers.rows, numbers.share_by, stated))

pub returns-clause-found : goal.returns-clause-found
returns-clause-found c =
    let texts = map (λ (s : Bor (List ℕ)). s.now) c.args.words.now in
    let simple : is_simple (app_of c.in-Ok.command) ≡ true = ap is_simple c.in-Ok.ensures.ftpd ∙ ftpd_is_simple in
    let entered = c.in-Ok-parsed_or_hinted.ensures.found simple ∙ ap (λ (a : App). subcommand_of a texts) c.in-Ok.ensures.ftpd in
    subst (λ (found : Option (Text × List Row)). IsFound found c.in-Some.words) entered c.in-Some.ensures.found

pub returns-clause-taken : goal.returns-clause-taken
returns-clause-taken c = λ is. (c.in-Some.words, returns-clause-found c, refl)
