use Rattle.std.proofs.Common.{false, true}
use Rattle.command_line.specs.declared.numbers.TheConstants.{ROWS}
use Rattle.line_rates.specs.declared.share_by.ShareBy.TheVariants as share
use Rattle.ftpd_program.specs.declared.against.TheConstants.{RUNNING_FILE}
use Rattle.ftpd_program.proofs.Ends.{against_end, check_end, migrate_end, plan_end, report_end, running_end, script_end, serve_end, share_end, top_end}
use Rattle.ftpd_program.proofs.NoWords.{no_against, no_print, no_serve, no_top, second_of_three, second_word, third_of_four, third_word}
use Rattle.ftpd_program.specs.declared.printing.Print.TheVariants.{Plan, PlanJson, Report, ReportJson}
use Rattle.ftpd_program.proofs.run.run_words.Goals as goal

pub returns-in-Ok-clause-share : goal.returns-in-Ok-clause-share
returns-in-Ok-clause-share g c = λ sheet plain are.
    let old = g.W.TextWriter.contents c.args.output.now in
    let new = g.W.TextWriter.contents c.run_command.new.output in
    share_end _ (g.O.Lookout.Shows c.run_command.new.files) g.V.Server.Serves _ _ _ _ old new _ (c.in-Ok.ensures.share sheet plain are) c.run_command.ensures.end

pub returns-in-Ok-clause-share_svg : goal.returns-in-Ok-clause-share_svg
returns-in-Ok-clause-share_svg g c = λ sheet plain are.
    let old = g.W.TextWriter.contents c.args.output.now in
    let new = g.W.TextWriter.contents c.run_command.new.output in
    share_end _ (g.O.Lookout.Shows c.run_command.new.files) g.V.Server.Serves _ _ _ _ old new _ (c.in-Ok.ensures.share_svg sheet plain are) c.run_command.ensures.end

pub returns-in-Ok-clause-check : goal.returns-in-Ok-clause-check
returns-in-Ok-clause-check g c = λ sheet grants plain also are.
    let old = g.W.TextWriter.contents c.args.output.now in
    let new = g.W.TextWriter.contents c.run_command.new.output in
    check_end _ (g.O.Lookout.Shows c.run_command.new.files) g.V.Server.Serves _ _ _ _ old new _ (c.in-Ok.ensures.check sheet grants plain also are) c.run_command.ensures.end

pub returns-in-Ok-clause-check_config : goal.returns-in-Ok-clause-check_config
returns-in-Ok-clause-check_config g c = λ config plain are.
    let old = g.W.TextWriter.contents c.args.output.now in
    let new = g.W.TextWriter.contents c.run_command.new.output in
    report_end _ (g.O.Lookout.Shows c.run_command.new.files) g.V.Server.Serves _ _ _ _ old new _ (c.in-Ok.ensures.check_config config plain are) c.run_command.ensures.end

pub returns-in-Ok-clause-check_config_json : goal.returns-in-Ok-clause-check_config_json
returns-in-Ok-clause-check_config_json g c = λ config plain are.
    let old = g.W.TextWriter.contents c.args.output.now in
    let new = g.W.TextWriter.contents c.run_command.new.output in
    report_end _ (g.O.Lookout.Shows c.run_command.new.files) g.V.Server.Serves _ _ _ _ old new _ (c.in-Ok.ensures.check_config_json config plain are) c.run_command.ensures.end

pub returns-in-Ok-clause-check_against : goal.returns-in-Ok-clause-check_against
returns-in-Ok-clause-check_against g c = λ config other plain also are.
    let old = g.W.TextWriter.contents c.args.output.now in
    let new = g.W.TextWriter.contents c.run_command.new.output in
    against_end _ (g.O.Lookout.Shows c.run_command.new.files) g.V.Server.Serves _ _ _ _ _ old new _ (c.in-Ok.ensures.check_against config other plain also are) c.run_command.ensures.end

pub returns-in-Ok-clause-check_against_json : goal.returns-in-Ok-clause-check_against_json
returns-in-Ok-clause-check_against_json g c = λ config other plain also are.
    let old = g.W.TextWriter.contents c.args.output.now in
    let new = g.W.TextWriter.contents c.run_command.new.output in
    against_end _ (g.O.Lookout.Shows c.run_command.new.files) g.V.Server.Serves _ _ _ _ _ old new _ (c.in-Ok.ensures.check_against_json config other plain also are) c.run_command.ensures.end

pub returns-in-Ok-clause-check_running : goal.returns-in-Ok-clause-check_running
returns-in-Ok-clause-check_running g c = λ config plain are.
    let old = g.W.TextWriter.contents c.args.output.now in
    let new = g.W.TextWriter.contents c.run_command.new.output in
    running_end _ (g.O.Lookout.Shows c.run_command.new.files) g.V.Server.Serves _ _ _ _ old new _ (c.in-Ok.ensures.check_running config plain are) c.run_command.ensures.end

pub returns-in-Ok-clause-migrate : goal.returns-in-Ok-clause-migrate
returns-in-Ok-clause-migrate g c = λ config plain are.
    let old = g.W.TextWriter.contents c.args.output.now in
    let new = g.W.TextWriter.contents c.run_command.new.output in
    migrate_end _ (g.O.Lookout.Shows c.run_command.new.files) g.V.Server.Serves _ _ _ old new _ (c.in-Ok.ensures.migrate config plain are) c.run_command.ensures.end

pub returns-in-Ok-clause-script : goal.returns-in-Ok-clause-script
returns-in-Ok-clause-script g c = λ config plain are.
    let old = g.W.TextWriter.contents c.args.output.now in
    let new = g.W.TextWriter.contents c.run_command.new.output in
    script_end _ (g.O.Lookout.Shows c.run_command.new.files) g.V.Server.Serves _ _ _ old new _ (c.in-Ok.ensures.script config plain are) c.run_command.ensures.end

pub returns-in-Ok-clause-serve : goal.returns-in-Ok-clause-serve
returns-in-Ok-clause-serve g c = λ config plain are.
    let old = g.W.TextWriter.contents c.args.output.now in
    let new = g.W.TextWriter.contents c.run_command.new.output in
    serve_end _ (g.O.Lookout.Shows c.run_command.new.files) g.V.Server.Serves _ _ _ _ _ _ old new _ (c.in-Ok.ensures.serve config plain are) c.run_command.ensures.end

pub returns-in-Ok-clause-serve_until : goal.returns-in-Ok-clause-serve_until
returns-in-Ok-clause-serve_until g c = λ config path plain also are.
    let old = g.W.TextWriter.contents c.args.output.now in
    let new = g.W.TextWriter.contents c.run_command.new.output in
    serve_end _ (g.O.Lookout.Shows c.run_command.new.files) g.V.Server.Serves _ _ _ _ _ _ old new _ (c.in-Ok.ensures.serve_until config path plain also are) c.run_command.ensures.end

pub returns-in-Ok-clause-serve_ready : goal.returns-in-Ok-clause-serve_ready
returns-in-Ok-clause-serve_ready g c = λ config path ready plain also third are.
    let old = g.W.TextWriter.contents c.args.output.now in
    let new = g.W.TextWriter.contents c.run_command.new.output in
    serve_end _ (g.O.Lookout.Shows c.run_command.new.files) g.V.Server.Serves _ _ _ _ _ _ old new _ (c.in-Ok.ensures.serve_ready config path ready plain also third are) c.run_command.ensures.end

pub returns-in-Ok-clause-serve_timed : goal.returns-in-Ok-clause-serve_timed
returns-in-Ok-clause-serve_timed g c = λ config first second third fourth p plain one two three four are.
    let old = g.W.TextWriter.contents c.args.output.now in
    let new = g.W.TextWriter.contents c.run_command.new.output in
    serve_end _ (g.O.Lookout.Shows c.run_command.new.files) g.V.Server.Serves _ _ _ _ _ _ old new _ (c.in-Ok.ensures.serve_timed config first second third fourth p plain one two three four are) c.run_command.ensures.end

pub returns-in-Ok-clause-plan : goal.returns-in-Ok-clause-plan
returns-in-Ok-clause-plan g c = λ config transfers plain also are.
    let old = g.W.TextWriter.contents c.args.output.now in
    let new = g.W.TextWriter.contents c.run_command.new.output in
    plan_end _ (g.O.Lookout.Shows c.run_command.new.files) g.V.Server.Serves _ _ _ _ _ old new _ (c.in-Ok.ensures.plan config transfers plain also are) c.run_command.ensures.end

pub returns-in-Ok-clause-plan_json : goal.returns-in-Ok-clause-plan_json
returns-in-Ok-clause-plan_json g c = λ config transfers plain also are.
    let old = g.W.TextWriter.contents c.args.output.now in
    let new = g.W.TextWriter.contents c.run_command.new.output in
    plan_end _ (g.O.Lookout.Shows c.run_command.new.files) g.V.Server.Serves _ _ _ _ _ old new _ (c.in-Ok.ensures.plan_json config transfers plain also are) c.run_command.ensures.end

pub returns-in-Ok-clause-top : goal.returns-in-Ok-clause-top
returns-in-Ok-clause-top g c = λ status plain are.
    let old = g.W.TextWriter.contents c.args.output.now in
    let new = g.W.TextWriter.contents c.run_command.new.output in
    top_end _ (g.O.Lookout.Shows c.run_command.new.files) g.V.Server.Serves _ _ _ _ _ old new _ (c.in-Ok.ensures.top status plain are) c.run_command.ensures.end

pub returns-in-Ok-clause-top_once : goal.returns-in-Ok-clause-top_once
returns-in-Ok-clause-top_once g c = λ status lines n plain number are.
    let old = g.W.TextWriter.contents c.args.output.now in
    let new = g.W.TextWriter.contents c.run_command.new.output in
    top_end _ (g.O.Lookout.Shows c.run_command.new.files) g.V.Server.Serves _ _ _ _ _ old new _ (c.in-Ok.ensures.top_once status lines n plain number are) c.run_command.ensures.end

pub returns-in-Err-clause-check_config : goal.returns-in-Err-clause-check_config
returns-in-Err-clause-check_config g c = λ config plain are.
    let word = second_word c.args.words.now _ _ are in
    (word.0, word.1, no_print (Report word.0 share.Sessions) (g.O.Lookout.Shows c.args.files.now) _ _ _ _ _ _ (c.in-Err.ensures.check_config config plain are) c.report.ensures.reported)

pub returns-in-Err-clause-check_config_json : goal.returns-in-Err-clause-check_config_json
returns-in-Err-clause-check_config_json g c = λ config plain are.
    let word = second_of_three c.args.words.now _ _ _ are in
    (word.0, word.1, no_print (ReportJson word.0 share.Sessions) (g.O.Lookout.Shows c.args.files.now) _ _ _ _ _ _ (c.in-Err.ensures.check_config_json config plain are) c.report.ensures.reported)

pub returns-in-Err-clause-check_against : goal.returns-in-Err-clause-check_against
returns-in-Err-clause-check_against g c = λ config other plain also are.
    no_against false (g.O.Opener.Gives c.args.files.now) config other (g.W.TextWriter.may_refuse c.args.output.now) _ _ _ _ (c.in-Err.ensures.check_against config other plain also are) c.report.ensures.reported

pub returns-in-Err-clause-check_against_json : goal.returns-in-Err-clause-check_against_json
returns-in-Err-clause-check_against_json g c = λ config other plain also are.
    no_against true (g.O.Opener.Gives c.args.files.now) config other (g.W.TextWriter.may_refuse c.args.output.now) _ _ _ _ (c.in-Err.ensures.check_against_json config other plain also are) c.report.ensures.reported

pub returns-in-Err-clause-check_running : goal.returns-in-Err-clause-check_running
returns-in-Err-clause-check_running g c = λ config plain are.
    no_against false (g.O.Opener.Gives c.args.files.now) config RUNNING_FILE.now (g.W.TextWriter.may_refuse c.args.output.now) _ _ _ _ (c.in-Err.ensures.check_running config plain are) c.report.ensures.reported

pub returns-in-Err-clause-serve_ready : goal.returns-in-Err-clause-serve_ready
returns-in-Err-clause-serve_ready g c = λ config path ready plain also third are.
    no_serve _ (g.O.Lookout.Shows c.args.files.now) _ g.V.Server.Serves _ _ _ _ _ _ _ (c.in-Err.ensures.serve_ready config path ready plain also third are) c.report.ensures.reported

pub returns-in-Err-clause-serve_timed : goal.returns-in-Err-clause-serve_timed
returns-in-Err-clause-serve_timed g c = λ config first second third fourth p plain one two three four are.
    no_serve _ (g.O.Lookout.Shows c.args.files.now) _ g.V.Server.Serves _ _ _ _ _ _ _ (c.in-Err.ensures.serve_timed config first second third fourth p plain one two three four are) c.report.ensures.reported

pub returns-in-Err-clause-plan : goal.returns-in-Err-clause-plan
returns-in-Err-clause-plan g c = λ config transfers plain also are.
    let word = third_word c.args.words.now _ _ _ are in
    (word.0, word.1, no_print (Plan word.0 share.Sessions) (g.O.Lookout.Shows c.args.files.now) _ _ _ _ _ _ (c.in-Err.ensures.plan config transfers plain also are) c.report.ensures.reported)

pub returns-in-Err-clause-plan_json : goal.returns-in-Err-clause-plan_json
returns-in-Err-clause-plan_json g c = λ config transfers plain also are.
    let word = third_of_four c.args.words.now _ _ _ _ are in
    (word.0, word.1, no_print (PlanJson word.0 share.Sessions) (g.O.Lookout.Shows c.args.files.now) _ _ _ _ _ _ (c.in-Err.ensures.plan_json config transfers plain also are) c.report.ensures.reported)

pub returns-in-Err-clause-top : goal.returns-in-Err-clause-top
returns-in-Err-clause-top g c = λ status plain are.
    no_top false status ROWS (g.O.Lookout.Shows c.args.files.now) _ _ _ _ _ _ (c.in-Err.ensures.top status plain are) c.report.ensures.reported

pub returns-in-Err-clause-top_once : goal.returns-in-Err-clause-top_once
returns-in-Err-clause-top_once g c = λ status lines n plain number are.
    no_top true status n (g.O.Lookout.Shows c.args.files.now) _ _ _ _ _ _ (c.in-Err.ensures.top_once status lines n plain number are) c.report.ensures.reported
