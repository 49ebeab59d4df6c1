use Rattle.std.proofs.Common.{get_or, refl}
use Rattle.std.proofs.lemmas.Option.{slice_get-get_or}
use Rattle.config_file.specs.declared.fault.TableName.TheVariants.{Override}
use Rattle.server_config.specs.Users.{IsRefusedRule}
use Rattle.server_config.proofs.UsersAdded.{rules-next}
use Rattle.server_config.proofs.StrayLetters.{row_lacks}
use Rattle.server_config.proofs.UsersRefused.{reported_as}
use Rattle.server_config.proofs.users.add_rules.Goals as goal

pub loop-index-preserved : goal.loop-index-preserved
loop-index-preserved c =
    rules-next c.args.name.now c.args.rules.now c.loop-index.index _ _ c.args.users.now c.loop-index.users c.add_rule.new.users
    c.loop-index-test.true refl c.loop-index.invariant c.in-Ok.ensures.rule

pub returns-in-Err-clause-refused : goal.returns-in-Err-clause-refused
returns-in-Err-clause-refused c =
    reported_as (IsRefusedRule c.args.user c.args.name.now c.args.rules.now c.args.users.now) (Override c.args.user) c.loop-index.index c.args.name.now _ c.in-Err.fault c.refused.result c.refused.ensures.reported (λ problem lack reported. record {
      index = c.loop-index.index;
      rule = _;
      mid = c.loop-index.users;
      stands = slice_get-get_or c.args.rules.now c.loop-index.index _ c.loop-index-test.true;
      before = c.loop-index.invariant;
      fault = c.in-Err.fault;
      refused = c.in-Err.ensures.refused lack;
      reported = reported;
      place = refl;
    })

pub refused-requires-clause-stray : goal.refused-requires-clause-stray
refused-requires-clause-stray c =
    row_lacks c.loop-index.users c.args.name.now (get_or c.args.rules.now c.loop-index.index _) c.in-Err.fault c.in-Err.ensures.refused
