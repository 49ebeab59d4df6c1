use Rattle.std.proofs.Common.{◌≡◌, ◌∙◌, bytes_eq, false, subst}
use Rattle.config_file.specs.declared.stated.UserTable.{UserTable}
use Rattle.change_report.proofs.Steps.{rules_passed}
use Rattle.change_report.proofs.users.rules_named.Goals as goal

pub loop-index-preserved : goal.loop-index-preserved
loop-index-preserved c =
    let user = c.index-users-index.result in
    let test = c.if-eq.false in
    let compared = c.eq.ensures in
    let apart : bytes_eq user.name.now c.args.name.now ≡ false = cc in
    c.loop-index.invariant
    ∙ rules_passed c.args.users.now c.args.overrides.now c.args.name.now c.loop-index.index user c.loop-index-test.true c.requires.paired
    (subst (λ (u : UserTable). bytes_eq u.name.now c.args.name.now ≡ false) c.index-users-index.is apart)
