use Rattle.std.proofs.Common.{◌∙◌, refl, ap, rules}
use Rattle.std.specs.FinMap.{insert}
use Rattle.std.proofs.lemmas.Result.{err_from_is_err_and}
use Rattle.authorizer.specs.Stored.{user_of, map_of}
use Rattle.authorizer.proofs.Maps.{get-found, get-missing, map_of-insert, insert-same}
use Rattle.authorizer.proofs.table.override_path.Goals as goal

pub returns-in_err-put_rule-in-Some-clause-err : goal.returns-in_err-put_rule-in-Some-clause-err
returns-in_err-put_rule-in-Some-clause-err g c =
    let account = record c.in-Some.account.now { overrides = c.put_rule.new.rules } in
    let writes = c.get_mut.follows.holds account in
    let found = get-found user_of c.args.name.now c.args.accounts.now c.in-Some.account.now c.in-Some.ensures.value in
    let put = map_of-insert user_of c.args.name.now c.args.accounts.now (c.get_mut.follows.lender account) account (writes.3 (search rules)) in
    let unchanged = ap (λ rules. record (user_of c.in-Some.account.now) { overrides = rules }) c.in_err-put_rule-in-Some.ensures.err in
    let failed = err_from_is_err_and c.from_residual.result c.from_residual.ensures.1 in
    rw failed.1 (put ∙ ap (insert (map_of user_of c.args.accounts.now) c.args.name.now) unchanged ∙ insert-same (map_of user_of c.args.accounts.now) c.args.name.now (user_of c.in-Some.account.now) found)

pub returns-in_ok-put_rule-in-Some-clause-ok : goal.returns-in_ok-put_rule-in-Some-clause-ok
returns-in_ok-put_rule-in-Some-clause-ok g c =
    let account = record c.in-Some.account.now { overrides = c.put_rule.new.rules } in
    let writes = c.get_mut.follows.holds account in
    let found = get-found user_of c.args.name.now c.args.accounts.now c.in-Some.account.now c.in-Some.ensures.value in
    let put = map_of-insert user_of c.args.name.now c.args.accounts.now (c.get_mut.follows.lender account) account (writes.3 (search rules)) in
    let changed = ap (λ rules. record (user_of c.in-Some.account.now) { overrides = rules }) c.in_ok-put_rule-in-Some.ensures.ok in
    (user_of c.in-Some.account.now, found, put ∙ ap (insert (map_of user_of c.args.accounts.now) c.args.name.now) changed)

pub returns-in-None-clause-which : goal.returns-in-None-clause-which
returns-in-None-clause-which g c = λ _. (refl, get-missing user_of c.args.name.now c.args.accounts.now c.in-None.ensures.value)
