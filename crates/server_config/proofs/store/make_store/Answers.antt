use Rattle.std.proofs.Common.{◌≡◌, ◌≤◌, codes, inr, rules}
use Rattle.std.proofs.lemmas.Result.{err_from_is_err_and}
use Rattle.server_config.specs.Store.{IsRefusedFile, IsStoreProblem}
use Rattle.server_config.proofs.StoreMade.{from_empty}
use Rattle.server_config.proofs.StoreRefused.{reported_more}
use Rattle.server_config.proofs.store.make_store.Goals as goal

pub returns-clause-store : goal.returns-clause-store
returns-clause-store c =
    let root : c.args.server.now.root.now ≡ codes "memory" = search rules in
    let dirs = from_empty c.args.dirs.now c.args.server.now.capacity c.in_ok-store.store c.make_dirs.new.store c.in_ok-store.ensures.empty c.in_ok-store.ensures.capacity c.in_ok-make_dirs.ensures.made in
    (root, (c.make_dirs.new.store, dirs, c.in_ok-make_files.ensures.made))

pub returns-in_err-make_files-clause-refused : goal.returns-in_err-make_files-clause-refused
returns-in_err-make_files-clause-refused c =
    let range : c.args.server.now.passive_first ≤ c.args.server.now.passive_last = search rules in
    let root : c.args.server.now.root.now ≡ codes "memory" = search rules in
    let dirs = from_empty c.args.dirs.now c.args.server.now.capacity c.in_ok-store.store c.make_dirs.new.store c.in_ok-store.ensures.empty c.in_ok-store.ensures.capacity c.in_ok-make_dirs.ensures.made in
    let failed = err_from_is_err_and c.from_residual-in_err-make_files.result c.from_residual-in_err-make_files.ensures.1 in
    rw (failed.1, failed.2) (reported_more (IsRefusedFile c.args.files.now c.make_dirs.new.store) (IsStoreProblem c.args.server.now c.args.dirs.now c.args.files.now)
    (λ place reported refused. inr (range, root, inr (c.make_dirs.new.store, dirs, refused))) c.in_err-make_files.field-0.0 c.in_err-make_files.ensures.refused)
