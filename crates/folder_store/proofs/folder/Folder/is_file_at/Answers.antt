use Rattle.std.proofs.Common.{rules, ◌≡◌}
use Rattle.std.specs.IoError.{error_kind}
use Rattle.std.specs.declared.io.ErrorKind.TheVariants.{PermissionDenied}
use Rattle.folder_store.proofs.folder.Folder.is_file_at.Goals as goal

pub returns-in-Directory-clause-directory : goal.returns-in-Directory-clause-directory
returns-in-Directory-clause-directory g c = λ _.
    let denied : error_kind c.args.error.now ≡ PermissionDenied = search rules in
    let shown = c.in_ok-looked.ensures.shown in
    (denied, (shown.0, c.in_ok-looked.looked, shown.1, shown.2, c.in-Directory.is))
