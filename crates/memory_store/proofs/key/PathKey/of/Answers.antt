use Rattle.std.proofs.Common.{◌≡◌, subst, IfOk}
use Rattle.virtual_path.specs.Path.{Path}
use Rattle.memory_store.specs.Tree.{key_of}
use Rattle.memory_store.proofs.PathKeys.{text_kept, names_of_text}
use Rattle.memory_store.proofs.key.PathKey.of.Goals as goal

pub split-requires : goal.split-requires
split-requires g c = text_kept c.args.path.now c.directory_text.result.now c.directory_text.ensures.names c.directory_text.ensures.text

pub returns : goal.returns
returns g c =
    subst (λ (path : Path). IfOk c.split.result (λ found. found ≡ key_of path))
    (names_of_text c.args.path.now c.directory_text.result.now c.directory_text.ensures.names c.directory_text.ensures.text) c.split.ensures
