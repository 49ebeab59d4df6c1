use Rattle.std.proofs.Common.{◌≡◌, sym, ap, subst, IfOk, ◌∷◌, ◌++◌}
use Rattle.virtual_path.specs.Path.{Path, parent_of, HasNoSlash}
use Rattle.memory_store.specs.Tree.{key_of}
use Rattle.memory_store.proofs.PathKeys.{root_if_plain, path_cut, front_kept, front_names}
use Rattle.memory_store.proofs.key.PathKey.above.Goals as goal

pub returns-in-None : goal.returns-in-None
returns-in-None g c = ap (λ (path : Path). key_of (parent_of path)) (sym (root_if_plain c.args.path.now c.directory_text.result.now c.directory_text.ensures.text c.in-None.ensures.parts))

pub split-requires : goal.split-requires
split-requires g c =
    let parts : (c.directory_text.result.now ≡ c.in-Some.directory.now ++ 47 ∷ c.in-Some.field-0-1.now) × HasNoSlash c.in-Some.field-0-1.now = rw (← c.in-Some.directory-is) c.in-Some.ensures.parts in
    let cut = path_cut c.args.path.now c.directory_text.result.now c.in-Some.directory.now c.in-Some.field-0-1.now c.directory_text.ensures.names c.directory_text.ensures.text parts.0 parts.1 in
    front_kept c.args.path.now c.in-Some.directory.now c.in-Some.field-0-1.now c.directory_text.ensures.names cut

pub returns-in-Some : goal.returns-in-Some
returns-in-Some g c =
    let parts : (c.directory_text.result.now ≡ c.in-Some.directory.now ++ 47 ∷ c.in-Some.field-0-1.now) × HasNoSlash c.in-Some.field-0-1.now = rw (← c.in-Some.directory-is) c.in-Some.ensures.parts in
    let cut = path_cut c.args.path.now c.directory_text.result.now c.in-Some.directory.now c.in-Some.field-0-1.now c.directory_text.ensures.names c.directory_text.ensures.text parts.0 parts.1 in
    subst (λ (path : Path). IfOk c.split.result (λ found. found ≡ key_of path))
    (front_names c.args.path.now c.in-Some.directory.now c.in-Some.field-0-1.now c.directory_text.ensures.names cut) c.split.ensures
