use Rattle.std.proofs.Common.{◌∙◌, ap, string_bytes, [], ◌∷◌, ◌++◌}
use Rattle.std.specs.Ordering.{ordering_then}
use Rattle.virtual_path.specs.Path.{Path, names_of, names_in}
use Rattle.memory_store.specs.Tree.{names_cmp, path_cmp}
use Rattle.memory_store.proofs.PathKeys.{compared}
use Rattle.memory_store.proofs.key.PathKeyOrd.cmp.Goals as goal

pub returns : goal.returns
returns g c =
    let here = string_bytes c.self.inside.directory in
    let there = string_bytes c.other.inside.directory in
    c.then.ensures
    ∙ ap (λ order. ordering_then order c.cmp.result) (c.compare_names-order.ensures ∙ ap (λ t. names_cmp (names_of t) (names_of c.as_str-2.result.now)) c.as_str.ensures.value ∙ ap (λ t. names_cmp (names_of here) (names_of t)) c.as_str-2.ensures.value)
    ∙ ap (ordering_then (names_cmp (names_of here) (names_of there))) c.cmp.ensures
    ∙ compared here there (string_bytes c.self.inside.name) (string_bytes c.other.inside.name) c.self.invariant.slashes c.other.invariant.slashes
    ∙ ap (λ (p : Path). path_cmp p (names_in there ++ string_bytes c.other.inside.name ∷ [])) c.self.view_is
    ∙ ap (λ (p : Path). path_cmp c.args.self.now p) c.other.view_is
