use Rattle.std.proofs.Common.{◌∙◌, subst, ℕ, List, length, ◌≤◌, ◌<◌}
use Rattle.virtual_path.specs.Path.{path_text}
use Rattle.virtual_path.proofs.Walks.{no_slash_in_path}
use Rattle.memory_store.proofs.PathKeys.{root_text, slashed_if_long}
use Rattle.memory_store.proofs.key.directory_text.Goals as goal

pub returns-then-text-le1-clause-text : goal.returns-then-text-le1-clause-text
returns-then-text-le1-clause-text g c = root_text c.args.path.now c.text-text.ensures.names (subst (λ (t : List ℕ). length t ≤ 1) c.text-text.ensures.text c.if-text-le1.true)

pub returns-then-text-le1-clause-names : goal.returns-then-text-le1-clause-names
returns-then-text-le1-clause-names g c = no_slash_in_path c.args.path.now c.text-text.ensures.names

pub returns-else-text-le1-clause-text : goal.returns-else-text-le1-clause-text
returns-else-text-le1-clause-text g c =
    let long : 1 < length (path_text c.args.path.now) = subst (λ (t : List ℕ). 1 < length t) c.text-text.ensures.text c.if-text-le1.false in
    c.text-text.ensures.text ∙ slashed_if_long c.args.path.now long

pub returns-else-text-le1-clause-names : goal.returns-else-text-le1-clause-names
returns-else-text-le1-clause-names g c = no_slash_in_path c.args.path.now c.text-text.ensures.names
