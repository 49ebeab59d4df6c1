use Rattle.std.proofs.Common.{sym, ap, ◌∙◌}
use Rattle.std.specs.FinMap as map
use Rattle.memory_store.specs.Tree.{PathKey, Node, path_cmp, total}
use Rattle.memory_store.proofs.Trees.{total-empty}
use Rattle.memory_store.proofs.files.Files.new.Goals as goal

pub invariant_of-result : goal.invariant_of-result
invariant_of-result g c = sym (ap (λ es. total (map.from_entries {K = PathKey} {X = Node} {R = path_cmp} es)) c.new.ensures.empty ∙ total-empty)
