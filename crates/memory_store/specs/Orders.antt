-- Proofs, not definitions to be believed: the order of paths is total. They are here since the
-- toolchain wants the proof of a trait's law among the definitions.
use Rattle.std.specs.Cmp.{IsTotalOrder, on_total, then_total}
use Rattle.std.specs.Cmp.Lexicographic.{lists_total, nat_list_cmp_total}
use Rattle.virtual_path.specs.Path.{parent_of}
use Rattle.memory_store.specs.Tree.{names_cmp, path_cmp}

pub names_total : IsTotalOrder names_cmp
names_total = lists_total nat_list_cmp_total

pub paths_total : IsTotalOrder path_cmp
paths_total = then_total (on_total parent_of names_total) names_total
