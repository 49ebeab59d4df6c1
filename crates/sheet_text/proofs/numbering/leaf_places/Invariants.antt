use Rattle.std.proofs.Common.{◌≡◌, filter, take}
use Rattle.limit_tree.specs.Outline.{is_leaf_kind}
use Rattle.sheet_text.specs.Table.{mention_at}
use Rattle.sheet_text.proofs.numbering.leaf_places.Given as goal

abbrev pub invariant-loop-place : goal.invariant-loop-place
invariant-loop-place g l = l.leaves.items ≡ filter (λ place. is_leaf_kind (mention_at l.nodes place).kind) (take l.place-index l.order)
