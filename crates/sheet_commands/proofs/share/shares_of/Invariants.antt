use Rattle.std.proofs.Common.{◌≡◌, take, slice_index}
use Rattle.std.specs.List.{flat_map, sum_by}
use Rattle.sheet_commands.specs.ShareLines.{share_line, total}
use Rattle.sheet_commands.specs.Sharing.{leaf_line}
use Rattle.sheet_commands.proofs.share.shares_of.Given as goal

abbrev pub invariant-loop-leaf : goal.invariant-loop-leaf
invariant-loop-leaf g l = record {
  lines : flat_map share_line l.shares.items ≡ flat_map (leaf_line l.sheet l.grants l.entries) (take l.leaf-index l.leaves);
  totals : total l.shares.items ≡ sum_by (λ leaf. slice_index l.grants leaf) (take l.leaf-index l.leaves);
}
