-- The fault of the tree over the paths of a table.
use Rattle.std.specs.Prelude.{ℕ, [], slice_index_or, Option}
use Rattle.std.specs.Option.{option_map, unwrap_or}
use Rattle.limit_tree.specs.declared.fault.TreeFault.{TreeFault}
use Rattle.limit_tree.specs.declared.fault.TreeFault.TheVariants.{FloorsOverLimit}
use Rattle.limit_tree.specs.Faults.{tree_fault}
use Rattle.sheet_text.specs.declared.fault.SheetFault.{SheetFault}
use Rattle.sheet_text.specs.declared.fault.SheetFault.TheVariants.{Tree}
use Rattle.sheet_text.specs.Table.{Table}
use Rattle.sheet_text.specs.Tree.{line_in, node_paths, outline_of}

-- the line with the limit of the branch in a fault
abbrev pub fault_line : Table → TreeFault → ℕ
fault_line table (FloorsOverLimit node) =
    unwrap_or (line_in table (slice_index_or (node_paths table) node [])) 0
fault_line table fault = 0

-- the fault of the whole tree, at that line
abbrev pub whole_fault : Table → Option SheetFault
whole_fault table =
    option_map (λ fault. Tree (fault_line table fault) fault) (tree_fault (outline_of table))
