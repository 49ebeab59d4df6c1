use Rattle.std.proofs.Common.{◌≡◌, ◌++◌, List, length, map}
use Rattle.std.specs.FinMap.{from_entries}
use Rattle.memory_store.specs.Tree.{PathKey, Node, path_cmp, moved_entry}
use Rattle.memory_store.proofs.files.Files.renamed.Given as goal

-- some last entries are moved, and the others are left
abbrev pub invariant-loop-key : goal.invariant-loop-key
invariant-loop-key g l = (done : List (PathKey × Node)) × (l.initial.rest ≡ l.rest ++ done) × (l.renamed ≡ from_entries {R = path_cmp} (map (moved_entry l.from l.to) done))

abbrev pub decreases-loop-key : goal.decreases-loop-key
decreases-loop-key g l = length l.rest
