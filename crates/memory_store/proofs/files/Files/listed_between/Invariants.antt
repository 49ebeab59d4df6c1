use Rattle.std.proofs.Common.{◌≡◌, ◌++◌, map, filter}
use Rattle.virtual_tree.specs.Calls.{entries_of}
use Rattle.memory_store.specs.Tree.{reported_of, is_named}
use Rattle.memory_store.proofs.files.Files.listed_between.Given as goal

-- what is told so far, and what is left, are all
abbrev pub invariant-loop-key : goal.invariant-loop-key
invariant-loop-key g l = entries_of l.listed ++ map reported_of (filter is_named l.key-iterator) ≡ map reported_of (filter is_named l.initial.key-iterator)
