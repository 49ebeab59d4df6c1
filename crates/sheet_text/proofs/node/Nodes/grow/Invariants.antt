use Rattle.std.proofs.Common.{◌≡◌, ◌-◌, length, drop}
use Rattle.sheet_text.specs.Paths.{names_of}
use Rattle.sheet_text.specs.Table.{path_at}
use Rattle.sheet_text.specs.Walks.{IsFresh, IsStand, grown}
use Rattle.sheet_text.proofs.node.Nodes.grow.Given as goal

abbrev pub invariant-names : goal.invariant-names
invariant-names g l = record {
  stand : IsStand l.self l.path l.place l.at;
  fresh : IsFresh l.self (path_at l.self l.place) (names_of (drop l.at l.path));
  grown : grown l.fn.self (path_at l.fn.self l.fn.place) (names_of (drop l.fn.at l.path)) ≡ grown l.self (path_at l.self l.place) (names_of (drop l.at l.path));
}

abbrev pub decreases-names : goal.decreases-names
decreases-names g l = length l.text - l.at
