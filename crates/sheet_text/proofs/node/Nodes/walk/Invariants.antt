use Rattle.std.proofs.Common.{◌≡◌, ◌-◌, [], length, drop, false}
use Rattle.sheet_text.specs.Paths.{names_of}
use Rattle.sheet_text.specs.Table.{path_at}
use Rattle.sheet_text.specs.Walks.{IsStand, walked}
use Rattle.sheet_text.proofs.node.Nodes.walk.Given as goal

abbrev pub invariant-names : goal.invariant-names
invariant-names g l = record {
  stand : IsStand l.self l.path l.walk.place l.walk.at;
  walked_is : walked l.self [] false (names_of l.path) ≡ walked l.self (path_at l.self l.walk.place) l.walk.under (names_of (drop l.walk.at l.path));
}

abbrev pub decreases-names : goal.decreases-names
decreases-names g l = length l.text - l.walk.at
