use Rattle.std.proofs.Common.{◌<◌, ◌≤◌, ℕ, length, drop}
use Rattle.std.specs.Prelude.{slice_index}
use Rattle.limit_tree.specs.Outline.{limits}
use Rattle.user_shares.specs.InRow.{AreInRow, StandFrom}
use Rattle.user_shares.specs.Nodes.{IsUserNode}
use Rattle.user_shares.proofs.owners.owners_of.Given as goal

abbrev pub invariant-loop-user : goal.invariant-loop-user
invariant-loop-user g l = record {
  most : l.user ≤ length l.owners.items;
  inside : length l.owners.items ≤ length (limits l.flat).wants;
  few : (i : ℕ) → i < length l.owners.items → slice_index l.owners.items i < l.user;
  node : (u : ℕ) → u < l.user → IsUserNode l.flat l.owners.items u (slice_index l.users u);
  rest : AreInRow l.flat l.users → StandFrom l.flat (length l.owners.items) (drop l.user l.users);
}
