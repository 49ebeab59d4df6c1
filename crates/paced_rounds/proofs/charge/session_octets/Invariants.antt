use Rattle.std.proofs.Common.{◌≡◌, ◌≤◌, ◌*◌, take}
use Rattle.round_pace.specs.OwnParts.{session_octets}
use Rattle.paced_rounds.specs.History.{leaves}
use Rattle.paced_rounds.proofs.charge.session_octets.Given as goal

abbrev pub invariant-loop-i : goal.invariant-loop-i
invariant-loop-i l = record {
  is : l.octets ≡ session_octets l.way l.user l.session (leaves (take l.i l.asks) (take l.i l.grants));
  small : l.octets ≤ l.i * 18446744073709551615;
}
