use Rattle.std.proofs.Common.{◌≡◌, drop}
use Rattle.share_world.specs.Shares.{AreOpen, dealt}
use Rattle.share_world.proofs.deal.deal.Given as goal

abbrev pub invariant-loop-i : goal.invariant-loop-i
invariant-loop-i g l = record {
  due : AreOpen (drop l.i l.numbers) l.lanes.items;
  rest : dealt (drop l.i l.numbers) (drop l.i l.amounts) l.lanes.items ≡ dealt l.numbers l.amounts l.initial.lanes.items;
}
