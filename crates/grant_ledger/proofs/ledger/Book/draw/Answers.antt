use Rattle.std.proofs.Common.{ap, is_some}
use Rattle.grant_ledger.proofs.LaneLemmas.{some_tick}
use Rattle.grant_ledger.proofs.ledger.Book.draw.Goals as goal

pub unwrap-requires : goal.unwrap-requires
unwrap-requires g c =
    some_tick c.self.inside.entry_tick c.self.inside.undrawn c.args.lane c.requires.lane c.self.invariant.1 (ap is_some c.unwrap-octets.ensures)
