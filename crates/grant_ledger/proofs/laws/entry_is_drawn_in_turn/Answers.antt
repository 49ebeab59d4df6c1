use Rattle.grant_ledger.proofs.EntryLemmas.{is_drawn_at}
use Rattle.grant_ledger.proofs.laws.entry_is_drawn_in_turn.Goals as goal

pub returns : goal.returns
returns c = record { drawn = is_drawn_at }
