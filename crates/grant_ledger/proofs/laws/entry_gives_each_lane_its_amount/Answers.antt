use Rattle.grant_ledger.proofs.EntryLemmas.{is_by_lane}
use Rattle.grant_ledger.proofs.laws.entry_gives_each_lane_its_amount.Goals as goal

pub returns : goal.returns
returns c = record { amounts = is_by_lane }
