-- When asks are not shared.
use Rattle.std.specs.Prelude.{ℕ, List, ⊤}
use Rattle.fair_shares.specs.declared.fault.FairFault.{FairFault}
use Rattle.fair_shares.specs.declared.fault.FairFault.TheVariants as fair
use Rattle.fair_terms.specs.Wants.{HasLargeUser}
use Rattle.limit_tree.specs.declared.fault.TreeFault.TheVariants.{FloorsOverLimit}
use Rattle.line_rates.specs.Rates.{Rates}
use Rattle.line_rates.specs.declared.ask.Ask.{Ask}
use Rattle.line_rates.specs.declared.share_by.ShareBy.{ShareBy}
use Rattle.ask_shares.specs.Shares.{HasTreeFault}
use Rattle.ask_shares.specs.declared.fault.NotShared.{NotShared}
use Rattle.ask_shares.specs.declared.fault.NotShared.TheVariants.{Tree, Unshared, Memory}

abbrev pub unshared_fault : FairFault → NotShared
unshared_fault fair.Memory = Memory
unshared_fault fair.Unshared = Unshared

-- memory runs out in any case; among sessions there are always shares, and among users unless the
-- asks of one of them want more together than one leaf may
abbrev pub IsUnshared : ShareBy → List Ask → NotShared → Type 0
IsUnshared by asks (Tree fault) = ⊥
IsUnshared by asks Unshared = HasLargeUser by asks
IsUnshared by asks Memory = ⊤

abbrev pub IsAskFault : (A : Type 0) → Rates → ℕ → List Ask → NotShared → Type 0
IsAskFault A rates tick asks (Tree fault) = HasTreeFault A rates tick asks fault
IsAskFault A rates tick asks fault = IsUnshared rates.share_by asks fault

-- the fault is not that of guarantees above a limit
abbrev pub IsNotOfGuarantees : NotShared → Type 0
IsNotOfGuarantees (Tree (FloorsOverLimit branch)) = ⊥
IsNotOfGuarantees fault = ⊤
