-- When no fair grants are found.
use Rattle.std.specs.Prelude.{List, ⊤}
use Rattle.line_rates.specs.declared.ask.Ask.{Ask}
use Rattle.line_rates.specs.declared.share_by.ShareBy.{ShareBy}
use Rattle.fair_terms.specs.Wants.{HasLargeUser}
use Rattle.fair_shares.specs.declared.fault.FairFault.{FairFault}
use Rattle.fair_shares.specs.declared.fault.FairFault.TheVariants.{Memory, Unshared}

-- memory runs out in any case; among sessions there are always grants, and among users unless the
-- asks of one of them want more together than one leaf may
abbrev pub IsFairFault : ShareBy → List Ask → FairFault → Type 0
IsFairFault by asks Memory = ⊤
IsFairFault by asks Unshared = HasLargeUser by asks
