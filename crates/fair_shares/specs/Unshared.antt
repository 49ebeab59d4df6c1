-- The fault of grants that are not found among users.
use Rattle.user_shares.specs.declared.fault.UserShareFault.{UserShareFault}
use Rattle.user_shares.specs.declared.fault.UserShareFault.TheVariants as user
use Rattle.fair_shares.specs.declared.fault.FairFault.{FairFault}
use Rattle.fair_shares.specs.declared.fault.FairFault.TheVariants.{Memory, Unshared}

abbrev pub fault_of : UserShareFault → FairFault
fault_of user.Memory = Memory
fault_of (user.WantTooLarge index) = Unshared
