-- Faults that are told as those of sharing.
use Rattle.std.proofs.Common.{◌≡◌, ◌≢◌, ℕ, List, Option, Some, None, refl}
use Rattle.depth_users.specs.declared.fault.DepthFault.{DepthFault}
use Rattle.depth_users.specs.declared.fault.DepthFault.TheVariants.{Memory as NoDepthMemory, UserTooLarge as TooLargeUser}
use Rattle.sheet_text.specs.Sheet.{sheet_fault}
use Rattle.sheet_commands.specs.ShareFaults.{IsUnshared, of_depth}
use Rattle.sheet_commands.specs.declared.share_fault.ShareFault.TheVariants.{UserTooLarge}

-- a fault of sharing among users, after the sheet was read
pub depth_unshared : (depth : ℕ) (text : List ℕ) (e : DepthFault) → sheet_fault text ≡ None → IsUnshared (Some depth) text (of_depth e)
depth_unshared depth text NoDepthMemory sound = refl
depth_unshared depth text TooLargeUser sound = sound

-- only users are too large
pub by_users : (by : Option ℕ) (text : List ℕ) → IsUnshared by text UserTooLarge → (by ≢ None) × (sheet_fault text ≡ None)
by_users None text is = absurd is
by_users (Some depth) text is = ((λ no. cc), is)
