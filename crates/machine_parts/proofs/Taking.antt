-- What a server takes next, and why it does not.
use Rattle.std.proofs.Common.{◌≡◌, ℕ, List, Option, Some, None, IfSome, map, option_map, subst}
use Rattle.std.specs.Prelude.{◌≢◌, String, string_bytes}
use Rattle.authorizer.specs.Users.{Accounts}
use Rattle.config_change.specs.Renumbered.{IsRefused, IsRenumbered}
use Rattle.config_change.specs.declared.fault.RenumberFault.{RenumberFault}
use Rattle.config_change.specs.declared.fault.RenumberFault.TheVariants as fault
use Rattle.server_config.specs.declared.config.Config.{Config}
use Rattle.machine_parts.specs.Following.{AreWords, IsNumberedAs, IsUnnumbered}
use Rattle.machine_parts.specs.Names.{HasNumbers}
use Rattle.machine_parts.specs.declared.known.Known.{Known}

pub are-words : {Y : Type 0} (text : List ℕ) (said : Option (String Y)) → IfSome said (λ words. string_bytes words ≡ text) → AreWords text (option_map string_bytes said)
are-words text None is = tt
are-words text (Some words) is = is

-- ---- the numbers of names

pub numbered-by : (config : Config) (known : Known) (new : Config) (earlier : Accounts) (names : List (List ℕ)) → HasNumbers known.users.items known.next earlier
    → IsRenumbered config earlier names new → names ≡ map string_bytes known.groups.items → IsNumberedAs config known new
numbered-by config known new earlier names has is same =
    (earlier, has, subst (λ (groups : List (List ℕ)). IsRenumbered config earlier groups new) same is)

pub unnumbered-by : (config : Config) (known : Known) (earlier : Accounts) (names : List (List ℕ)) (reason : RenumberFault) (said : Option (List ℕ)) → HasNumbers known.users.items known.next earlier
    → IsRefused config earlier names reason → names ≡ map string_bytes known.groups.items → reason ≢ fault.Memory → IsUnnumbered config known said
unnumbered-by config known earlier names reason None has is same other = tt
unnumbered-by config known earlier names reason (Some words) has is same other =
    (earlier, has, (reason, other, subst (λ (groups : List (List ℕ)). IsRefused config earlier groups reason) same is))
