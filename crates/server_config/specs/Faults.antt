-- The names of faults.
use Rattle.std.specs.Prelude.{ℕ, List, codes}
use Rattle.config_file.specs.declared.fault.Problem.{Problem}
use Rattle.config_file.specs.declared.fault.Problem.TheVariants.{Unknown, Missing, WrongKind, OutOfRange}
use Rattle.server_config.specs.declared.fault.ConfigFault.{ConfigFault}
use Rattle.server_config.specs.declared.fault.ConfigFault.TheVariants.{NotToml, Key, BadGroup, BadUser, BadStore, BadDate, TooDeep, TooLong, Memory}

abbrev pub name_of_problem : Problem → List ℕ
name_of_problem Unknown = codes "UnknownKey"
name_of_problem (Missing kind) = codes "Missing"
name_of_problem (WrongKind kind) = codes "WrongKind"
name_of_problem (OutOfRange kind) = codes "OutOfRange"

abbrev pub name_of : ConfigFault → List ℕ
name_of (NotToml line error) = codes "NotToml"
name_of (Key header key problem) = name_of_problem problem
name_of (BadGroup header problem) = codes "BadGroup"
name_of (BadUser header problem) = codes "BadUser"
name_of (BadStore header problem) = codes "BadStore"
name_of BadDate = codes "BadDate"
name_of TooDeep = codes "TooDeep"
name_of TooLong = codes "TooLong"
name_of Memory = codes "Memory"
