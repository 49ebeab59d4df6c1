-- Folders that cannot be opened.
use Rattle.std.specs.Prelude.{◌≡◌, ◌⊎◌, ⊤}
use Rattle.virtual_tree.specs.declared.fault.StoreFault.{StoreFault}
use Rattle.virtual_tree.specs.declared.fault.StoreFault.TheVariants.{NotFound, NotDir, Device}
use Rattle.ftp_server.specs.declared.fault.FtpServerFault.{FtpServerFault}
use Rattle.ftp_server.specs.declared.fault.FtpServerFault.TheVariants.{Folder, Memory}

-- it is not there, is no directory, or the machine reports an error; or memory ran out
abbrev pub IsFolderFault : FtpServerFault → Type 0
IsFolderFault (Folder fault error) = (fault ≡ NotFound) ⊎ (fault ≡ NotDir) ⊎ (fault ≡ Device)
IsFolderFault Memory = ⊤
IsFolderFault fault = ⊥
