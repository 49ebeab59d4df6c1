-- The effect of the calls of the real machine, as far as a program sees it. That on files is not
-- seen.
use Rattle.std.specs.Prelude.{ℤ, ◌≡◌, ◌≢◌, List, ℕ, Some, Ok, Err, pos, negsuc}
use Rattle.std.specs.IoError.{raw_os_error}
use Rattle.std.specs.declared.io.Error.{Error}
use Rattle.libc.specs.declared.TheConstants.{ENOENT}
use Rattle.os.specs.Paths.{FitsCString}
use Rattle.folder_store.specs.MachineCalls.{MachineCall}
use Rattle.folder_store.specs.MachineCalls.MachineCall.{Enters, Reads, Closes}
use Rattle.folder_store.specs.declared.files_machine.OpenDirectory.{OpenDirectory}

-- the path is one that the C library takes: at most 4,095 octets, none of them NUL
abbrev pub IsTaken : List ℕ → Type 0
IsTaken path = ¬ (FitsCString path → ⊥)

-- A directory is opened only by a path that is taken, under the number that the machine returned.
-- Of a close that failed, and of a read of names that failed, the machine gave the number of the
-- error; that a directory is gone ends its names.
abbrev pub ShowsCall : {F : Type 0} → MachineCall F OpenDirectory → Type 0
ShowsCall (Enters place (Ok directory)) = IsTaken place × (directory.number ≢ negsuc 0)
ShowsCall (Closes file (Err error)) = (code : ℤ) × (raw_os_error error ≡ Some code)
ShowsCall (Reads directory (Err error)) =
    (code : ℤ) × (raw_os_error error ≡ Some code) × (code ≢ pos 0) × (code ≢ ENOENT)
ShowsCall _ = Unit {0}

-- the machine's handle stays
abbrev pub MachineShows : {M F : Type 0} → M → MachineCall F OpenDirectory → M → Type 0
MachineShows old call new = (new ≡ old) × ShowsCall call
