-- The files that a server's owner states, and those at their paths.
use Rattle.std.specs.Prelude.{ℕ, ◌++◌, List, [], ◌∷◌, Option, Some, None, Result, Ok, Err, cond, option_map, string_bytes, String}
use Rattle.std.specs.IoError.{error_kind}
use Rattle.std.specs.Option.{option_to_list}
use Rattle.std.specs.declared.io.Error.{Error}
use Rattle.ftpd_program.specs.declared.paths.FoundFile.{FoundFile}
use Rattle.ftpd_program.specs.declared.paths.FoundFile.TheVariants as found
use Rattle.machine_parts.specs.Answers.{is_absent}
use Rattle.machine_parts.specs.declared.answers.FileKind.{FileKind}
use Rattle.machine_parts.specs.declared.answers.FileKind.TheVariants.{File, Device, Other}
use Rattle.machine_parts.specs.declared.asked.AskedService.{AskedService}

-- a path and that of the new file beside it, if they are stated
abbrev pub paths_of_both : {Y Z : Type 0} → Option (String Y × String Z) → List (List ℕ)
paths_of_both None = []
paths_of_both (Some both) = string_bytes both.0 ∷ string_bytes both.1 ∷ []

abbrev pub path_of : {Y : Type 0} → Option (String Y) → List (List ℕ)
path_of path = option_to_list (option_map string_bytes path)

-- The paths of the files of a service, each of which has to be one of its own: the configuration,
-- the signs, and what is written, with the new files beside.
abbrev pub stated_paths : AskedService → List (List ℕ)
stated_paths service =
    string_bytes service.read.path ∷ path_of service.signs.stop
    ++ path_of service.signs.drain ++ path_of service.signs.reload
    ++ path_of service.signs.end ++ path_of service.written.ready
    ++ path_of service.written.log ++ paths_of_both service.written.status
    ++ paths_of_both service.written.running

-- a file that is found is of the kind
abbrev pub IsFound : FileKind → FoundFile → Type 0
IsFound File (found.File octets) = Unit {0}
IsFound Device found.Device = Unit {0}
IsFound Other found.Other = Unit {0}
IsFound _ _ = ⊥

-- nothing, if the machine's reason says so; otherwise the reason
abbrev pub found_without : Error → Result FoundFile Error
found_without reason = cond (is_absent (error_kind reason)) (Ok found.Nothing) (Err reason)
