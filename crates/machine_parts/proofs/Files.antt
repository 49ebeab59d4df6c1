-- Files at paths.
use Rattle.std.proofs.Common.{◌≡◌, ℕ, Option, Some, None}
use Rattle.std.specs.Prelude.{String, string_bytes}
use Rattle.machine_parts.specs.Starting.{IsFileIf}
use Rattle.machine_parts.specs.declared.status_file.StatusFile.{StatusFile}

pub file-if : {M Y Z : Type 0} (mode : ℕ) (paths : Option (String Y × String Z)) (path : String Y) (beside : String Z) (file : StatusFile M) → paths ≡ Some (path, beside)
    → string_bytes file.path ≡ string_bytes path → string_bytes file.beside ≡ string_bytes beside → file.mode ≡ mode → IsFileIf mode paths (Some file)
file-if mode None path beside file is at by has = cc
file-if mode (Some both) path beside file is at by has = record {
  path = cc;
  beside = cc;
  mode_is = has;
}
