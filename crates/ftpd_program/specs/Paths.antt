-- The paths that a server's owner states, and what is there.
use Rattle.std.specs.Prelude.{ℕ, Bool, true, false, ◌&&◌, ◌||◌, nat_eq, if◌then◌else◌, List, [], ◌∷◌, codes, bytes_eq, Option, Some, None}
use Rattle.std.specs.List.{list_any, starts_with}
use Rattle.ftpd_program.specs.declared.paths.FileIdentity.{FileIdentity}
use Rattle.ftpd_program.specs.declared.paths.FoundFile.{FoundFile}
use Rattle.ftpd_program.specs.declared.paths.FoundFile.TheVariants.{Nothing, File, Device, Other}
use Rattle.ftpd_program.specs.declared.paths.StatedPath.{StatedPath}

abbrev pub is_same_there : Option FileIdentity → Option FileIdentity → Bool → Bool
is_same_there (Some one) (Some other) text =
    nat_eq one.device other.device && nat_eq one.inode other.inode
is_same_there (Some one) None text = text
is_same_there None there text = text

-- Two paths are those of one file: by its numbers if both are there, otherwise by their texts.
abbrev pub is_same : StatedPath → StatedPath → Bool
is_same one other = is_same_there one.there other.there (bytes_eq one.path.now other.path.now)

abbrev pub has_twin : StatedPath → List StatedPath → Bool
has_twin one others = list_any (λ other. is_same one other) others

-- the first path that is also that of a later one
abbrev pub first_twin : List StatedPath → Option (List ℕ)
first_twin [] = None
first_twin (one ∷ others) =
    if has_twin one others then Some one.path.now else first_twin others

abbrev is_nil : List ℕ → Bool
is_nil [] = true
is_nil (octet ∷ octets) = false

abbrev begins : List ℕ → List ℕ → Bool
begins octets front = starts_with nat_eq octets front

-- an object with a member
abbrev pub begins_status : List ℕ → Bool
begins_status octets = begins octets (123 ∷ 34 ∷ [])

-- the short name of a day, and a blank
abbrev pub begins_log : List ℕ → Bool
begins_log octets =
    begins octets (codes "Mon ") || begins octets (codes "Tue ")
    || begins octets (codes "Wed ") || begins octets (codes "Thu ")
    || begins octets (codes "Fri ") || begins octets (codes "Sat ")
    || begins octets (codes "Sun ")

-- nothing, an empty file, or an earlier status
abbrev pub is_free_for_status : FoundFile → Bool
is_free_for_status Nothing = true
is_free_for_status (File octets) = is_nil octets.now || begins_status octets.now
is_free_for_status Device = false
is_free_for_status Other = false

-- nothing, an empty file, an earlier log, or a device that takes characters
abbrev pub is_free_for_log : FoundFile → Bool
is_free_for_log Nothing = true
is_free_for_log (File octets) = is_nil octets.now || begins_log octets.now
is_free_for_log Device = true
is_free_for_log Other = false
