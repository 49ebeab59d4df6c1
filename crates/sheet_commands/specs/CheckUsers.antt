-- Verdicts on the grants of a sheet, among users or without.
use Rattle.std.specs.Prelude.{◌≡◌, ℕ, Bool, true, false, List, Option, Some, None, codes, length}
use Rattle.depth_users.specs.Owners.{AreOwners}
use Rattle.grant_certificate.specs.Flaws.{IsFirstFlaw}
use Rattle.grant_certificate.specs.UserRanges.{tells_within}
use Rattle.grant_certificate.specs.Users.{IsBackedByUsers, IsBestByUsers}
use Rattle.grant_certificate.specs.declared.flaw.Verdict.{Verdict}
use Rattle.grant_certificate.specs.declared.flaw.Verdict.TheVariants as told
use Rattle.limit_tree.specs.Outline.{limits}
use Rattle.limit_tree.specs.Sharing.{IsWithin}
use Rattle.limit_tree.specs.declared.place.Place.{Place}
use Rattle.sheet_text.specs.Views.{SheetValue, IsSheetOf}
use Rattle.sheet_commands.specs.Checking.{IsCheckOf, verdict_text}
use Rattle.sheet_commands.specs.Grants.{grants_fault, grants_in, entries_in}
use Rattle.sheet_commands.specs.declared.sheet_verdict.SheetVerdict.{SheetVerdict}
use Rattle.sheet_commands.specs.declared.sheet_verdict.SheetVerdict.TheVariants.{Yes, No, NotBestByUsers}

-- the verdict on the grants of a sheet without users
abbrev pub plain : Verdict → SheetVerdict
plain told.Yes = Yes
plain (told.No flaw) = No flaw

-- the line of a verdict; that of grants that are not best among users has a flaw of its own
abbrev pub sheet_verdict_text : SheetValue → List ℕ → SheetVerdict → List ℕ
sheet_verdict_text sheet g Yes = verdict_text sheet g told.Yes
sheet_verdict_text sheet g (No flaw) = verdict_text sheet g (told.No flaw)
sheet_verdict_text sheet g NotBestByUsers = codes "no 9 NotBestByUsers\n"

-- Some certificate backs the grants among the users of the depth, and they are best among them.
pub record IsBestAt (outline : List Place) (depth : ℕ) (g : List ℕ) : Type 0 where
  pub owners : List ℕ
  pub are_owners : AreOwners outline depth owners
  pub entries : List (Option ℕ)
  pub backed : IsBackedByUsers (limits outline) owners g entries
  pub best : IsBestByUsers (limits outline) (length outline) owners g

-- No certificate backs the grants among the users of the depth.
pub record IsUnbackedAt (outline : List Place) (depth : ℕ) (g : List ℕ) : Type 0 where
  pub owners : List ℕ
  pub are_owners : AreOwners outline depth owners
  pub unbacked : (entries : List (Option ℕ)) → IsBackedByUsers (limits outline) owners g entries
      → ⊥

abbrev pub IsJudgedAt : List Place → ℕ → List ℕ → Bool → Type 0
IsJudgedAt outline depth g true = IsBestAt outline depth g
IsJudgedAt outline depth g false = IsUnbackedAt outline depth g

-- Yes if the grants are within the limits and backed among the users of the depth; a flaw of grants
-- that are not within the limits as without users; otherwise grants that no certificate backs.
abbrev pub IsVerdictAt : List Place → ℕ → List ℕ → List (Option ℕ) → SheetVerdict → Type 0
IsVerdictAt outline depth g c Yes = IsWithin (limits outline) g × IsBestAt outline depth g
IsVerdictAt outline depth g c (No flaw) =
    (tells_within (told.No flaw) ≡ false) × IsFirstFlaw (limits outline) g c flaw
IsVerdictAt outline depth g c NotBestByUsers =
    IsWithin (limits outline) g × IsUnbackedAt outline depth g

-- The verdict on the grants of one text within the sheet of another, among the users of a depth,
-- and its line.
pub record IsCheckAt (depth : ℕ) (sheet_text grants_text : List ℕ) (verdict : SheetVerdict)
    (printed : List ℕ) : Type 0 where
  pub sheet : SheetValue
  pub is_sheet : IsSheetOf sheet_text sheet
  pub sound : grants_fault sheet grants_text ≡ None
  pub judged : IsVerdictAt sheet.outline depth (grants_in sheet grants_text)
      (entries_in sheet grants_text) verdict
  pub prints : printed ≡ sheet_verdict_text sheet (grants_in sheet grants_text) verdict

-- the same among the users of a depth, or without users
abbrev pub IsCheckBy : Option ℕ → List ℕ → List ℕ → SheetVerdict → List ℕ → Type 0
IsCheckBy None sheet_text grants_text Yes printed =
    IsCheckOf sheet_text grants_text told.Yes printed
IsCheckBy None sheet_text grants_text (No flaw) printed =
    IsCheckOf sheet_text grants_text (told.No flaw) printed
IsCheckBy None sheet_text grants_text NotBestByUsers printed = ⊥
IsCheckBy (Some depth) sheet_text grants_text verdict printed =
    IsCheckAt depth sheet_text grants_text verdict printed
