-- The refusals of a line, in their order, with their numbers in docs/session.md: the first whose
-- condition holds is the reply.
use Rattle.std.specs.Prelude.{ℕ, Bool, not, ◌&&◌, cond, List, [], ◌∷◌, Option, Some, None, Result, Ok, Err, is_none, nat_lt, option_map, unwrap_or}
use Rattle.std.specs.FinMap as map
use Rattle.ftp_terms.specs.declared.letters.Letter.{Letter}
use Rattle.authorizer.specs.Users.{Users, allowed}
use Rattle.virtual_path.specs.Path.{Path, resolved, joined}
use Rattle.virtual_path.specs.declared.fault.PathFault.{PathFault}
use Rattle.session_table.specs.declared.refusals.Refusal.{Refusal}
use Rattle.session_table.specs.declared.refusals.Refusal.TheVariants as refusal
use Rattle.session_table.specs.declared.rules.Conditions.{Conditions}
use Rattle.session_table.specs.Views.{View, is_inside}

-- a location: the path as the user sees it, and the path in the store
pub record Location : Type 0 where
  pub path : Path
  pub stored : Path

-- the first refusal whose condition holds
abbrev pub first_refusal : List (Bool × Refusal) → Option Refusal
first_refusal [] = None
first_refusal (row ∷ rows) = cond row.0 (Some row.1) (first_refusal rows)

-- a refusal, or otherwise this result
abbrev pub unless_refused : {X : Type 0} → Option Refusal → Result X Refusal → Result X Refusal
unless_refused None otherwise = otherwise
unless_refused (Some why) otherwise = Err why

-- the home of a user; the root for a removed user, who has no letter
abbrev pub home_of : Users → List ℕ → Path
home_of users name = unwrap_or (option_map (λ user. user.home) (map.get users name)) []

abbrev pub stored_at : Path → Result Path PathFault → Result Location PathFault
stored_at path (Ok stored) = Ok (record { path = path; stored = stored })
stored_at path (Err fault) = Err fault

abbrev pub from_home : Path → Result Path PathFault → Result Location PathFault
from_home home (Ok path) = stored_at path (joined home path)
from_home home (Err fault) = Err fault

-- the location of a text: the user's path, relative to the current directory, and the home followed
-- by it
abbrev pub located : Users → View → List ℕ → Result Location PathFault
located users view text = from_home (home_of users view.name) (resolved view.cwd text)

-- 2 to 4: before the path is resolved
abbrev pub at_once : View → Conditions → List (Bool × Refusal)
at_once view conditions =
    (conditions.needs_login && not (is_inside view.stage), refusal.LogInFirst)
    ∷ (conditions.needs_source && is_none view.source, refusal.NoSource)
    ∷ (conditions.needs_no_offset && nat_lt 0 view.offset, refusal.OffsetBeforeAppend)
    ∷ (conditions.needs_plain && view.only_extended, refusal.OnlyExtended)
    ∷ []

-- 6 and 7: at the location
abbrev pub at_location : Users → View → Conditions → Letter → Path → List (Bool × Refusal)
at_location users view conditions letter path =
    (not (allowed users view.name letter path), refusal.NotPermitted)
    ∷ (conditions.moves_data && not view.prepared, refusal.NothingPrepared)
    ∷ []

-- 5 to 7: the path, and the first refusal at its location
abbrev pub judged_at : Users → View → Conditions → Letter → Result Location PathFault
    → Result Location Refusal
judged_at users view conditions letter (Err fault) = Err (refusal.Path fault)
judged_at users view conditions letter (Ok location) =
    unless_refused (first_refusal (at_location users view conditions letter location.path))
    (Ok location)
