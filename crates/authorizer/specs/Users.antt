-- The users of a server, and their permissions by path.
use Rattle.std.specs.Prelude.{◌≡◌, ◌⊎◌, ◌↔◌, ℕ, zero, suc, ◌≤◌, ◌+◌, ◌-◌, Bool, true, false, cond, ◌||◌, nat_le, IsTrue, List, Option, Some, None, unwrap_or, length, take}
use Rattle.std.specs.Cmp.Lexicographic.{slice_cmp}
use Rattle.std.specs.FinMap as map
use Rattle.std.specs.Ordering.{nat_cmp}
use Rattle.virtual_path.specs.Path.{Path, path_text}
use Rattle.ftp_terms.specs.Letters.{holds}
use Rattle.ftp_terms.specs.declared.letters.Letter.{Letter}
use Rattle.ftp_terms.specs.declared.letters.Letters.{Letters}
use Rattle.authorizer.specs.declared.account.Rule.{Rule}

-- a user's overrides, by the texts of their paths
abbrev pub Overrides : Type 0
Overrides = map.FinMap (slice_cmp nat_cmp) Rule

pub record User : Type 0 where
  pub number : ℕ
  pub password : List ℕ
  pub home : Path
  pub letters : Letters
  pub login : List ℕ
  pub quit : List ℕ
  pub overrides : Overrides
  pub group : Option ℕ

-- the users, by their names
abbrev pub Users : Type 0
Users = map.FinMap (slice_cmp nat_cmp) User

-- the users, and the number of the next one to be added
pub record Accounts : Type 0 where
  pub users : Users
  pub next : ℕ

-- the path `up` names above a path
abbrev pub above : ℕ → Path → Path
above up path = take (length path - up) path

-- an override covers its path and the entries directly in it; a recursive one covers everything
-- beneath its path
abbrev pub Covers : Rule → ℕ → Type 0
Covers rule up = (rule.recursive ≡ true) ⊎ (up ≤ 1)

-- there is an override `up` names above a path, and it covers the path
pub record IsCovered (overrides : Overrides) (path : Path) (up : ℕ) (rule : Rule) : Type 0 where
  pub within : up ≤ length path
  pub kept : map.get overrides (path_text (above up path)) ≡ Some rule
  pub covers : Covers rule up

-- the deepest of the overrides that cover a path
pub record IsDeepest (overrides : Overrides) (path : Path) (up : ℕ) (rule : Rule) : Type 0 where
  pub covered : IsCovered overrides path up rule
  pub deepest : (other : ℕ) (next : Rule) → IsCovered overrides path other next → up ≤ other

-- the letters that decide for a user at a path: those of the deepest override that covers it,
-- otherwise the user's own
abbrev pub DecidesAt : User → Path → Letters → Type 0
DecidesAt user path letters =
    ((up : ℕ) × (rule : Rule) × IsDeepest user.overrides path up rule × (letters ≡ rule.letters))
    ⊎ (((up : ℕ) (rule : Rule) → IsCovered user.overrides path up rule → ⊥)
    × (letters ≡ user.letters))

abbrev pub Allowed : Users → List ℕ → Letter → Path → Type 0
Allowed users name letter path =
    (user : User) × (letters : Letters) × (map.get users name ≡ Some user)
    × DecidesAt user path letters × (holds letters letter ≡ true)

-- ---- the same as a function

abbrev pub covers : Rule → ℕ → Bool
covers rule up = rule.recursive || nat_le up 1

-- the letters of an override `up` names above a path, if it covers the path
abbrev pub if_covers : ℕ → Option Rule → Option Letters
if_covers up None = None
if_covers up (Some rule) = cond (covers rule up) (Some rule.letters) None

abbrev pub letters_above : Overrides → Path → ℕ → Option Letters
letters_above overrides path up = if_covers up (map.get overrides (path_text (above up path)))

abbrev pub first_of : Option Letters → Option Letters → Option Letters
first_of (Some letters) others = Some letters
first_of None others = others

-- the first covering override found `up` names above a path, or up to `left` names further up
abbrev pub first_above : Overrides → Path → ℕ → ℕ → Option Letters
first_above overrides path up zero = letters_above overrides path up
first_above overrides path up (suc left) =
    first_of (letters_above overrides path up) (first_above overrides path (up + 1) left)

-- the letters of a user at a path
abbrev pub letters_at : User → Path → Letters
letters_at user path = unwrap_or (first_above user.overrides path 0 (length path)) user.letters

abbrev pub holds_at : Option User → Letter → Path → Bool
holds_at None letter path = false
holds_at (Some user) letter path = holds (letters_at user path) letter

abbrev pub allowed : Users → List ℕ → Letter → Path → Bool
allowed users name letter path = holds_at (map.get users name) letter path

abbrev pub AllowedByTheDeepest : Type 0
AllowedByTheDeepest =
    (users : Users) (name : List ℕ) (letter : Letter) (path : Path)
    → IsTrue (allowed users name letter path) ↔ Allowed users name letter path
