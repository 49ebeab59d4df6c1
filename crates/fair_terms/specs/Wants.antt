-- The wants of the asks of one user together.
use Rattle.std.specs.Prelude.{◌≡◌, ℕ, ◌<◌, Bool, ◌&&◌, nat_eq, if◌then◌else◌, List, sum_by}
use Rattle.limit_tree.specs.declared.bounds.TheConstants.{MAX_WANT}
use Rattle.line_rates.specs.declared.ask.Ask.{Ask}
use Rattle.line_rates.specs.declared.share_by.ShareBy.{ShareBy}
use Rattle.line_rates.specs.declared.share_by.ShareBy.TheVariants as share
use Rattle.line_rates.specs.Names.{same_way}

-- ask b is of the user of ask a, in its way
abbrev pub is_same_user : Ask → Ask → Bool
is_same_user a b = same_way b.way a.way && nat_eq b.user a.user

-- the octets that the asks of the user of `a` want together, in its way
abbrev pub user_want : Ask → List Ask → ℕ
user_want a asks = sum_by (λ b. if is_same_user a b then b.want else 0) asks

-- The line is shared among users, and the asks of one of them, in one way, want more octets than
-- one leaf may.
pub record HasLargeUser (by : ShareBy) (asks : List Ask) : Type 0 where
  pub among : by ≡ share.Users
  pub ask : Ask
  pub large : MAX_WANT < user_want ask asks
