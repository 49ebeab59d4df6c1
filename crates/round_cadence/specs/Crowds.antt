-- The asks of a round that share a part of the line, on which the intervals of rows depend.
use Rattle.std.specs.Prelude.{ℕ, Bool, ◌&&◌, nat_eq, List}
use Rattle.std.specs.List.{count_by}
use Rattle.line_rates.specs.declared.ask.Ask.{Ask}
use Rattle.line_rates.specs.declared.share_by.ShareBy.{ShareBy}
use Rattle.line_rates.specs.declared.share_by.ShareBy.TheVariants as share
use Rattle.line_rates.specs.Names.{same_way}

-- asks of the same user and direction
abbrev pub is_beside : Ask → Ask → Bool
is_beside a b = same_way a.way b.way && nat_eq a.user b.user

-- the number of asks that share the part of one of them: among users, those of the same user and
-- direction
abbrev pub crowd_of : ShareBy → List Ask → Ask → ℕ
crowd_of share.Sessions asks a = 1
crowd_of share.Users asks a = count_by (is_beside a) asks
