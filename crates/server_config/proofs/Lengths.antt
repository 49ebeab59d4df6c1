-- There is a row for each user.
use Rattle.std.proofs.Common.{◌≡◌, ℕ, ◌+◌, suc, List, [], ◌∷◌, length, refl, ap, ◌∙◌}
use Rattle.server_config.specs.RateRows.{numbered, user_row, user_rows}
use Rattle.config_file.specs.declared.stated.GroupTable.{GroupTable}
use Rattle.config_file.specs.declared.stated.UserTable.{UserTable}
use Rattle.line_rates.specs.declared.row.UserRate.{UserRate}

numbered_long : (groups : List GroupTable) (k : ℕ) (users : List UserTable) → length (numbered (user_row groups) k users) ≡ length users
numbered_long groups k [] = refl
numbered_long groups k (u ∷ users) = ap suc (numbered_long groups (k + 1) users)

pub rows_long : (groups : List GroupTable) (users : List UserTable) (rows : List UserRate) → rows ≡ user_rows groups users → length rows ≡ length users
rows_long groups users rows are = ap length are ∙ numbered_long groups 0 users
