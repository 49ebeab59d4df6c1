-- The order in which asks become leaves.
use Rattle.std.specs.Prelude.{ℕ, ◌+◌, ◌-◌, ◌*◌, ◌^◌, Bool, ◌&&◌, nat_eq, if◌then◌else◌, min, List, [], ◌∷◌, slice_index_or, slice_set}
use Rattle.line_rates.specs.Names.{same_way}
use Rattle.line_rates.specs.TickTree.{Asker, ask_in, lane_in}
use Rattle.line_rates.specs.declared.share_by.ShareBy.{ShareBy}
use Rattle.line_rates.specs.declared.share_by.ShareBy.TheVariants as share

-- the number of the lane of an ask, and of several with the same the lower lane first: lanes are
-- below 64
abbrev pub turn_of : List ℕ → Asker → ℕ
turn_of had x = slice_index_or had (lane_in x) 0 * 64 + lane_in x

-- asks of one user in one way
abbrev pub is_same_user : Asker → Asker → Bool
is_same_user x y =
    same_way (ask_in x).way (ask_in y).way && nat_eq (ask_in x).user (ask_in y).user

-- the numbers of the lanes of a user's asks together, added to one
abbrev pub user_had_from : ℕ → List ℕ → Asker → List Asker → ℕ
user_had_from n had x [] = n
user_had_from n had x (y ∷ ys) = user_had_from
    (if is_same_user x y then min (n + slice_index_or had (lane_in y) 0) (2 ^ 64 - 1) else n) had x
    ys

-- the numbers of lanes, in which the lane of each of these asks has that of its user
abbrev pub users_had_from : List ℕ → List ℕ → List Asker → List Asker → List ℕ
users_had_from ns had asks [] = ns
users_had_from ns had asks (x ∷ xs) =
    users_had_from (slice_set ns (lane_in x) (user_had_from 0 had x asks)) had asks xs

-- the numbers by which the asks have their turns: those of their lanes among sessions, and those of
-- their users among users, so that odd octets go round among these
abbrev pub turns_by : ShareBy → List Asker → List ℕ → List ℕ
turns_by share.Sessions asks had = had
turns_by share.Users asks had = users_had_from had had asks asks
