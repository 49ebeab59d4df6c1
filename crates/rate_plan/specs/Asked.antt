-- The asks of transfers that want all they can get. Among users, the transfers of a user in one way
-- want together what a transfer may.
use Rattle.std.specs.Prelude.{◌≡◌, ℕ, ◌/◌, Bool, ◌&&◌, nat_eq, max, List, count_by, length, slice_get, Some}
use Rattle.limit_tree.specs.declared.bounds.TheConstants.{MAX_WANT}
use Rattle.line_rates.specs.Names.{same_way}
use Rattle.line_rates.specs.TickTree.{Asker}
use Rattle.line_rates.specs.declared.share_by.ShareBy.{ShareBy}
use Rattle.line_rates.specs.declared.share_by.ShareBy.TheVariants as share
use Rattle.rate_plan.specs.declared.asks.Transfer.{Transfer}

abbrev pub is_same_user : Transfer → Transfer → Bool
is_same_user t u = same_way t.way u.way && nat_eq t.user u.user

-- the want of a transfer, among these
abbrev pub want_by : ShareBy → List Transfer → Transfer → ℕ
want_by share.Sessions ts t = MAX_WANT
want_by share.Users ts t = MAX_WANT / max 1 (count_by (is_same_user t) ts)

-- the ask of a transfer: its place is its lane, and the number of its session
abbrev pub ask_at : ShareBy → List Transfer → ℕ → Transfer → Asker
ask_at by ts place t =
    (place, record { user = t.user; session = place; way = t.way; want = want_by by ts t })

abbrev pub IsAskOf : ShareBy → List Transfer → ℕ → Asker → Type 0
IsAskOf by ts i a = (t : Transfer) × (slice_get ts i ≡ Some t) × (a ≡ ask_at by ts i t)

-- one ask for each transfer, in their order
pub record AreAsked (by : ShareBy) (transfers : List Transfer) (asks : List Asker) : Type 0 where
  pub count : length asks ≡ length transfers
  pub each : (i : ℕ) (a : Asker) → slice_get asks i ≡ Some a → IsAskOf by transfers i a
