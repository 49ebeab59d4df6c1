-- How deep a status nests.
use Rattle.std.proofs.Common.{◌≤◌, ℕ, Bool, true, false, cond, List, [], ◌∷◌, Option, Some, None, String, Global, arith, map, nat_eq}
use Rattle.std.specs.List.{AllByRecursion}
use Rattle.serde_json.specs.Data.{Data, Members, no_members, member, depth, items_depth, members_depth, null, number, object, unsigned}
use Rattle.serde_json.specs.View.{items_of}
use Rattle.server_status.specs.declared.status.AccountStatus.{AccountStatus}
use Rattle.server_status.specs.declared.status.GroupStatus.{GroupStatus}
use Rattle.server_status.specs.declared.status.SessionStatus.{SessionStatus}
use Rattle.server_status.specs.declared.status.Status.{Status}
use Rattle.server_status.specs.declared.status.TransferStatus.{TransferStatus}
use Rattle.server_status.specs.StatusData.{account_data, count_if_data, group_data, line_data, rate_data, session_data, status_data, text_if_data, transfer_data}

abbrev within : Data → Members
within (object ms) = ms
within _ = no_members

abbrev Shallow : ℕ → Members → Type 0
Shallow n no_members = Unit {0}
Shallow n (member k d ms) = (depth d ≤ n) × Shallow n ms

shallow : (n : ℕ) (ms : Members) → Shallow n ms → members_depth ms ≤ n
shallow n no_members are = omega arith
shallow n (member k d ms) are = let more = shallow n ms are.1 in omega (arith, are.0, more)

rate_flat : (rate : ℕ) → depth (rate_data rate) ≤ 0
rate_flat rate = go (nat_eq rate 0)
  where
    go : (b : Bool) → depth (cond b null (number (unsigned rate))) ≤ 0
    go true = omega arith
    go false = omega arith

rate_low : (rate : ℕ) → depth (rate_data rate) ≤ 1
rate_low rate = omega (arith, rate_flat rate)

text_low : (text : Option (String Global)) → depth (text_if_data text) ≤ 1
text_low None = omega arith
text_low (Some text) = omega arith

count_low : (count : Option ℕ) → depth (count_if_data count) ≤ 1
count_low None = omega arith
count_low (Some n) = omega arith

low : 0 ≤ 1
low = omega arith

one : 1 ≤ 1
one = omega arith

group_depth : (group : GroupStatus) → depth (group_data group) ≤ 1
group_depth group = omega (arith, rate_flat group.down, rate_flat group.up, rate_flat group.guaranteed_down, rate_flat group.guaranteed_up)

session_depth : (s : SessionStatus) → depth (session_data s) ≤ 2
session_depth s =
    let are = shallow 1 (within (session_data s))
    (low, (low, (text_low s.group, (rate_low s.guaranteed_down, (rate_low s.guaranteed_up, (low, (low, (text_low s.user, tt)))))))) in
    omega (arith, are)

account_depth : (a : AccountStatus) → depth (account_data a) ≤ 2
account_depth a =
    let are = shallow 1 (within (account_data a))
    (low, (low, (text_low a.group, (low, (low, (low, tt)))))) in
    omega (arith, are)

transfer_depth : (t : TransferStatus) → depth (transfer_data t) ≤ 2
transfer_depth t =
    let are = shallow 1 (within (transfer_data t))
    (low, (low, (low, (text_low t.group, (rate_low t.guaranteed, (one, (low, (text_low t.path, (low, (low, (rate_low t.session_rate, (count_low t.size, (low, (rate_low t.user_rate, (low, tt))))))))))))))) in
    omega (arith, are)

items_low : (n : ℕ) (ds : List Data) → AllByRecursion (λ d. depth d ≤ n) ds → items_depth (items_of ds) ≤ n
items_low n [] are = omega arith
items_low n (d ∷ ds) are = let more = items_low n ds are.1 in omega (arith, are.0, more)

groups_low : (groups : List GroupStatus) → AllByRecursion (λ d. depth d ≤ 2) (map group_data groups)
groups_low [] = tt
groups_low (g ∷ gs) = (omega (arith, group_depth g), groups_low gs)

transfers_low : (transfers : List TransferStatus) → AllByRecursion (λ d. depth d ≤ 2) (map transfer_data transfers)
transfers_low [] = tt
transfers_low (t ∷ ts) = (transfer_depth t, transfers_low ts)

sessions_low : (sessions : List SessionStatus) → AllByRecursion (λ d. depth d ≤ 2) (map session_data sessions)
sessions_low [] = tt
sessions_low (s ∷ ss) = (session_depth s, sessions_low ss)

accounts_low : (accounts : List AccountStatus) → AllByRecursion (λ d. depth d ≤ 2) (map account_data accounts)
accounts_low [] = tt
accounts_low (a ∷ xs) = (account_depth a, accounts_low xs)

rate_below : (rate : ℕ) → depth (rate_data rate) ≤ 3
rate_below rate = omega (arith, rate_flat rate)

line_low : (s : Status) → depth (line_data s.line) ≤ 3
line_low s = omega (arith, rate_flat s.line.both, rate_flat s.line.down, rate_flat s.line.up)

zero_low : 0 ≤ 3
zero_low = omega arith

one_low : 1 ≤ 3
one_low = omega arith

pub status_depth : (s : Status) → depth (status_data s) ≤ 127
status_depth s =
    let groups = items_low 2 (map group_data s.groups.items) (groups_low s.groups.items) in
    let transfers = items_low 2 (map transfer_data s.transfers.items) (transfers_low s.transfers.items) in
    let sessions = items_low 2 (map session_data s.sessions_now.items) (sessions_low s.sessions_now.items) in
    let accounts = items_low 2 (map account_data s.accounts.items) (accounts_low s.accounts.items) in
    let are = shallow 3 (within (status_data s))
    (omega (arith, accounts), (zero_low, (zero_low, (zero_low, (one_low, (zero_low, (omega (arith, groups), (rate_below s.guaranteed_down, (rate_below s.guaranteed_up, (one_low, (zero_low, (zero_low, (line_low s, (zero_low, (zero_low, (zero_low, (zero_low, (zero_low, (zero_low, (zero_low, (zero_low, (omega (arith, sessions), (zero_low, (zero_low, (omega (arith, transfers), (zero_low, (zero_low, (zero_low, (zero_low, tt))))))))))))))))))))))))))))) in
    omega (arith, are)
