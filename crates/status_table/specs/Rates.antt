-- Rates: differences of two statuses of a server.
use Rattle.std.specs.Prelude.{◌+◌, ◌-◌, ◌*◌, ◌/◌, ℕ, Bool, List, Option, Some, None, false, true, ◌&&◌, if◌then◌else◌, min, nat_eq, nat_lt, string_bytes}
use Rattle.std.specs.Borrow.{Bor}
use Rattle.std.specs.List.{filter, find, sum_by}
use Rattle.std.specs.Option.{option_map_or}
use Rattle.std.specs.Str.{bytes_eq}
use Rattle.server_status.specs.declared.status.AccountStatus.{AccountStatus}
use Rattle.server_status.specs.declared.status.Direction.{Direction}
use Rattle.server_status.specs.declared.status.Direction.TheVariants.{Down, Up}
use Rattle.server_status.specs.declared.status.HeldRounds.{HeldRounds}
use Rattle.server_status.specs.declared.status.SessionStatus.{SessionStatus}
use Rattle.server_status.specs.declared.status.Status.{Status}
use Rattle.server_status.specs.declared.status.TransferStatus.{TransferStatus}

-- the largest rate that is told
abbrev pub most : ℕ
most = 18446744073709551615

-- octets a second, of octets in a time in microseconds; none in no time
abbrev pub per_second : ℕ → ℕ → ℕ
per_second octets micros = if nat_eq micros 0 then 0 else min (octets * 1000000 / micros) most

-- both are the same transfer: of one session, and begun at one moment
abbrev pub is_same : TransferStatus → TransferStatus → Bool
is_same t other = nat_eq other.session t.session && nat_eq other.begun t.begun

-- the rate of a transfer since its begin
abbrev pub since_begin : Status → TransferStatus → ℕ
since_begin now t = per_second t.granted (now.micros - t.begun)

abbrev pub since_found : Status → Status → TransferStatus → Option TransferStatus → ℕ
since_found past now t None = since_begin now t
since_found past now t (Some then_it) =
    per_second (t.granted - then_it.granted) (now.micros - past.micros)

-- the rate of a transfer since an earlier status, or since its begin if it is not there
abbrev pub since_status : Status → Status → TransferStatus → ℕ
since_status past now t = since_found past now t (find (is_same t) past.transfers.items)

abbrev pub rate_since : Option (Bor Status) → Status → TransferStatus → ℕ
rate_since None now t = since_begin now t
rate_since (Some past) now t = since_status past.now now t

-- rounds of each kind less others
abbrev pub rounds_less : HeldRounds → HeldRounds → HeldRounds
rounds_less now then_it = record {
  server = now.server - then_it.server;
  direction = now.direction - then_it.direction;
  group = now.group - then_it.group;
  user = now.user - then_it.user;
  session = now.session - then_it.session;
  nothing = now.nothing - then_it.nothing;
}

abbrev pub rounds_found : TransferStatus → Option TransferStatus → HeldRounds
rounds_found t None = t.rounds
rounds_found t (Some then_it) = rounds_less t.rounds then_it.rounds

-- the rounds of a transfer since an earlier status, or all of them if it is not there
abbrev pub rounds_since : Option (Bor Status) → TransferStatus → HeldRounds
rounds_since None t = t.rounds
rounds_since (Some past) t = rounds_found t (find (is_same t) past.now.transfers.items)

-- The rank of a transfer among others. It grows as the rate falls, and for one rate with the number
-- of the session. One that waits for a lane has the rank of the highest rate.
abbrev pub rank_of : ℕ → ℕ → ℕ
rank_of rate session = (most - rate) * 18446744073709551616 + session

abbrev pub ranked_rate : Option (Bor Status) → Status → TransferStatus → ℕ
ranked_rate past now t = if t.is_waiting then most else rate_since past now t

abbrev pub rank : Option (Bor Status) → Status → TransferStatus → ℕ
rank past now t = rank_of (ranked_rate past now t) t.session

-- ---- sums

abbrev pub same_way : Direction → Direction → Bool
same_way Down Down = true
same_way Down Up = false
same_way Up Down = false
same_way Up Up = true

abbrev pub is_way : Direction → TransferStatus → Bool
is_way way t = same_way way t.direction

-- the octets granted to the transfers of a user in a direction
abbrev pub granted_to : Direction → AccountStatus → ℕ
granted_to Down a = a.granted_down
granted_to Up a = a.granted_up

-- the users of a group
abbrev pub is_of_group : List ℕ → AccountStatus → Bool
is_of_group name a = option_map_or (λ group. bytes_eq (string_bytes group) name) a.group false

-- the octets granted to users who pass a test, in a direction
abbrev pub granted_of : (AccountStatus → Bool) → Direction → List AccountStatus → ℕ
granted_of test way accounts =
    min (sum_by (λ a. if test a then granted_to way a else 0) accounts) most

-- octets a second of users who pass a test since an earlier status, those of ended transfers too
abbrev pub got_since : (AccountStatus → Bool) → Direction → Status → Status → ℕ
got_since test way past now = per_second
    (granted_of test way now.accounts.items - granted_of test way past.accounts.items)
    (now.micros - past.micros)

-- the rates of the transfers that pass a test, each since its begin, together
abbrev pub begun_total : (TransferStatus → Bool) → Status → ℕ
begun_total test now =
    min (sum_by (λ t. if test t then since_begin now t else 0) now.transfers.items) most

abbrev pub anybody : AccountStatus → Bool
anybody a = true

-- octets a second in one direction since an earlier status; without one, all rates together
abbrev pub line_total : Option (Bor Status) → Status → Direction → ℕ
line_total None now way = begun_total (is_way way) now
line_total (Some past) now way = got_since anybody way past.now now

-- the same of the users of a group
abbrev pub is_of : Direction → List ℕ → TransferStatus → Bool
is_of way name t =
    is_way way t && option_map_or (λ group. bytes_eq (string_bytes group) name) t.group false

abbrev pub group_total : Option (Bor Status) → Status → Direction → List ℕ → ℕ
group_total None now way name = begun_total (is_of way name) now
group_total (Some past) now way name = got_since (is_of_group name) way past.now now

-- the same of all, both ways: what was issued
abbrev pub both_total : Option (Bor Status) → Status → ℕ
both_total None now = min (line_total None now Down + line_total None now Up) most
both_total (Some past) now =
    per_second (now.issued - past.now.issued) (now.micros - past.now.micros)

-- ---- numbers

-- number of the transfers that wait for a lane
abbrev pub waiting : List TransferStatus → ℕ
waiting transfers = sum_by (λ t. if t.is_waiting then 1 else 0) transfers

-- a session that transfers nothing: it did something last before the moment of the status
abbrev pub is_idle : Status → SessionStatus → Bool
is_idle now s = nat_lt s.active now.micros

abbrev pub idle_sessions : Status → List SessionStatus
idle_sessions now = filter (is_idle now) now.sessions_now.items
