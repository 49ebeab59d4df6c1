-- A status that was written is read as the same.
use Rattle.std.proofs.Common.{◌≡◌, ◌⊎◌, ◌∙◌, ℕ, suc, Bool, true, false, cond, List, [], ◌∷◌, Option, Some, None, String, Global, inl, inr, map, nat_eq, option_map, refl, slice_get, string_bytes, sym}
use Rattle.std.proofs.lemmas.Bool.{eqb-true}
use Rattle.std.specs.Prelude.{codes, option_and_then, unwrap_or}
use Rattle.std.proofs.NetLemmas.Texts.{IsDotted-ipv4_text}
use Rattle.std.specs.declared.net.ipv4_addr.Ipv4Addr.{Ipv4Addr}
use Rattle.serde_json.specs.Data.{Data, null, number, string, unsigned}
use Rattle.serde_json.specs.Find.{as_str, get}
use Rattle.serde_json.specs.View.{items_of}
use Rattle.std.specs.Net.Text.{ipv4_text}
use Rattle.server_status.specs.declared.fault.StatusFault.{StatusFault}
use Rattle.server_status.specs.declared.fault.StatusFault.TheVariants.{NotJson, Missing, OtherKind, Version, Memory}
use Rattle.server_status.specs.declared.member.Kind.TheVariants as kind
use Rattle.server_status.specs.declared.member.Kind.{Kind}
use Rattle.server_status.specs.declared.status.Direction.{Direction}
use Rattle.server_status.specs.declared.status.Direction.TheVariants.{Down, Up}
use Rattle.server_status.specs.declared.status.AccountStatus.{AccountStatus}
use Rattle.server_status.specs.declared.status.GroupStatus.{GroupStatus}
use Rattle.server_status.specs.declared.status.SessionStatus.{SessionStatus}
use Rattle.server_status.specs.declared.status.SharedAmong.{SharedAmong}
use Rattle.server_status.specs.declared.status.SharedAmong.TheVariants.{Sessions, Users}
use Rattle.server_status.specs.declared.status.LineRates.{LineRates}
use Rattle.server_status.specs.declared.status.Status.{Status}
use Rattle.server_status.specs.declared.status.TransferStatus.{TransferStatus}
use Rattle.server_status.specs.Fits.{AllHave, Fits, MemberRow, Has, HasAll, IsAddress, IsFirstFault, IsFirstFaultIn, IsFound, IsMemberFault, IsOtherKind, count_of, direction_of, found, sharers_of}
use Rattle.server_status.specs.ReadBack.{AreSame, HavePeers, IsPeer, IsSame, IsSameAccount, IsSameGroup, IsSameSession, IsSameTransfer}
use Rattle.server_status.specs.StatusData.{account_data, count_if_data, direction_text, group_data, line_data, rate_data, session_data, sharers_text, status_data, text_if_data, transfer_data}
use Rattle.server_status.specs.StatusRead.{AreOf, HasMembers, IsAccountOf, IsFaultOf, IsFine, IsGroupOf, IsListFault, IsOtherVersion, IsPeopleFault, IsSessionOf, IsTrafficFault, IsTransferOf, IsVersionFault, count_if_in, line_in, list_in, listed}
use Rattle.server_status.specs.Tables.{account_rows, group_rows, session_rows, status_rows, transfer_rows, version_rows}

-- ---- members that a written status has

rate_fits : (rate : ℕ) → Fits kind.NumberOrNull (rate_data rate)
rate_fits rate = go (nat_eq rate 0)
  where
    go : (b : Bool) → Fits kind.NumberOrNull (cond b null (number (unsigned rate)))
    go true = refl
    go false = refl

count_fits : (count : Option ℕ) → Fits kind.NumberOrNull (count_if_data count)
count_fits None = refl
count_fits (Some n) = refl

text_fits : (text : Option (String Global)) → Fits kind.TextOrNull (text_if_data text)
text_fits None = refl
text_fits (Some text) = refl

direction_fits : (d : Direction) → Fits kind.Direction (string (direction_text d))
direction_fits Down = refl
direction_fits Up = refl

sharers_fit : (sharers : SharedAmong) → Fits kind.Sharers (string (sharers_text sharers))
sharers_fit Sessions = refl
sharers_fit Users = refl

group_has : (g : GroupStatus) → HasAll group_rows (group_data g)
group_has g = (refl, (rate_fits g.down, (rate_fits g.up, (rate_fits g.guaranteed_down, (rate_fits g.guaranteed_up, tt)))))

groups_have : (gs : List GroupStatus) → AllHave group_rows (listed (items_of (map group_data gs)))
groups_have [] = tt
groups_have (g ∷ gs) = (group_has g, groups_have gs)

transfer_has : (t : TransferStatus) → IsPeer t.peer → HasAll transfer_rows (transfer_data t)
transfer_has t peer =
    let address : Ipv4Addr = record { octets = t.peer } in
    let dotted : Fits kind.Address (string (ipv4_text t.peer)) = (address, (ipv4_text t.peer, refl, IsDotted-ipv4_text t.peer peer.0 peer.1)) in (
      refl,
      (
        refl,
        (
          text_fits t.group,
          (
            dotted,
            (
              direction_fits t.direction,
              (
                text_fits t.path,
                (
                  count_fits t.size,
                  (
                    refl,
                    (
                      refl,
                      (
                        refl,
                        (
                          refl,
                          (
                            refl,
                            (
                              refl,
                              (
                                refl,
                                (
                                  refl,
                                  (
                                    refl,
                                    (
                                      refl,
                                      (rate_fits t.guaranteed, (rate_fits t.session_rate, (rate_fits t.user_rate, tt))),
                                    ),
                                  ),
                                ),
                              ),
                            ),
                          ),
                        ),
                      ),
                    ),
                  ),
                ),
              ),
            ),
          ),
        ),
      ),
    )

transfers_have : (ts : List TransferStatus) → ((i : ℕ) (t : TransferStatus) → slice_get ts i ≡ Some t → IsPeer t.peer) → AllHave transfer_rows (listed (items_of (map transfer_data ts)))
transfers_have [] peers = tt
transfers_have (t ∷ ts) peers = (transfer_has t (peers 0 t refl), transfers_have ts (λ i u e. peers (suc i) u e))

session_has : (s : SessionStatus) → IsPeer s.peer → HasAll session_rows (session_data s)
session_has s peer =
    let address : Ipv4Addr = record { octets = s.peer } in
    let dotted : Fits kind.Address (string (ipv4_text s.peer)) = (address, (ipv4_text s.peer, refl, IsDotted-ipv4_text s.peer peer.0 peer.1)) in
    (refl, (text_fits s.user, (text_fits s.group, (dotted, (refl, (refl, (rate_fits s.guaranteed_down, (rate_fits s.guaranteed_up, tt))))))))

sessions_have : (ss : List SessionStatus) → ((i : ℕ) (s : SessionStatus) → slice_get ss i ≡ Some s → IsPeer s.peer) → AllHave session_rows (listed (items_of (map session_data ss)))
sessions_have [] peers = tt
sessions_have (s ∷ ss) peers = (session_has s (peers 0 s refl), sessions_have ss (λ i u e. peers (suc i) u e))

account_has : (a : AccountStatus) → HasAll account_rows (account_data a)
account_has a = (refl, (text_fits a.group, (refl, (refl, (refl, (refl, tt))))))

accounts_have : (xs : List AccountStatus) → AllHave account_rows (listed (items_of (map account_data xs)))
accounts_have [] = tt
accounts_have (a ∷ xs) = (account_has a, accounts_have xs)

status_has : (s : Status) → HasAll status_rows (status_data s)
status_has s = (refl, (refl, (refl, (refl, (refl, (refl, (refl, (refl, (refl, (refl, (refl, (refl, (refl, (refl, (rate_fits s.line.both, (rate_fits s.line.down, (rate_fits s.line.up, (sharers_fit s.shared_among, (refl, (refl, (refl, (refl, (refl, (refl, (rate_fits s.guaranteed_down, (rate_fits s.guaranteed_up, (refl, (refl, (refl, (refl, (refl, (refl, (refl, (refl, (refl, (refl, (refl, (refl, (refl, (refl, (refl, tt)))))))))))))))))))))))))))))))))))))))))

pub fine : (s : Status) → HavePeers s → IsFine (status_data s)
fine s peers = record {
  version = refl;
  members = status_has s;
  groups = groups_have s.groups.items;
  transfers = transfers_have s.transfers.items peers.transfers;
  sessions_now = sessions_have s.sessions_now.items peers.sessions;
  accounts = accounts_have s.accounts.items;
}

-- ---- a value that is fine has no fault

not_other : (of : Kind) (value : Option Data) → IsFound of value → IsOtherKind of value → ⊥
not_other of None is other = is
not_other of (Some d) is other = other is

not_missing : (of : Kind) (value : Option Data) → IsFound of value → value ≡ None → ⊥
not_missing of None is none = is
not_missing of (Some d) is none = cc

not_member : (m : MemberRow) (d : Data) (fault : StatusFault) → Has m d → IsMemberFault m d fault → ⊥
not_member m d (Missing name) has is = not_missing m.kind (found m d) has is.1
not_member m d (OtherKind name) has is = not_other m.kind (found m d) has is.1
not_member m d (Version n) has is = is
not_member m d NotJson has is = is
not_member m d Memory has is = is

not_first : (ms : List MemberRow) (d : Data) (fault : StatusFault) → HasAll ms d → IsFirstFault ms d fault → ⊥
not_first [] d fault has is = is
not_first (m ∷ ms) d fault has is = elim is [ inl here ↦ not_member m d fault has.0 here | inr later ↦ not_first ms d fault has.1 later.1 ]

not_in : (ms : List MemberRow) (ds : List Data) (fault : StatusFault) → AllHave ms ds → IsFirstFaultIn ms ds fault → ⊥
not_in ms [] fault have is = is
not_in ms (d ∷ ds) fault have is = elim is [ inl here ↦ not_first ms d fault have.0 here | inr later ↦ not_in ms ds fault have.1 later.1 ]

has_version : (value : Option Data) → option_and_then count_of value ≡ Some 1 → IsFound kind.Number value
has_version None is = absurd (cc)
has_version (Some d) is = rw is refl

not_version : (d : Data) (fault : StatusFault) → count_if_in (codes "version") (Some d) ≡ Some 1 → IsOtherVersion d fault → ⊥
not_version d (Version n) is other = other.1 (cc)
not_version d (Missing name) is other = other
not_version d (OtherKind name) is other = other
not_version d NotJson is other = other
not_version d Memory is other = other

not_version_fault : (d : Data) (fault : StatusFault) → IsFine d → IsVersionFault d fault → ⊥
not_version_fault d fault fine is = elim is [
  | inl first ↦ not_first version_rows d fault (has_version (get (codes "version") d) fine.version, tt) first
  | inr other ↦ not_version d fault fine.version other
]

not_people_fault : (d : Data) (fault : StatusFault) → IsFine d → IsPeopleFault d fault → ⊥
not_people_fault d fault fine is = elim is [
  | inl first ↦ not_in session_rows (list_in (codes "sessions_now") (Some d)) fault fine.sessions_now first
  | inr last ↦ not_in account_rows (list_in (codes "accounts") (Some d)) fault fine.accounts last.1
]

not_traffic_fault : (d : Data) (fault : StatusFault) → IsFine d → IsTrafficFault d fault → ⊥
not_traffic_fault d fault fine is = elim is [
  | inl first ↦ not_in group_rows (list_in (codes "groups") (Some d)) fault fine.groups first
  | inr last ↦ not_in transfer_rows (list_in (codes "transfers") (Some d)) fault fine.transfers last.1
]

not_list_fault : (d : Data) (fault : StatusFault) → IsFine d → IsListFault d fault → ⊥
not_list_fault d fault fine is = elim is [
  | inl first ↦ not_traffic_fault d fault fine first
  | inr last ↦ not_people_fault d fault fine last.1
]

not_member_fault : (d : Data) (fault : StatusFault) → IsFine d → IsFirstFault status_rows d fault ⊎ (HasAll status_rows d × IsListFault d fault) → ⊥
not_member_fault d fault fine is = elim is [
  | inl first ↦ not_first status_rows d fault fine.members first
  | inr lists ↦ not_list_fault d fault fine lists.1
]

pub no_fault : (d : Data) (fault : StatusFault) → IsFine d → IsFaultOf d fault → ⊥
no_fault d fault fine is = elim is [
  | inl first ↦ not_version_fault d fault fine first
  | inr known ↦ not_member_fault d fault fine known.1
]

-- ---- values of members

rate_back : (rate : ℕ) → unwrap_or (count_of (rate_data rate)) 0 ≡ rate
rate_back rate = go (nat_eq rate 0) refl
  where
    go : (b : Bool) → nat_eq rate 0 ≡ b → unwrap_or (count_of (cond b null (number (unsigned rate)))) 0 ≡ rate
    go true is = sym (eqb-true rate 0 is)
    go false is = refl

count_back : (count : Option ℕ) → count_of (count_if_data count) ≡ count
count_back None = refl
count_back (Some n) = refl

text_back : (text : Option (String Global)) → as_str (text_if_data text) ≡ option_map string_bytes text
text_back None = refl
text_back (Some text) = refl

direction_back : (d : Direction) → unwrap_or (direction_of (string (direction_text d))) Down ≡ d
direction_back Down = refl
direction_back Up = refl

sharers_back : (sharers : SharedAmong) → unwrap_or (sharers_of (string (sharers_text sharers))) Sessions ≡ sharers
sharers_back Sessions = refl
sharers_back Users = refl

line_back : (line : LineRates) → line_in (Some (line_data line)) ≡ line
line_back line = λ i. record { both = rate_back line.both i; down = rate_back line.down i; up = rate_back line.up i }

group_back : (g r : GroupStatus) → IsGroupOf (group_data g) r → IsSameGroup g r
group_back g r is = record {
  name = sym is.name;
  down = sym (is.down ∙ rate_back g.down);
  up = sym (is.up ∙ rate_back g.up);
  guaranteed_down = sym (is.guaranteed_down ∙ rate_back g.guaranteed_down);
  guaranteed_up = sym (is.guaranteed_up ∙ rate_back g.guaranteed_up);
}

groups_back : (gs rs : List GroupStatus) → AreOf IsGroupOf (listed (items_of (map group_data gs))) rs → AreSame IsSameGroup gs rs
groups_back [] [] are = tt
groups_back [] (r ∷ rs) are = are
groups_back (g ∷ gs) [] are = are
groups_back (g ∷ gs) (r ∷ rs) are = (group_back g r are.0, groups_back gs rs are.1)

transfer_back : (t r : TransferStatus) → IsPeer t.peer → IsTransferOf (transfer_data t) r → IsSameTransfer t r
transfer_back t r peer is =
    let address : Ipv4Addr = record { octets = t.peer } in
    let dotted : IsAddress (string (ipv4_text t.peer)) address = (ipv4_text t.peer, refl, IsDotted-ipv4_text t.peer peer.0 peer.1) in
    record {
      session = sym is.session;
      user = sym is.user;
      group = sym (is.group ∙ text_back t.group);
      peer = sym (is.peer (string (ipv4_text t.peer)) address refl dotted);
      direction = sym (is.direction ∙ direction_back t.direction);
      path = sym (is.path ∙ text_back t.path);
      size = sym (is.size ∙ count_back t.size);
      begun = sym is.begun;
      is_waiting = sym is.is_waiting;
      granted = sym is.granted;
      moved = sym is.moved;
      rounds = sym is.rounds;
      guaranteed = sym (is.guaranteed ∙ rate_back t.guaranteed);
      session_rate = sym (is.session_rate ∙ rate_back t.session_rate);
      user_rate = sym (is.user_rate ∙ rate_back t.user_rate);
    }

transfers_back : (ts rs : List TransferStatus) → ((i : ℕ) (t : TransferStatus) → slice_get ts i ≡ Some t → IsPeer t.peer)
    → AreOf IsTransferOf (listed (items_of (map transfer_data ts))) rs → AreSame IsSameTransfer ts rs
transfers_back [] [] peers are = tt
transfers_back [] (r ∷ rs) peers are = are
transfers_back (t ∷ ts) [] peers are = are
transfers_back (t ∷ ts) (r ∷ rs) peers are = (transfer_back t r (peers 0 t refl) are.0, transfers_back ts rs (λ i u e. peers (suc i) u e) are.1)

session_back : (s r : SessionStatus) → IsPeer s.peer → IsSessionOf (session_data s) r → IsSameSession s r
session_back s r peer is =
    let address : Ipv4Addr = record { octets = s.peer } in
    let dotted : IsAddress (string (ipv4_text s.peer)) address = (ipv4_text s.peer, refl, IsDotted-ipv4_text s.peer peer.0 peer.1) in
    record {
      session = sym is.session;
      user = sym (is.user ∙ text_back s.user);
      group = sym (is.group ∙ text_back s.group);
      peer = sym (is.peer (string (ipv4_text s.peer)) address refl dotted);
      begun = sym is.begun;
      active = sym is.active;
      guaranteed_down = sym (is.guaranteed_down ∙ rate_back s.guaranteed_down);
      guaranteed_up = sym (is.guaranteed_up ∙ rate_back s.guaranteed_up);
    }

sessions_back : (ss rs : List SessionStatus) → ((i : ℕ) (s : SessionStatus) → slice_get ss i ≡ Some s → IsPeer s.peer)
    → AreOf IsSessionOf (listed (items_of (map session_data ss))) rs → AreSame IsSameSession ss rs
sessions_back [] [] peers are = tt
sessions_back [] (r ∷ rs) peers are = are
sessions_back (s ∷ ss) [] peers are = are
sessions_back (s ∷ ss) (r ∷ rs) peers are = (session_back s r (peers 0 s refl) are.0, sessions_back ss rs (λ i u e. peers (suc i) u e) are.1)

account_back : (a r : AccountStatus) → IsAccountOf (account_data a) r → IsSameAccount a r
account_back a r is = record {
  user = sym is.user;
  group = sym (is.group ∙ text_back a.group);
  granted_down = sym is.granted_down;
  granted_up = sym is.granted_up;
  unmet_down = sym is.unmet_down;
  unmet_up = sym is.unmet_up;
}

accounts_back : (xs rs : List AccountStatus) → AreOf IsAccountOf (listed (items_of (map account_data xs))) rs → AreSame IsSameAccount xs rs
accounts_back [] [] are = tt
accounts_back [] (r ∷ rs) are = are
accounts_back (a ∷ xs) [] are = are
accounts_back (a ∷ xs) (r ∷ rs) are = (account_back a r are.0, accounts_back xs rs are.1)

pub same : (s r : Status) → HavePeers s → HasMembers (status_data s) r → IsSame s r
same s r peers is = record {
  started = sym is.started;
  micros = sym is.micros;
  line = sym (is.line ∙ line_back s.line);
  shared_among = sym (is.shared_among ∙ sharers_back s.shared_among);
  guaranteed_down = sym (is.guaranteed_down ∙ rate_back s.guaranteed_down);
  guaranteed_up = sym (is.guaranteed_up ∙ rate_back s.guaranteed_up);
  groups = groups_back s.groups.items r.groups.items is.groups;
  users = sym is.users;
  sessions = sym is.sessions;
  max_sessions = sym is.max_sessions;
  lanes = sym is.lanes;
  issued = sym is.issued;
  ended_granted = sym is.ended_granted;
  ended_moved = sym is.ended_moved;
  ended = sym is.ended;
  endings = sym is.endings;
  rounds = sym is.rounds;
  failed_logins = sym is.failed_logins;
  logins = sym is.logins;
  refused_logins = sym is.refused_logins;
  refused_guarantees = sym is.refused_guarantees;
  refused = sym is.refused;
  lost_lines = sym is.lost_lines;
  waits = sym is.waits;
  transfers = transfers_back s.transfers.items r.transfers.items peers.transfers is.transfers;
  sessions_now = sessions_back s.sessions_now.items r.sessions_now.items peers.sessions is.sessions_now;
  accounts = accounts_back s.accounts.items r.accounts.items is.accounts;
}
