-- The first fault of a value, from that of its members.
use Rattle.std.proofs.Common.{◌≡◌, Err, IfErr, Ok, OnOk, Result, Some, inl, inr}
use Rattle.std.specs.Prelude.{codes}
use Rattle.serde_json.specs.Data.{Data}
use Rattle.server_status.specs.declared.fault.StatusFault.{StatusFault}
use Rattle.server_status.specs.Fits.{AllHave, HasAll, IsFirstFault}
use Rattle.server_status.specs.StatusRead.{IsFaultOf, IsFine, IsListFault, count_if_in, list_in}
use Rattle.server_status.specs.Tables.{account_rows, group_rows, session_rows, status_rows, transfer_rows}

pub member_fault : (d : Data) (fault : StatusFault) → count_if_in (codes "version") (Some d) ≡ Some 1 → IsFirstFault status_rows d fault → IsFaultOf d fault
member_fault d fault known is = inr (known, inl is)

-- a value whose members and lists are there is fine
pub all_fine : (d : Data) (r : Result (Unit {0}) StatusFault) → count_if_in (codes "version") (Some d) ≡ Some 1 → HasAll status_rows d
    → OnOk r (AllHave group_rows (list_in (codes "groups") (Some d))) → OnOk r (AllHave transfer_rows (list_in (codes "transfers") (Some d)))
    → OnOk r (AllHave session_rows (list_in (codes "sessions_now") (Some d))) → OnOk r (AllHave account_rows (list_in (codes "accounts") (Some d))) → OnOk r (IsFine d)
all_fine d (Ok u) known has groups transfers sessions accounts = record {
  version = known;
  members = has;
  groups = groups;
  transfers = transfers;
  sessions_now = sessions;
  accounts = accounts;
}
all_fine d (Err fault) known has groups transfers sessions accounts = groups

-- the fault of its lists is that of the value
pub list_fault : (d : Data) (r : Result (Unit {0}) StatusFault) → count_if_in (codes "version") (Some d) ≡ Some 1 → HasAll status_rows d
    → IfErr r (IsListFault d) → IfErr r (IsFaultOf d)
list_fault d (Ok u) known has is = is
list_fault d (Err fault) known has is = inr (known, inr (has, is))
