-- Groups and users that are refused.
use Rattle.std.proofs.Common.{◌≡◌, ℕ, ◌<◌, ◌≤◌, List, length, take, get_or, slice_get, Some, String, Global, BTreeMap, sym, ap, subst, ◌∙◌, inl, inr}
use Rattle.std.proofs.lemmas.List.{take_all}
use Rattle.std.proofs.lemmas.Option.{slice_get-get_or}
use Rattle.config_file.specs.declared.fault.Fault.{Fault}
use Rattle.config_file.specs.declared.fault.Fault.TheVariants.{At, Memory}
use Rattle.config_file.specs.declared.fault.TableName.TheVariants as TableName
use Rattle.config_file.specs.declared.stated.GroupTable.{GroupTable}
use Rattle.config_file.specs.declared.stated.UserTable.{UserTable}
use Rattle.server_config.specs.Groups.{AreApart, AreGrouped, AreNumbers, IsFault, IsFaultOfNext, IsFaultOfUser, IsNoNumber}
use Rattle.server_config.specs.declared.group_problem.GroupProblem.{GroupProblem}
use Rattle.server_config.specs.declared.group_problem.GroupProblem.TheVariants.{Twice, NoSuchGroup, NoNumber}

-- what is at an index of a list
pub stands_at : {X : Type 0} (xs : List X) (i : ℕ) (x : X) → i < length xs → x ≡ get_or xs i x → slice_get xs i ≡ Some x
stands_at xs i x within at = slice_get-get_or xs i x within ∙ ap (λ y. Some y) (sym at)

pub refused_next : (groups : List GroupTable) (users : List UserTable) (i : ℕ) (group : GroupTable) (numbers : BTreeMap (String Global) ℕ) (fault : Fault GroupProblem)
    → i < length groups → group ≡ get_or groups i group → AreNumbers (take i groups) numbers → AreApart (take i groups) → IsFaultOfNext numbers i group.name.now fault
    → IsFault groups users fault
refused_next groups users i group numbers (At header Twice) within at are apart is = record {
  index = i;
  group = group;
  is = stands_at groups i group within at;
  before = apart;
  named = λ none. is.0 (are group.name.now ∙ none);
  place = is.1;
}
refused_next groups users i group numbers (At header NoNumber) within at are apart is =
    inl (record { index = i; row = group; is = stands_at groups i group within at; many = is.0; place = is.1 })
refused_next groups users i group numbers (At header NoSuchGroup) within at are apart is = absurd is
refused_next groups users i group numbers Memory within at are apart is = tt

pub refused_number : (groups : List GroupTable) (users : List UserTable) (i : ℕ) (group : GroupTable) (fault : Fault GroupProblem)
    → i < length groups → group ≡ get_or groups i group → IsNoNumber TableName.Group i group.name.now fault → IsFault groups users fault
refused_number groups users i group (At header NoNumber) within at is =
    inl (record { index = i; row = group; is = stands_at groups i group within at; many = is.0; place = is.1 })
refused_number groups users i group (At header Twice) within at is = absurd is
refused_number groups users i group (At header NoSuchGroup) within at is = absurd is
refused_number groups users i group Memory within at is = absurd is

pub refused_user : (groups : List GroupTable) (users : List UserTable) (i : ℕ) (user : UserTable) (fault : Fault GroupProblem)
    → i < length users → user ≡ get_or users i user → AreApart groups → AreGrouped groups (take i users) → IsFaultOfUser groups i user fault → IsFault groups users fault
refused_user groups users i user (At header Twice) within at apart before is = absurd is
refused_user groups users i user (At header NoNumber) within at apart before is =
    inr (record { index = i; row = user; is = stands_at users i user within at; many = is.0; place = is.1 })
refused_user groups users i user (At header NoSuchGroup) within at apart before is = record {
  apart = apart;
  index = i;
  user = user;
  is = stands_at users i user within at;
  before = before;
  group = is.0;
  place = is.1;
}
refused_user groups users i user Memory within at apart before is = tt

-- all of the groups were gone through
pub apart-whole : (groups : List GroupTable) (i : ℕ) → length groups ≤ i → AreApart (take i groups) → AreApart groups
apart-whole groups i past apart = subst AreApart (take_all i groups past) apart
