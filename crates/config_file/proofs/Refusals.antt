-- The first fault of a file, from that of one of its tables.
use Rattle.std.proofs.Common.{◌≡◌, ℕ, Bool, true, List, Vec, Global, None, subst, inl, inr}
use Rattle.std.specs.Prelude.{codes}
use Rattle.toml.specs.Data.{Members}
use Rattle.toml.specs.View.{table_view, items_view}
use Rattle.config_file.specs.declared.fault.Problem.{Problem}
use Rattle.config_file.specs.declared.fault.Fault.{Fault}
use Rattle.config_file.specs.declared.fault.KeyFault.{KeyFault}
use Rattle.config_file.specs.declared.fault.Fault.TheVariants as fault
use Rattle.config_file.specs.declared.fault.TableName.TheVariants as name
use Rattle.config_file.specs.declared.stated.DirTable.{DirTable}
use Rattle.config_file.specs.declared.stated.GroupTable.{GroupTable}
use Rattle.config_file.specs.declared.stated.OverrideTable.{OverrideTable}
use Rattle.config_file.specs.declared.stated.ServerTable.{ServerTable}
use Rattle.config_file.specs.declared.stated.Top.{Top}
use Rattle.config_file.specs.declared.stated.UserTable.{UserTable}
use Rattle.config_file.specs.Keys.{States}
use Rattle.config_file.specs.Lists.{AreRows, IsListFault, Place}
use Rattle.config_file.specs.Refused.{IsDirFault, IsFaultOfOverrides, IsFileFault, IsFirstFault, IsGroupFault, IsOverrideFault, IsServerFault, IsUserFault, IsWholeFault, Reports}
use Rattle.config_file.specs.TableKeys.{server_rows, server_values, group_rows, group_values, user_rows, user_values, dir_rows, dir_values}
use Rattle.config_file.specs.Tables.{AreOverrides, is_grouped, top_rows, top_values}

reports_more : (First Second : Place → List ℕ → Problem → Type 0) → ((place : Place) (key : List ℕ) (problem : Problem) → First place key problem → Second place key problem)
    → (reported : Fault KeyFault) → Reports First reported → Reports Second reported
reports_more First Second more (fault.At header reported) is = more _ _ _ is
reports_more First Second more fault.Memory is = tt

below_top : (grouped : Bool) (document : Members) (top : Top) (reported : Fault KeyFault) → grouped ≡ is_grouped document → States grouped top_rows document (top_values top)
    → Reports (IsServerFault grouped top) reported → Reports (IsFirstFault document) reported
below_top grouped document top reported same stated is =
    reports_more (IsServerFault (is_grouped document) top) (IsFirstFault document)
    (λ place key problem it. inr (top, subst (λ (b : Bool). States b top_rows document (top_values top)) same stated, it)) reported
    (subst (λ (b : Bool). Reports (IsServerFault b top) reported) same is)

module _ (grouped : Bool) (document : Members) (top : Top) (reported : Fault KeyFault) (same : grouped ≡ is_grouped document) (stated : States grouped top_rows document (top_values top)) where
  pub server_refused : Reports (IsWholeFault true server_rows name.Server (table_view top.server.now)) reported → Reports (IsFirstFault document) reported
  server_refused is =
      below_top grouped document top reported same stated
      (reports_more (IsWholeFault true server_rows name.Server (table_view top.server.now)) (IsServerFault grouped top) (λ place key problem it. inl it) reported is)

  module _ (server : ServerTable) (is_server : States true server_rows (table_view top.server.now) (server_values server)) where
    below_server : Reports (IsGroupFault grouped top) reported → Reports (IsFirstFault document) reported
    below_server is =
        below_top grouped document top reported same stated
        (reports_more (IsGroupFault grouped top) (IsServerFault grouped top) (λ place key problem it. inr (server, is_server, it)) reported is)

    pub groups_refused : Reports (IsListFault true group_rows name.Group None (codes "group") (items_view top.groups.now)) reported → Reports (IsFirstFault document) reported
    groups_refused is =
        below_server
        (reports_more (IsListFault true group_rows name.Group None (codes "group") (items_view top.groups.now)) (IsGroupFault grouped top) (λ place key problem it. inl it) reported is)

    module _ (groups : List GroupTable) (are_groups : AreRows true group_rows group_values (items_view top.groups.now) groups) where
      below_groups : Reports (IsUserFault grouped top) reported → Reports (IsFirstFault document) reported
      below_groups is =
          below_server (reports_more (IsUserFault grouped top) (IsGroupFault grouped top) (λ place key problem it. inr (groups, are_groups, it)) reported is)

      pub users_refused : Reports (IsListFault grouped user_rows name.User None (codes "user") (items_view top.users.now)) reported → Reports (IsFirstFault document) reported
      users_refused is =
          below_groups
          (reports_more (IsListFault grouped user_rows name.User None (codes "user") (items_view top.users.now)) (IsUserFault grouped top) (λ place key problem it. inl it) reported is)

      module _ (users : List UserTable) (are_users : AreRows grouped user_rows user_values (items_view top.users.now) users) where
        below_users : Reports (IsFaultOfOverrides top users) reported → Reports (IsFirstFault document) reported
        below_users is =
            below_groups (reports_more (IsFaultOfOverrides top users) (IsUserFault grouped top) (λ place key problem it. inr (users, are_users, it)) reported is)

        pub overrides_refused : (seen : List UserTable) → seen ≡ users → Reports (IsOverrideFault seen) reported → Reports (IsFirstFault document) reported
        overrides_refused seen here is =
            below_users
            (reports_more (IsOverrideFault users) (IsFaultOfOverrides top users) (λ place key problem it. inl it) reported
            (subst (λ (us : List UserTable). Reports (IsOverrideFault us) reported) here is))

        module _ (seen : List UserTable) (here : seen ≡ users) (overrides : List (Vec OverrideTable Global)) (are_seen : AreOverrides seen overrides) where
          below_overrides : Reports (IsDirFault top) reported → Reports (IsFirstFault document) reported
          below_overrides is =
              below_users
              (reports_more (IsDirFault top) (IsFaultOfOverrides top users)
              (λ place key problem it. inr (overrides, subst (λ (us : List UserTable). AreOverrides us overrides) here are_seen, it)) reported is)

          pub dirs_refused : Reports (IsListFault true dir_rows name.Dir None (codes "dir") (items_view top.dirs.now)) reported → Reports (IsFirstFault document) reported
          dirs_refused is =
              below_overrides
              (reports_more (IsListFault true dir_rows name.Dir None (codes "dir") (items_view top.dirs.now)) (IsDirFault top) (λ place key problem it. inl it) reported is)

          pub files_refused : (dirs : List DirTable) → AreRows true dir_rows dir_values (items_view top.dirs.now) dirs → Reports (IsFileFault top) reported → Reports (IsFirstFault document) reported
          files_refused dirs are_dirs is =
              below_overrides (reports_more (IsFileFault top) (IsDirFault top) (λ place key problem it. inr (dirs, are_dirs, it)) reported is)
