use Rattle.std.proofs.Common.{◌≡◌, ◌∙◌, List, Vec, Global, ap, sym, subst, length, map}
use Rattle.std.specs.List.{AllByRecursion}
use Rattle.authorizer.specs.Numbers.{no_users}
use Rattle.server_config.specs.Configs.{group_name}
use Rattle.server_config.specs.Groups.{AreApart, AreGrouped, HasGroup}
use Rattle.server_config.specs.Store.{IsStoreOf}
use Rattle.config_file.specs.declared.stated.DirTable.{DirTable}
use Rattle.config_file.specs.declared.stated.FileTable.{FileTable}
use Rattle.config_file.specs.declared.stated.GroupTable.{GroupTable}
use Rattle.config_file.specs.declared.stated.UserTable.{UserTable}
use Rattle.config_file.specs.declared.stated.OverrideTable.{OverrideTable}
use Rattle.server_config.specs.Users.{AddsUsers}
use Rattle.server_config.proofs.Making.{moved, moved_all, limits_made}
use Rattle.server_config.proofs.Refusing.{groups_refused, store_refused, users_refused}
use Rattle.server_config.proofs.config.made_of.Goals as goal

pub make_users-requires-clause-overrides : goal.make_users-requires-clause-overrides
make_users-requires-clause-overrides c =
    ap length c.as_slice-overrides.ensures.value ∙ c.requires.paired ∙ sym (ap length c.as_slice-users.ensures.value)

pub make_users-requires-clause-rows : goal.make_users-requires-clause-rows
make_users-requires-clause-rows c =
    ap length c.as_slice.ensures.value ∙ c.in-Ok.ensures.many

pub returns-clause-made : goal.returns-clause-made
returns-clause-made c =
    let tables = c.args.tables.now in
    let gs = c.as_slice-groups.result.now in
    let us = c.as_slice-users.result.now in
    let same_groups : gs ≡ tables.groups.items = c.as_slice-groups.ensures.value in
    let same_users : us ≡ tables.users.items = c.as_slice-users.ensures.value in
    let adds = c.in-Ok-make_users.ensures.users gs (c.as_slice.ensures.value ∙ c.in-Ok.ensures.users) in
    record {
      settings = c.in_ok-settings_of.ensures.settings;
      numbers = c.numbers_of.ensures.numbers;
      ports = c.in-Ok-make_store.ensures.range;
      groups_apart = subst (λ (g : List GroupTable). AreApart g) same_groups c.in-Ok.ensures.apart;
      users_grouped = moved (λ (g : List GroupTable) (u : List UserTable). AllByRecursion (λ user. HasGroup g user.group) u) gs tables.groups.items us tables.users.items same_groups same_users c.in-Ok.ensures.grouped;
      users = moved_all (λ (g : List GroupTable) (u : List UserTable) (o : List (Vec OverrideTable Global)). AddsUsers g u o no_users c.in-Ok-make_users.authorizer)
          gs tables.groups.items us tables.users.items c.as_slice-overrides.result.now tables.overrides.items same_groups same_users c.as_slice-overrides.ensures.value adds;
      store = moved (λ (d : List DirTable) (f : List FileTable). IsStoreOf tables.server d f c.in-Ok-make_store.store)
          c.as_slice-dirs.result.now tables.dirs.items c.as_slice-files.result.now tables.files.items c.as_slice-dirs.ensures.value c.as_slice-files.ensures.value c.in-Ok-make_store.ensures.store;
      limits = limits_made tables.server gs tables.groups.items us tables.users.items c.in-Ok.rows.groups.items c.in-Ok.rows.users.items c.limits_of.result
          same_groups same_users c.in-Ok.ensures.groups c.in-Ok.ensures.users c.limits_of.ensures.limits;
      group_names = c.in_ok-names.ensures.names ∙ ap (λ (g : List GroupTable). map group_name g) same_groups;
    }

pub returns-in-Err-make_store-clause-refused : goal.returns-in-Err-make_store-clause-refused
returns-in-Err-make_store-clause-refused c =
    let tables = c.args.tables.now in
    let gs = c.as_slice-groups.result.now in
    let us = c.as_slice-users.result.now in
    let same_groups : gs ≡ tables.groups.items = c.as_slice-groups.ensures.value in
    let same_users : us ≡ tables.users.items = c.as_slice-users.ensures.value in
    let adds = c.in-Ok-make_users.ensures.users gs (c.as_slice.ensures.value ∙ c.in-Ok.ensures.users) in
    store_refused tables c.as_slice-dirs.result.now c.as_slice-files.result.now c.in-Ok-make_users.authorizer c.in-Err-make_store.fault c.of_store.result
    c.as_slice-dirs.ensures.value c.as_slice-files.ensures.value
    (subst (λ (g : List GroupTable). AreApart g) same_groups c.in-Ok.ensures.apart)
    (moved (λ (g : List GroupTable) (u : List UserTable). AreGrouped g u) gs tables.groups.items us tables.users.items same_groups same_users c.in-Ok.ensures.grouped)
    (moved_all (λ (g : List GroupTable) (u : List UserTable) (o : List (Vec OverrideTable Global)). AddsUsers g u o no_users c.in-Ok-make_users.authorizer)
    gs tables.groups.items us tables.users.items c.as_slice-overrides.result.now tables.overrides.items same_groups same_users c.as_slice-overrides.ensures.value adds)
    c.in-Err-make_store.ensures.refused c.of_store.ensures.reported

pub returns-in-Err-clause-refused : goal.returns-in-Err-clause-refused
returns-in-Err-clause-refused c =
    groups_refused c.args.tables.now c.as_slice-groups.result.now c.as_slice-users.result.now c.in-Err.fault c.of_groups.result
    c.as_slice-groups.ensures.value c.as_slice-users.ensures.value c.in-Err.ensures.refused c.of_groups.ensures.reported

pub returns-in-Err-make_users-clause-refused : goal.returns-in-Err-make_users-clause-refused
returns-in-Err-make_users-clause-refused c =
    users_refused c.args.tables.now c.as_slice-groups.result.now c.as_slice-users.result.now c.as_slice-overrides.result.now c.in-Err-make_users.fault c.of_users.result
    c.as_slice-groups.ensures.value c.as_slice-users.ensures.value c.as_slice-overrides.ensures.value c.in-Ok.ensures.apart c.in-Ok.ensures.grouped
    (c.in-Err-make_users.ensures.refused c.as_slice-groups.result.now (c.as_slice.ensures.value ∙ c.in-Ok.ensures.users)) c.of_users.ensures.reported
