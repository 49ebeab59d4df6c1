use Rattle.std.proofs.Common.{◌≡◌, ◌∙◌, map, string_bytes, refl, sym, ap}
use Rattle.std.specs.FinMap as finite
use Rattle.authorizer.specs.Renumbered.{regrouped}
use Rattle.line_rates.specs.Rates.{shared_by}
use Rattle.line_rates.specs.Stated.{stated, limits_fault}
use Rattle.config_change.specs.Named.{merged, places_in, group_rows, rates_named, user_rows}
use Rattle.config_change.specs.Renumbered.{group_places}
use Rattle.config_change.proofs.Refusing.{refused_by}
use Rattle.config_change.proofs.renumber.renumbered.Goals as goal

pub returns-in-Ok-clause-renumbered : goal.returns-in-Ok-clause-renumbered
returns-in-Ok-clause-renumbered c =
    let config = c.args.config in
    let old = map string_bytes c.args.old_groups.now in
    let names_merged = c.in_ok-groups.ensures.merged ∙ ap (λ ns. merged old (map string_bytes ns)) c.deref.ensures.value in
    let places_are : c.in_ok-places.places.items ≡ group_places old config =
    c.in_ok-places.ensures.numbers
    ∙ ap (λ gs. places_in (map string_bytes gs) (map string_bytes c.deref-3.result.now)) c.deref-2.ensures.value
    ∙ ap (λ ns. places_in (map string_bytes c.in_ok-groups.groups.items) (map string_bytes ns)) c.deref-3.ensures.value
    ∙ ap (λ all. places_in all (map string_bytes config.groups.items)) names_merged in
    let kept = c.in_ok-users.ensures.users.0 in
    let users_are : c.in_ok-users.users ≡ regrouped (group_places old config) kept =
    c.in_ok-users.ensures.users.2 ∙ ap (λ ps. regrouped ps kept) (c.deref-5.ensures.value ∙ places_are) in
    let rates_are = c.deref-8.ensures.value ∙ c.in_ok-rates.ensures.rows
    ∙ ap (map (λ name. rates_named config.users config.limits (string_bytes name))) (c.deref-4.ensures.value ∙ sym c.deref-7.ensures.value) in
    let places_there = c.deref-6.ensures.value ∙ places_are in
    let names_are = ap (map string_bytes) c.deref-7.ensures.value ∙ c.in_ok-names.ensures.names in
    record {
      settings = refl;
      numbers = refl;
      store = refl;
      groups = names_merged;
      kept = kept;
      keeps = c.in_ok-users.ensures.users.1;
      users = users_are;
      limits = c.in-Ok.ensures.limits config.users rates_are
          ∙ ap (λ ps. shared_by config.limits.share_by (stated config.limits.server config.limits.down config.limits.up (group_rows config.limits 0 ps) (user_rows config.users c.in_ok-users.users config.limits ps (map string_bytes c.deref-7.result.now)))) places_there
          ∙ ap (λ ns. shared_by config.limits.share_by (stated config.limits.server config.limits.down config.limits.up (group_rows config.limits 0 (group_places old config)) (user_rows config.users c.in_ok-users.users config.limits (group_places old config) ns))) names_are;
    }

pub returns-in-Err-clause-refused : goal.returns-in-Err-clause-refused
returns-in-Err-clause-refused c =
    let config = c.args.config in
    let old = map string_bytes c.args.old_groups.now in
    let names_merged = c.in_ok-groups.ensures.merged ∙ ap (λ ns. merged old (map string_bytes ns)) c.deref.ensures.value in
    let places_are : c.in_ok-places.places.items ≡ group_places old config =
    c.in_ok-places.ensures.numbers
    ∙ ap (λ gs. places_in (map string_bytes gs) (map string_bytes c.deref-3.result.now)) c.deref-2.ensures.value
    ∙ ap (λ ns. places_in (map string_bytes c.in_ok-groups.groups.items) (map string_bytes ns)) c.deref-3.ensures.value
    ∙ ap (λ all. places_in all (map string_bytes config.groups.items)) names_merged in
    let kept = c.in_ok-users.ensures.users.0 in
    let users_are : c.in_ok-users.users ≡ regrouped (group_places old config) kept =
    c.in_ok-users.ensures.users.2 ∙ ap (λ ps. regrouped ps kept) (c.deref-5.ensures.value ∙ places_are) in
    let rates_are = c.deref-8.ensures.value ∙ c.in_ok-rates.ensures.rows
    ∙ ap (map (λ name. rates_named config.users config.limits (string_bytes name))) (c.deref-4.ensures.value ∙ sym c.deref-7.ensures.value) in
    let places_there = c.deref-6.ensures.value ∙ places_are in
    let names_are = ap (map string_bytes) c.deref-7.ensures.value ∙ c.in_ok-names.ensures.names in
    let same =
    ap (λ ps. limits_fault config.limits.server config.limits.down config.limits.up (group_rows config.limits 0 ps) (user_rows config.users c.in_ok-users.users config.limits ps (map string_bytes c.deref-7.result.now))) places_there
    ∙ ap (λ ns. limits_fault config.limits.server config.limits.down config.limits.up (group_rows config.limits 0 (group_places old config)) (user_rows config.users c.in_ok-users.users config.limits (group_places old config) ns)) names_are
    ∙ ap (λ us. limits_fault config.limits.server config.limits.down config.limits.up (group_rows config.limits 0 (group_places old config)) (user_rows config.users us config.limits (group_places old config) (finite.keys config.users.users))) users_are in
    refused_by config c.args.old_users.now old kept _ c.in-Err.fault c.in_ok-users.ensures.users.1 same (c.in-Err.ensures.refused config.users rates_are)
