use Rattle.std.proofs.Common.{subst, sym, map, ◌/◌}
use Rattle.std.specs.List.{All}
use Rattle.line_rates.specs.Stated.{FitsGroup, FitsUser}
use Rattle.round_pace.specs.Paced.{IsGroupPace, IsUserPace, new_group, new_user}
use Rattle.round_pace.proofs.Keeping.{groups_new, users_new}
use Rattle.round_pace.proofs.NewPaces.{credit_new, group_new, user_new, same_paced}
use Rattle.round_pace.specs.Quiet.{IsQuietGroup, IsQuietUser}
use Rattle.round_pace.proofs.Marks.{none_marked}
use Rattle.round_pace.proofs.pace.Pace.of.Goals as goal
use Rattle.rate_floors.proofs.PlaceLemmas.{all_mapped}

pub invariant_of-result : goal.invariant_of-result
invariant_of-result g c =
    let groups = groups_new c.args.limits c.groups.result.now c.in_ok-groups.groups.items c.in_ok-groups.ensures.groups c.groups.ensures.rows c.groups.ensures.rising in
    let users = users_new c.args.limits c.users.result.now c.in_ok-users.users.items c.in_ok-users.ensures.users c.users.ensures.rows c.users.ensures.rising in
    record {
      server_fits = credit_new c.rate-server.result c.rate-server.ensures.most;
      down_fits = credit_new c.rate-down.result c.rate-down.ensures.most;
      up_fits = credit_new c.rate-up.result c.rate-up.ensures.most;
      groups_fit = subst (All IsGroupPace) (sym c.in_ok-groups.ensures.groups) (all_mapped FitsGroup IsGroupPace new_group c.groups.result.now group_new c.groups.ensures.fit);
      users_fit = subst (All IsUserPace) (sym c.in_ok-users.ensures.users) (all_mapped FitsUser IsUserPace new_user c.users.result.now user_new c.users.ensures.fit);
      groups_rise = groups.0;
      users_rise = users.0;
      are_groups = groups.1;
      are_users = users.1;
      handed = λ q. absurd (cc);
      groups_quiet = none_marked (IsQuietGroup c.args.limits) _ c.in_ok-quiet_groups.quiet_groups.items c.in_ok-groups.groups.items (c.in_ok-quiet_groups.ensures.items_if_clones_equal (λ y h. h));
      users_quiet = none_marked (IsQuietUser c.args.limits) _ c.in_ok-quiet_users.quiet_users.items c.in_ok-users.users.items (c.in_ok-quiet_users.ensures.items_if_clones_equal (λ y h. h));
    }

pub returns : goal.returns
returns g c = record {
  rates = record {
    group_rows = c.groups.result.now;
    user_rows = c.users.result.now;
    groups_are = c.groups.ensures.rows;
    users_are = c.users.ensures.rows;
    groups_rise = c.groups.ensures.rising;
    users_rise = c.users.ensures.rising;
    is = same_paced (c.args.now / 2000) c.args.limits c.rate-server.result c.rate-down.result c.rate-up.result c.args.limits.server c.args.limits.down c.args.limits.up c.in_ok-groups.groups.items (map new_group c.groups.result.now) c.in_ok-users.users.items (map new_user c.users.result.now)
        c.rate-server.ensures.rate c.rate-down.ensures.rate c.rate-up.ensures.rate c.in_ok-groups.ensures.groups c.in_ok-users.ensures.users;
  };
}
