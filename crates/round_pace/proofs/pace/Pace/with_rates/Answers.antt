use Rattle.std.proofs.Common.{List, ap, ◌∙◌, subst, sym, map, refl}
use Rattle.std.specs.List.{All}
use Rattle.line_rates.specs.Stated.{FitsGroup, FitsUser}
use Rattle.round_pace.specs.declared.paced.GroupPace.{GroupPace}
use Rattle.round_pace.specs.declared.paced.UserPace.{UserPace}
use Rattle.round_pace.specs.Changed.{changed_group, changed_user, IsChangedTo}
use Rattle.round_pace.specs.Paced.{Paced, IsGroupPace, IsUserPace}
use Rattle.round_pace.proofs.Changing.{groups_made, users_made, group_changed, user_changed, same_changed}
use Rattle.round_pace.specs.Quiet.{IsQuietGroup, IsQuietUser}
use Rattle.round_pace.proofs.Marks.{none_marked}
use Rattle.round_pace.proofs.pace.Pace.with_rates.Goals as goal
use Rattle.rate_floors.proofs.PlaceLemmas.{all_mapped}

pub invariant_of-result : goal.invariant_of-result
invariant_of-result g c =
    let groups = groups_made (changed_group c.deref.result.now) (λ x. refl) c.args.limits c.groups.result.now c.in_ok-groups.groups.items c.in_ok-groups.ensures.groups c.groups.ensures.rows c.groups.ensures.rising in
    let users = users_made (changed_user c.deref-2.result.now) (λ x. refl) c.args.limits c.users.result.now c.in_ok-users.users.items c.in_ok-users.ensures.users c.users.ensures.rows c.users.ensures.rising in
    record {
      server_fits = c.changed_credit-server.ensures.fits;
      down_fits = c.changed_credit-down.ensures.fits;
      up_fits = c.changed_credit-up.ensures.fits;
      groups_fit = subst (All IsGroupPace) (sym c.in_ok-groups.ensures.groups) (all_mapped FitsGroup IsGroupPace (changed_group c.deref.result.now) c.groups.result.now (group_changed c.deref.result.now) c.groups.ensures.fit);
      users_fit = subst (All IsUserPace) (sym c.in_ok-users.ensures.users) (all_mapped FitsUser IsUserPace (changed_user c.deref-2.result.now) c.users.result.now (user_changed c.deref-2.result.now) c.users.ensures.fit);
      groups_rise = groups.0;
      users_rise = users.0;
      are_groups = groups.1;
      are_users = users.1;
      handed = λ q. absurd (cc);
      groups_quiet = none_marked (IsQuietGroup c.args.limits) _ c.in_ok-quiet_groups.quiet_groups.items c.in_ok-groups.groups.items (c.in_ok-quiet_groups.ensures.items_if_clones_equal (λ y h. h));
      users_quiet = none_marked (IsQuietUser c.args.limits) _ c.in_ok-quiet_users.quiet_users.items c.in_ok-users.users.items (c.in_ok-quiet_users.ensures.items_if_clones_equal (λ y h. h));
    }

pub returns : goal.returns
returns g c =
    let old : Paced = record {
      begun = c.self.inside.begun;
      moment = c.self.inside.moment;
      server = c.self.inside.server;
      down = c.self.inside.down;
      up = c.self.inside.up;
      groups = c.self.inside.groups.items;
      users = c.self.inside.users.items;
      offered = c.self.inside.offered;
    } in
    let new : Paced = record {
      begun = c.self.inside.begun;
      moment = c.self.inside.moment;
      server = c.changed_credit-server.result;
      down = c.changed_credit-down.result;
      up = c.changed_credit-up.result;
      groups = c.in_ok-groups.groups.items;
      users = c.in_ok-users.users.items;
      offered = c.args.limits;
    } in
    let changed : IsChangedTo c.args.limits old new = record {
      group_rows = c.groups.result.now;
      user_rows = c.users.result.now;
      groups_are = c.groups.ensures.rows;
      users_are = c.users.ensures.rows;
      groups_rise = c.groups.ensures.rising;
      users_rise = c.users.ensures.rising;
      is = same_changed old c.args.limits c.rate.result c.rate-2.result c.rate-3.result c.changed_credit-server.result c.changed_credit-down.result c.changed_credit-up.result
          c.in_ok-groups.groups.items (map (changed_group old.groups) c.groups.result.now) c.in_ok-users.users.items (map (changed_user old.users) c.users.result.now)
          c.changed_credit-server.ensures.credit c.rate.ensures.rate c.changed_credit-down.ensures.credit c.rate-2.ensures.rate c.changed_credit-up.ensures.credit c.rate-3.ensures.rate
          (c.in_ok-groups.ensures.groups ∙ ap (λ (gs : List GroupPace). map (changed_group gs) c.groups.result.now) c.deref.ensures.value)
          (c.in_ok-users.ensures.users ∙ ap (λ (us : List UserPace). map (changed_user us) c.users.result.now) c.deref-2.ensures.value);
    } in
    record { changed = subst (λ (p : Paced). IsChangedTo c.args.limits p new) c.self.view_is changed }
