use Rattle.std.proofs.Common.{rules, ◌≡◌, subst, false, true}
use Rattle.line_rates.specs.Stated.{group_number, user_number, has_large_rate, has_stray_user, IsRising, HasTie}
use Rattle.line_rates.proofs.LimitsLemmas.{refused_groups, refused_users, refused_stray, accepted, same_stated, kept}
use Rattle.line_rates.proofs.limits.Limits.of.Goals as goal

pub returns-then-not-groups_rise-clause-fault : goal.returns-then-not-groups_rise-clause-fault
returns-then-not-groups_rise-clause-fault g c =
    let small : has_large_rate c.args.server c.args.down c.args.up c.args.groups.items c.args.users.items ≡ false = search rules in
    let tie : HasTie group_number c.sort_groups.new.groups.items = subst (HasTie group_number) c.deref-3.ensures.value c.if-not-groups_rise.ensures.rise in
    refused_groups c.args.server c.args.down c.args.up c.args.groups.items c.sort_groups.new.groups.items c.args.users.items c.args.users.items small c.sort_groups.ensures.same c.sort_groups.ensures.sorted tie

pub returns-then-not-users_rise-clause-fault : goal.returns-then-not-users_rise-clause-fault
returns-then-not-users_rise-clause-fault g c =
    let small : has_large_rate c.args.server c.args.down c.args.up c.args.groups.items c.args.users.items ≡ false = search rules in
    let tie : HasTie user_number c.sort_users.new.users.items = subst (HasTie user_number) c.deref-4.ensures.value c.if-not-users_rise.ensures.rise in
    refused_users c.args.server c.args.down c.args.up c.args.groups.items c.sort_groups.new.groups.items c.args.users.items c.sort_users.new.users.items small c.sort_groups.ensures.same c.sort_users.ensures.same c.sort_users.ensures.sorted tie

pub returns-then-has_stray_user-clause-fault : goal.returns-then-has_stray_user-clause-fault
returns-then-has_stray_user-clause-fault g c =
    let small : has_large_rate c.args.server c.args.down c.args.up c.args.groups.items c.args.users.items ≡ false = search rules in
    let groups_up : IsRising group_number c.sort_groups.new.groups.items = subst (IsRising group_number) c.deref-3.ensures.value c.if-not-groups_rise.ensures.rise in
    let users_up : IsRising user_number c.sort_users.new.users.items = subst (IsRising user_number) c.deref-4.ensures.value c.if-not-users_rise.ensures.rise in
    let stray : has_stray_user c.sort_groups.new.groups.items c.sort_users.new.users.items ≡ true = search rules in
    refused_stray c.args.server c.args.down c.args.up c.args.groups.items c.sort_groups.new.groups.items c.args.users.items c.sort_users.new.users.items small c.sort_groups.ensures.same c.sort_users.ensures.same groups_up users_up stray

pub invariant_of-result : goal.invariant_of-result
invariant_of-result g c =
    let small : has_large_rate c.args.server c.args.down c.args.up c.args.groups.items c.args.users.items ≡ false = search rules in
    let groups_up : IsRising group_number c.sort_groups.new.groups.items = subst (IsRising group_number) c.deref-3.ensures.value c.if-not-groups_rise.ensures.rise in
    let users_up : IsRising user_number c.sort_users.new.users.items = subst (IsRising user_number) c.deref-4.ensures.value c.if-not-users_rise.ensures.rise in
    kept c.args.server c.args.down c.args.up c.args.groups.items c.sort_groups.new.groups.items c.args.users.items c.sort_users.new.users.items small c.sort_groups.ensures.same c.sort_users.ensures.same groups_up users_up

pub returns-clause-fault : goal.returns-clause-fault
returns-clause-fault g c =
    let small : has_large_rate c.args.server c.args.down c.args.up c.args.groups.items c.args.users.items ≡ false = search rules in
    let groups_up : IsRising group_number c.sort_groups.new.groups.items = subst (IsRising group_number) c.deref-3.ensures.value c.if-not-groups_rise.ensures.rise in
    let users_up : IsRising user_number c.sort_users.new.users.items = subst (IsRising user_number) c.deref-4.ensures.value c.if-not-users_rise.ensures.rise in
    let none : has_stray_user c.sort_groups.new.groups.items c.sort_users.new.users.items ≡ false = search rules in
    accepted c.args.server c.args.down c.args.up c.args.groups.items c.sort_groups.new.groups.items c.args.users.items c.sort_users.new.users.items small c.sort_groups.ensures.same c.sort_users.ensures.same groups_up users_up none

pub returns-clause-limits : goal.returns-clause-limits
returns-clause-limits g c =
    let small : has_large_rate c.args.server c.args.down c.args.up c.args.groups.items c.args.users.items ≡ false = search rules in
    let groups_up : IsRising group_number c.sort_groups.new.groups.items = subst (IsRising group_number) c.deref-3.ensures.value c.if-not-groups_rise.ensures.rise in
    let users_up : IsRising user_number c.sort_users.new.users.items = subst (IsRising user_number) c.deref-4.ensures.value c.if-not-users_rise.ensures.rise in
    same_stated c.args.server c.args.down c.args.up c.args.groups.items c.sort_groups.new.groups.items c.args.users.items c.sort_users.new.users.items small c.sort_groups.ensures.same c.sort_users.ensures.same groups_up users_up
