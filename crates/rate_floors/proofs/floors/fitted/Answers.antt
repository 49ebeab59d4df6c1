use Rattle.std.proofs.Common.{◌∙◌, sym, ap, subst, None}
use Rattle.std.specs.List.{All}
use Rattle.std.specs.Option.{option_or}
use Rattle.line_rates.specs.declared.ask.Way.TheVariants.{Down, Up}
use Rattle.rate_floors.specs.Carried.{broken_user, broken_sums, first_broken, unless_broken}
use Rattle.rate_floors.specs.Promises.{Promises, promised, IsPromised}
use Rattle.rate_floors.proofs.CarryLemmas.{IsReady, ready_seen, ready_kept, fault_found}
use Rattle.rate_floors.proofs.floors.fitted.Goals as goal

pub invariant_of-result : goal.invariant_of-result
invariant_of-result g c =
    let ready : IsReady c.args.limits.now c.share_by-share_by.result c.rate-server.result c.rate-down.result c.rate-up.result c.in-Some.promised_down c.in-Some.promised_up c.groups.result.now c.in_ok-groups.groups.items c.args.users.items = record {
      share_is = c.share_by-share_by.ensures.share_by;
      server_is = c.rate-server.ensures.rate;
      down_is = c.rate-down.ensures.rate;
      up_is = c.rate-up.ensures.rate;
      rows_are = c.groups.ensures.rows;
      rows_rise = c.groups.ensures.rising;
      groups_are = c.in_ok-groups.ensures.rows;
      groups_reported = subst (λ us. All (IsPromised us) c.in_ok-groups.groups.items) c.deref-2.ensures.value c.in_ok-groups.ensures.reported;
      users_are = c.requires.rows;
      users_rise = c.requires.rising;
      users_fit = c.requires.fit;
      few = c.requires.few;
      down_reported = c.in-Some.ensures.sums.0 ∙ ap (λ us. promised us Down) c.deref.ensures.value;
      up_reported = c.in-Some.ensures.sums.1 ∙ ap (λ us. promised us Up) c.deref.ensures.value;
      small = c.in-Some.ensures.sums.2;
    } in
    let users_found = c.first_broken_user.ensures.broken ∙ ap (first_broken broken_user) c.deref-3.ensures.value in
    let groups_found = c.first_broken_group.ensures.broken ∙ ap (first_broken broken_sums) c.deref-4.ensures.value in
    let code = c.or-fault.ensures
    ∙ ap (λ o. option_or o c.broken_line.result) (c.or.ensures ∙ ap (λ o. option_or o c.first_broken_group.result) users_found ∙ ap (option_or (first_broken broken_user c.args.users.items)) groups_found)
    ∙ ap (option_or (option_or (first_broken broken_user c.args.users.items) (first_broken broken_sums c.in_ok-groups.groups.items))) c.broken_line.ensures.broken in
    ready_kept c.args.limits.now c.share_by-share_by.result c.rate-server.result c.rate-down.result c.rate-up.result c.in-Some.promised_down c.in-Some.promised_up c.groups.result.now c.in_ok-groups.groups.items c.args.users.items ready (sym code ∙ c.in-None.is)

pub returns-in-Some-fault : goal.returns-in-Some-fault
returns-in-Some-fault g c =
    let ready : IsReady c.args.limits.now c.share_by-share_by.result c.rate-server.result c.rate-down.result c.rate-up.result c.in-Some.promised_down c.in-Some.promised_up c.groups.result.now c.in_ok-groups.groups.items c.args.users.items = record {
      share_is = c.share_by-share_by.ensures.share_by;
      server_is = c.rate-server.ensures.rate;
      down_is = c.rate-down.ensures.rate;
      up_is = c.rate-up.ensures.rate;
      rows_are = c.groups.ensures.rows;
      rows_rise = c.groups.ensures.rising;
      groups_are = c.in_ok-groups.ensures.rows;
      groups_reported = subst (λ us. All (IsPromised us) c.in_ok-groups.groups.items) c.deref-2.ensures.value c.in_ok-groups.ensures.reported;
      users_are = c.requires.rows;
      users_rise = c.requires.rising;
      users_fit = c.requires.fit;
      few = c.requires.few;
      down_reported = c.in-Some.ensures.sums.0 ∙ ap (λ us. promised us Down) c.deref.ensures.value;
      up_reported = c.in-Some.ensures.sums.1 ∙ ap (λ us. promised us Up) c.deref.ensures.value;
      small = c.in-Some.ensures.sums.2;
    } in
    let users_found = c.first_broken_user.ensures.broken ∙ ap (first_broken broken_user) c.deref-3.ensures.value in
    let groups_found = c.first_broken_group.ensures.broken ∙ ap (first_broken broken_sums) c.deref-4.ensures.value in
    let code = c.or-fault.ensures
    ∙ ap (λ o. option_or o c.broken_line.result) (c.or.ensures ∙ ap (λ o. option_or o c.first_broken_group.result) users_found ∙ ap (option_or (first_broken broken_user c.args.users.items)) groups_found)
    ∙ ap (option_or (option_or (first_broken broken_user c.args.users.items) (first_broken broken_sums c.in_ok-groups.groups.items))) c.broken_line.ensures.broken in
    record { floors = λ _. ap (λ o. unless_broken o (record { rates = c.args.limits.now; users = c.args.users.items })) (fault_found c.args.limits.now c.share_by-share_by.result c.rate-server.result c.rate-down.result c.rate-up.result c.in-Some.promised_down c.in-Some.promised_up c.groups.result.now c.in_ok-groups.groups.items c.args.users.items ready ∙ sym code ∙ c.in-Some-fault.is) }

pub returns-in-None : goal.returns-in-None
returns-in-None g c =
    let ready : IsReady c.args.limits.now c.share_by-share_by.result c.rate-server.result c.rate-down.result c.rate-up.result c.in-Some.promised_down c.in-Some.promised_up c.groups.result.now c.in_ok-groups.groups.items c.args.users.items = record {
      share_is = c.share_by-share_by.ensures.share_by;
      server_is = c.rate-server.ensures.rate;
      down_is = c.rate-down.ensures.rate;
      up_is = c.rate-up.ensures.rate;
      rows_are = c.groups.ensures.rows;
      rows_rise = c.groups.ensures.rising;
      groups_are = c.in_ok-groups.ensures.rows;
      groups_reported = subst (λ us. All (IsPromised us) c.in_ok-groups.groups.items) c.deref-2.ensures.value c.in_ok-groups.ensures.reported;
      users_are = c.requires.rows;
      users_rise = c.requires.rising;
      users_fit = c.requires.fit;
      few = c.requires.few;
      down_reported = c.in-Some.ensures.sums.0 ∙ ap (λ us. promised us Down) c.deref.ensures.value;
      up_reported = c.in-Some.ensures.sums.1 ∙ ap (λ us. promised us Up) c.deref.ensures.value;
      small = c.in-Some.ensures.sums.2;
    } in
    let users_found = c.first_broken_user.ensures.broken ∙ ap (first_broken broken_user) c.deref-3.ensures.value in
    let groups_found = c.first_broken_group.ensures.broken ∙ ap (first_broken broken_sums) c.deref-4.ensures.value in
    let code = c.or-fault.ensures
    ∙ ap (λ o. option_or o c.broken_line.result) (c.or.ensures ∙ ap (λ o. option_or o c.first_broken_group.result) users_found ∙ ap (option_or (first_broken broken_user c.args.users.items)) groups_found)
    ∙ ap (option_or (option_or (first_broken broken_user c.args.users.items) (first_broken broken_sums c.in_ok-groups.groups.items))) c.broken_line.ensures.broken in
    record {
      floors = ap (λ o. unless_broken o (record { rates = c.args.limits.now; users = c.args.users.items })) (fault_found c.args.limits.now c.share_by-share_by.result c.rate-server.result c.rate-down.result c.rate-up.result c.in-Some.promised_down c.in-Some.promised_up c.groups.result.now c.in_ok-groups.groups.items c.args.users.items ready ∙ sym code ∙ c.in-None.is)
          ∙ ap (λ (p : Promises). unless_broken None p) (sym (ready_seen c.args.limits.now c.share_by-share_by.result c.rate-server.result c.rate-down.result c.rate-up.result c.in-Some.promised_down c.in-Some.promised_up c.groups.result.now c.in_ok-groups.groups.items c.args.users.items ready));
    }
