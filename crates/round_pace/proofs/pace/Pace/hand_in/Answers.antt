use Rattle.std.proofs.Common.{◌≡◌, ◌∙◌, ap, refl, sym}
use Rattle.line_rates.specs.Rates.{Rates}
use Rattle.round_pace.specs.Offered.{left_rates}
use Rattle.round_pace.specs.Paced.{Paced}
use Rattle.round_pace.proofs.GroupsIn.{other_rates as other_than_groups}
use Rattle.round_pace.proofs.HandedIn.{hands_rows_in, left_with}
use Rattle.round_pace.proofs.Keeping.{offered_all, groups_offered, users_offered}
use Rattle.round_pace.proofs.Placed.{groups_quiet_with, users_quiet_with, users_with}
use Rattle.round_pace.proofs.UsersIn.{other_rates as other_than_users}
use Rattle.round_pace.proofs.pace.Pace.hand_in.Goals as goal

pub invariant_of-self : goal.invariant_of-self
invariant_of-self g c =
    let kept = c.self.invariant in
    let p : Paced = record {
      begun = c.self.inside.begun;
      moment = c.self.inside.moment;
      server = c.self.inside.server;
      down = c.self.inside.down;
      up = c.self.inside.up;
      groups = c.self.inside.groups.items;
      users = c.self.inside.users.items;
      offered = c.self.inside.offered;
    } in
    let put = offered_all p c.credit_rate.result c.credit_rate-2.result c.credit_rate-3.result c.put_line.new.self c.put_groups.new.offered c.put_users.new.offered c.deref.result.now c.deref-2.result.now c.line_parts-down.result c.line_parts-up.result c.deref-3.result.now
    c.credit_rate.ensures.rate c.credit_rate-2.ensures.rate c.credit_rate-3.ensures.rate c.put_line.ensures.put c.deref.ensures.value c.put_groups.ensures.put c.deref-2.ensures.value c.line_parts-down.ensures.parts c.line_parts-up.ensures.parts c.deref-3.ensures.value c.put_users.ensures.put in
    let rates : c.put_users.new.offered ≡ left_rates p = put ∙ hands_rows_in p kept.groups_rise kept.users_rise kept.are_groups kept.are_users in
    record {
      server_fits = kept.server_fits;
      down_fits = kept.down_fits;
      up_fits = kept.up_fits;
      groups_fit = kept.groups_fit;
      users_fit = kept.users_fit;
      groups_rise = kept.groups_rise;
      users_rise = kept.users_rise;
      are_groups = groups_offered p c.put_users.new.offered rates;
      are_users = users_offered p c.put_users.new.offered rates;
      handed = λ q. sym (left_with p c.put_users.new.offered rates);
      groups_quiet = groups_quiet_with c.put_groups.new.offered c.put_users.new.offered c.put_groups.new.marks.items c.deref.result.now c.self.inside.groups.items
          (ap (λ (r : Rates). r.groups) c.put_users.ensures.put ∙ (other_than_users c.line_parts-down.result c.line_parts-up.result c.deref-3.result.now c.put_groups.new.offered c.deref-2.result.now).3) (sym c.deref.ensures.value) c.put_groups.ensures.marked;
      users_quiet = users_quiet_with c.put_users.new.offered c.put_users.new.offered c.put_users.new.marks.items c.deref-2.result.now c.self.inside.users.items refl (sym c.deref-2.ensures.value) c.put_users.ensures.marked;
    }

pub returns-clause-handed : goal.returns-clause-handed
returns-clause-handed g c =
    let kept = c.self.invariant in
    let p : Paced = record {
      begun = c.self.inside.begun;
      moment = c.self.inside.moment;
      server = c.self.inside.server;
      down = c.self.inside.down;
      up = c.self.inside.up;
      groups = c.self.inside.groups.items;
      users = c.self.inside.users.items;
      offered = c.self.inside.offered;
    } in
    let put = offered_all p c.credit_rate.result c.credit_rate-2.result c.credit_rate-3.result c.put_line.new.self c.put_groups.new.offered c.put_users.new.offered c.deref.result.now c.deref-2.result.now c.line_parts-down.result c.line_parts-up.result c.deref-3.result.now
    c.credit_rate.ensures.rate c.credit_rate-2.ensures.rate c.credit_rate-3.ensures.rate c.put_line.ensures.put c.deref.ensures.value c.put_groups.ensures.put c.deref-2.ensures.value c.line_parts-down.ensures.parts c.line_parts-up.ensures.parts c.deref-3.ensures.value c.put_users.ensures.put in
    left_with p c.put_users.new.offered (put ∙ hands_rows_in p kept.groups_rise kept.users_rise kept.are_groups kept.are_users)

pub put_users-requires-clause-rows : goal.put_users-requires-clause-rows
put_users-requires-clause-rows g c =
    let same : c.put_groups.new.offered.users ≡ c.self.inside.offered.users =
    ap (λ (r : Rates). r.users) c.put_groups.ensures.put ∙ ((other_than_groups c.put_line.new.self c.deref.result.now).3 ∙ ap (λ (r : Rates). r.users) c.put_line.ensures.put) in
    users_with c.self.inside.offered c.put_groups.new.offered c.self.inside.users.items c.deref-2.result.now same c.deref-2.ensures.value c.self.invariant.are_users

pub put_users-requires-clause-marked : goal.put_users-requires-clause-marked
put_users-requires-clause-marked g c =
    let same : c.put_groups.new.offered.users ≡ c.self.inside.offered.users =
    ap (λ (r : Rates). r.users) c.put_groups.ensures.put ∙ ((other_than_groups c.put_line.new.self c.deref.result.now).3 ∙ ap (λ (r : Rates). r.users) c.put_line.ensures.put) in
    users_quiet_with c.self.inside.offered c.put_groups.new.offered c.self.inside.quiet_users.items c.self.inside.users.items c.deref-2.result.now same c.deref-2.ensures.value c.self.invariant.users_quiet
