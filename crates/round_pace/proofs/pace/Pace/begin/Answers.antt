use Rattle.std.proofs.Common.{◌≡◌, List, Bool, subst, sym}
use Rattle.round_pace.specs.declared.paced.GroupPace.{GroupPace}
use Rattle.round_pace.specs.declared.paced.UserPace.{UserPace}
use Rattle.round_pace.specs.Offered.{refill_group, refill_user}
use Rattle.round_pace.specs.Quiet.{AllMarked, IsQuietGroup, IsQuietUser}
use Rattle.round_pace.proofs.Full.{groups_stay, users_stay}
use Rattle.round_pace.proofs.Marks.{marked_same, marked_second}
use Rattle.round_pace.proofs.Keeping.{groups_refilled, users_refilled}
use Rattle.round_pace.proofs.pace.Pace.begin.Goals as goal

pub invariant_of-self : goal.invariant_of-self
invariant_of-self g c =
    let kept = c.self.invariant in
    let groups = groups_refilled c.self.inside.begun c.args.tick c.self.inside.offered c.self.inside.groups.items c.refill_groups.new.groups.items c.refill_groups.ensures.rows kept.groups_rise kept.are_groups in
    let users = users_refilled c.self.inside.begun c.args.tick c.self.inside.offered c.self.inside.users.items c.refill_users.new.users.items c.refill_users.ensures.rows kept.users_rise kept.are_users in
    record {
      server_fits = c.refill_row-self-inside.ensures.fits;
      down_fits = c.refill_row-self-inside-2.ensures.fits;
      up_fits = c.refill_row-self-inside-3.ensures.fits;
      groups_fit = c.refill_groups.ensures.paces;
      users_fit = c.refill_users.ensures.paces;
      groups_rise = groups.0;
      users_rise = users.0;
      are_groups = groups.1;
      are_users = users.1;
      handed = λ q. absurd (cc);
      groups_quiet = marked_same (IsQuietGroup c.self.inside.offered) (refill_group c.self.inside.begun c.args.tick) c.begin_second.new.marks.items c.self.inside.groups.items c.refill_groups.new.groups.items c.refill_groups.ensures.rows
          (groups_stay c.self.inside.offered c.self.inside.begun c.args.tick c.self.inside.quiet_groups.items c.begin_second.new.marks.items c.self.inside.groups.items kept.groups_fit c.begin_second.ensures.kept kept.groups_quiet)
          (marked_second (IsQuietGroup c.self.inside.offered) c.self.inside.begun c.args.tick c.self.inside.quiet_groups.items c.begin_second.new.marks.items c.self.inside.groups.items c.begin_second.ensures.kept kept.groups_quiet);
      users_quiet = marked_same (IsQuietUser c.self.inside.offered) (refill_user c.self.inside.begun c.args.tick) c.begin_second-2.new.marks.items c.self.inside.users.items c.refill_users.new.users.items c.refill_users.ensures.rows
          (users_stay c.self.inside.offered c.self.inside.begun c.args.tick c.self.inside.quiet_users.items c.begin_second-2.new.marks.items c.self.inside.users.items kept.users_fit c.begin_second-2.ensures.kept kept.users_quiet)
          (marked_second (IsQuietUser c.self.inside.offered) c.self.inside.begun c.args.tick c.self.inside.quiet_users.items c.begin_second-2.new.marks.items c.self.inside.users.items c.begin_second-2.ensures.kept kept.users_quiet);
    }

pub refill_groups-requires-clause-marked : goal.refill_groups-requires-clause-marked
refill_groups-requires-clause-marked g c =
    let kept = c.self.invariant in
    subst (λ (ms : List Bool). AllMarked (λ (x : GroupPace). refill_group c.self.inside.begun c.args.tick x ≡ x) ms c.self.inside.groups.items) (sym c.deref.ensures.value)
    (groups_stay c.self.inside.offered c.self.inside.begun c.args.tick c.self.inside.quiet_groups.items c.begin_second.new.marks.items c.self.inside.groups.items kept.groups_fit c.begin_second.ensures.kept kept.groups_quiet)

pub refill_users-requires-clause-marked : goal.refill_users-requires-clause-marked
refill_users-requires-clause-marked g c =
    let kept = c.self.invariant in
    subst (λ (ms : List Bool). AllMarked (λ (x : UserPace). refill_user c.self.inside.begun c.args.tick x ≡ x) ms c.self.inside.users.items) (sym c.deref-2.ensures.value)
    (users_stay c.self.inside.offered c.self.inside.begun c.args.tick c.self.inside.quiet_users.items c.begin_second-2.new.marks.items c.self.inside.users.items kept.users_fit c.begin_second-2.ensures.kept kept.users_quiet)
