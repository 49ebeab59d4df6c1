use Rattle.std.proofs.Common.{◌≡◌, true}
use Rattle.round_pace.specs.Quiet.{IsQuietGroup, IsQuietUser}
use Rattle.round_pace.proofs.Handing.{handed_still}
use Rattle.round_pace.proofs.Keeping.{groups_taken, users_taken}
use Rattle.round_pace.proofs.Marks.{marked_kept}
use Rattle.round_pace.proofs.pace.Pace.took.Goals as goal
use Rattle.round_pace.proofs.pace.Pace.took.Goals.{then-self, else-self, then-same_groups, else-same_groups}

pub invariant_of-self : goal.invariant_of-self
invariant_of-self g c =
    let kept = c.self-2.invariant in
    let groups = groups_taken c.args.way c.args.octets c.group_of-group.result c.self-2.inside.offered c.self-2.inside.groups.items c.take_groups-same_groups.new.groups.items c.take_groups-same_groups.ensures.taken kept.groups_rise kept.are_groups in
    let users = users_taken c.args.way c.args.octets c.args.own c.args.user c.self-2.inside.offered c.self-2.inside.users.items c.take_users-same_users.new.users.items c.take_users-same_users.ensures.taken kept.users_rise kept.are_users in
    record {
      server_fits = kept.server_fits;
      down_fits = kept.down_fits;
      up_fits = kept.up_fits;
      groups_fit = c.take_groups-same_groups.ensures.paces;
      users_fit = c.take_users-same_users.ensures.paces;
      groups_rise = groups.0;
      users_rise = users.0;
      are_groups = groups.1;
      are_users = users.1;
      handed = λ q. elim c.if-same_groups.branch [
        | then-same_groups w ↦ elim c.if-self.branch [
          | then-self v ↦ (
              let is = w.self-is in
              let test = w.if-same_groups in
              let first = v.t-19-is in
              let stood = v.if-self in
              let groups_same : c.take_groups-same_groups.result ≡ true = cc in
              let users_same : c.take_users-same_users.result ≡ true = cc in
              let was : c.self-2.inside.is_handed ≡ true = cc in
              handed_still c.self-2.inside.begun c.self-2.inside.server c.self-2.inside.down c.self-2.inside.up c.self-2.inside.groups.items c.take_groups-same_groups.new.groups.items c.self-2.inside.users.items c.take_users-same_users.new.users.items c.self-2.inside.offered (c.take_groups-same_groups.ensures.same groups_same) (c.take_users-same_users.ensures.same users_same) (kept.handed was))
          | else-self v ↦ (let test = w.if-same_groups in let first = v.t-19-is in absurd (cc))
        ]
        | else-same_groups w ↦ (let is = w.self-is in absurd (cc))
      ];
      groups_quiet = marked_kept (IsQuietGroup c.self-2.inside.offered) c.self-2.inside.quiet_groups.items c.self-2.inside.groups.items c.take_groups-same_groups.new.marks.items c.take_groups-same_groups.new.groups.items c.take_groups-same_groups.ensures.marked kept.groups_quiet;
      users_quiet = marked_kept (IsQuietUser c.self-2.inside.offered) c.self-2.inside.quiet_users.items c.self-2.inside.users.items c.take_users-same_users.new.marks.items c.take_users-same_users.new.users.items c.take_users-same_users.ensures.marked kept.users_quiet;
    }
