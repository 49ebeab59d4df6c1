use Rattle.std.proofs.Common.{arith, ap}
use Rattle.rate_floors.specs.Promises.{Promises}
use Rattle.rate_floors.proofs.FloorLemmas.{is_after}
use Rattle.rate_floors.proofs.floors.Floors.line_after.Goals as goal
use Rattle.line_rates.proofs.TickLemmas.{times_more}

pub overflow_add-down : goal.overflow_add-down
overflow_add-down g c = let s = (is_after c.args.self.now c.self.inside.promised_down c.self.inside.promised_up c.self.inside.groups.items c.self.inside.users.items c.args.entry (ap (λ (p : Promises). p.users) c.self.view_is) c.self.invariant.reported c.requires.stands).room in omega arith

pub overflow_add-up : goal.overflow_add-up
overflow_add-up g c = let s = (is_after c.args.self.now c.self.inside.promised_down c.self.inside.promised_up c.self.inside.groups.items c.self.inside.users.items c.args.entry (ap (λ (p : Promises). p.users) c.self.view_is) c.self.invariant.reported c.requires.stands).room in omega arith

pub returns : goal.returns
returns g c =
    let a = is_after c.args.self.now c.self.inside.promised_down c.self.inside.promised_up c.self.inside.groups.items c.self.inside.users.items c.args.entry (ap (λ (p : Promises). p.users) c.self.view_is) c.self.invariant.reported c.requires.stands in
    let m = a.down_user in let n = a.up_user in
    record {
      down = a.down_after;
      up = a.up_after;
      room = a.room;
      user_down = omega (arith, times_more c.args.entry.sessions c.args.entry.row.session_down_floor);
      user_up = omega (arith, times_more c.args.entry.sessions c.args.entry.row.session_up_floor);
    }
