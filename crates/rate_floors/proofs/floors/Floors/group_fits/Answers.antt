use Rattle.std.proofs.Common.{rules, ◌+◌, ◌<◌, ◌^◌, ◌∙◌, sym, ap, subst, List, ◌&&◌}
use Rattle.rate_floors.specs.declared.find.GroupPromise.{GroupPromise}
use Rattle.rate_floors.specs.Promises.{Promises, keeps, IsInGroup, HasNone}
use Rattle.rate_floors.proofs.FloorLemmas.{group_room, group_none, group_some}
use Rattle.rate_floors.proofs.floors.Floors.group_fits.Goals as goal

pub returns-in-None : goal.returns-in-None
returns-in-None g c = record { fits = sym (group_none c.args.self.now c.self.inside.promised_down c.self.inside.promised_up c.self.inside.groups.items c.self.inside.users.items c.args.entry (ap (λ (p : Promises). p.users) c.self.view_is) c.self.invariant.reported c.requires.stands (ap (λ (p : Promises). p.rates.groups) (sym c.self.view_is)) (subst (λ (gs : List GroupPromise). HasNone gs c.args.entry.row.group) c.deref.ensures.value c.in-None.ensures.place)) }

pub group_keeps-requires-clause-down : goal.group_keeps-requires-clause-down
group_keeps-requires-clause-down g c = subst (λ (x : GroupPromise). x.down + c.args.entry.row.session_down_floor < 2 ^ 64) (sym c.index.ensures) (group_room c.args.self.now c.self.inside.promised_down c.self.inside.promised_up c.self.inside.groups.items c.self.inside.users.items c.args.entry (ap (λ (p : Promises). p.users) c.self.view_is) c.self.invariant.reported c.requires.stands c.in-Some.at c.index.result.now (search rules)).0

pub group_keeps-requires-clause-up : goal.group_keeps-requires-clause-up
group_keeps-requires-clause-up g c = subst (λ (x : GroupPromise). x.up + c.args.entry.row.session_up_floor < 2 ^ 64) (sym c.index.ensures) (group_room c.args.self.now c.self.inside.promised_down c.self.inside.promised_up c.self.inside.groups.items c.self.inside.users.items c.args.entry (ap (λ (p : Promises). p.users) c.self.view_is) c.self.invariant.reported c.requires.stands c.in-Some.at c.index.result.now (search rules)).1

pub returns-in-Some : goal.returns-in-Some
returns-in-Some g c = record {
  fits = c.group_keeps.ensures.fits
      ∙ ap (λ (x : GroupPromise). keeps (x.down + c.args.entry.row.session_down_floor) x.row.down && keeps (x.up + c.args.entry.row.session_up_floor) x.row.up) c.index.ensures
      ∙ sym (group_some c.args.self.now c.self.inside.promised_down c.self.inside.promised_up c.self.inside.groups.items c.self.inside.users.items c.args.entry (ap (λ (p : Promises). p.users) c.self.view_is) c.self.invariant.reported c.requires.stands (ap (λ (p : Promises). p.rates.groups) (sym c.self.view_is)) c.in-Some.at c.index.result.now (subst (λ (gs : List GroupPromise). IsInGroup gs c.args.entry.row.group c.in-Some.at) c.deref.ensures.value c.in-Some.ensures.place));
}
