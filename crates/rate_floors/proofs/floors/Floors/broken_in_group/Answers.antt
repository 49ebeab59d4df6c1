use Rattle.std.proofs.Common.{arith, ◌+◌, ◌<◌, ◌^◌, ◌∙◌, sym, ap, subst, List, rules}
use Rattle.rate_floors.specs.declared.find.GroupPromise.{GroupPromise}
use Rattle.rate_floors.specs.Carried.{broken_sums}
use Rattle.rate_floors.specs.Promises.{Promises, IsInGroup, HasNone}
use Rattle.rate_floors.proofs.FloorLemmas.{group_room}
use Rattle.rate_floors.proofs.RefusalLemmas.{refused_none, refused_some}
use Rattle.rate_floors.proofs.floors.Floors.broken_in_group.Goals as goal

pub overflow_add-group : goal.overflow_add-group
overflow_add-group g c = let room = subst (λ (x : GroupPromise). x.down + c.args.entry.row.session_down_floor < 2 ^ 64) (sym c.index-group.ensures) (group_room c.args.self.now c.self.inside.promised_down c.self.inside.promised_up c.self.inside.groups.items c.self.inside.users.items c.args.entry (ap (λ (p : Promises). p.users) c.self.view_is) c.self.invariant.reported c.requires.stands c.in-Some.at c.index-group.result.now (search rules)).0 in omega arith

pub overflow_add-group-in-Some : goal.overflow_add-group-in-Some
overflow_add-group-in-Some g c = let room = subst (λ (x : GroupPromise). x.up + c.args.entry.row.session_up_floor < 2 ^ 64) (sym c.index-group.ensures) (group_room c.args.self.now c.self.inside.promised_down c.self.inside.promised_up c.self.inside.groups.items c.self.inside.users.items c.args.entry (ap (λ (p : Promises). p.users) c.self.view_is) c.self.invariant.reported c.requires.stands c.in-Some.at c.index-group.result.now (search rules)).1 in omega arith

pub returns-in-None : goal.returns-in-None
returns-in-None g c = record { broken = refused_none c.args.self.now c.self.inside.promised_down c.self.inside.promised_up c.self.inside.groups.items c.self.inside.users.items c.args.entry (ap (λ (p : Promises). p.users) c.self.view_is) c.self.invariant.reported c.requires.stands (ap (λ (p : Promises). p.rates.groups) (sym c.self.view_is)) (subst (λ (gs : List GroupPromise). HasNone gs c.args.entry.row.group) c.deref.ensures.value c.in-None.ensures.place) }

pub returns-in-Some : goal.returns-in-Some
returns-in-Some g c = record {
  broken = c.broken_sums.ensures.broken
      ∙ ap (λ (x : GroupPromise). broken_sums (record { row = x.row; down = x.down + c.args.entry.row.session_down_floor; up = x.up + c.args.entry.row.session_up_floor })) c.index-group.ensures
      ∙ refused_some c.args.self.now c.self.inside.promised_down c.self.inside.promised_up c.self.inside.groups.items c.self.inside.users.items c.args.entry (ap (λ (p : Promises). p.users) c.self.view_is) c.self.invariant.reported c.requires.stands (ap (λ (p : Promises). p.rates.groups) (sym c.self.view_is)) c.in-Some.at c.index-group.result.now (subst (λ (gs : List GroupPromise). IsInGroup gs c.args.entry.row.group c.in-Some.at) c.deref.ensures.value c.in-Some.ensures.place);
}
