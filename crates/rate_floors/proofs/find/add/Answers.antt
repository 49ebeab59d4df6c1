use Rattle.std.proofs.Common.{sym, subst, ◌∙◌, ap, set, List}
use Rattle.rate_floors.specs.declared.find.GroupPromise.{GroupPromise}
use Rattle.rate_floors.specs.Promises.{added, IsInGroup, HasNone}
use Rattle.rate_floors.proofs.SumLemmas.{floors-set, floors-none}
use Rattle.rate_floors.proofs.find.add.Goals as goal

pub returns-in-Some : goal.returns-in-Some
returns-in-Some g c = record {
  added =
      ap (λ (x : GroupPromise). set c.args.groups.now.items c.in-Some.at (record { row = x.row; down = added x.down c.args.row.session_down_floor; up = added x.up c.args.row.session_up_floor })) c.index-entry.ensures
      ∙ sym (floors-set added c.args.row c.args.groups.now.items c.in-Some.at c.index-entry.result.now c.requires.rising (subst (λ (gs : List GroupPromise). IsInGroup gs c.args.row.group c.in-Some.at) c.deref.ensures.value c.in-Some.ensures.place));
}

pub returns-in_default : goal.returns-in_default
returns-in_default g c = record { added = sym (floors-none added c.args.row c.args.groups.now.items (subst (λ (gs : List GroupPromise). HasNone gs c.args.row.group) c.deref.ensures.value c.in_default.ensures.place)) }
