use Rattle.std.proofs.Common.{[], ◌∷◌, refl, sym, subst}
use Rattle.control_session.specs.Sides.SideCall.{Opens, Connects, Drops, Starts, Aborts}
use Rattle.handler_hooks.specs.Events.{event_of}
use Rattle.session_table.specs.declared.actions.Action.{Action}
use Rattle.control_session.specs.Calls.HostCall.{Asked, Noted}
use Rattle.control_session.specs.Turns.{Carried}
use Rattle.control_session.proofs.carrying.carry.Goals as goal

pub returns-in-Hook : goal.returns-in-Hook
returns-in-Hook g c = record {
  carried = (
    Noted (event_of c.in-Hook.call) ∷ [],
    (c.note.new.self, c.note.ensures, refl),
    subst (λ (a : Action _ _ _). Carried {A = g.row.A.Denot} {S = g.row.H-Store.Denot} a c.args.lost (Noted (event_of c.in-Hook.call) ∷ []) c.args.lost) (sym c.in-Hook.is) (refl, refl),
  );
}

pub returns-in-OpenPassive : goal.returns-in-OpenPassive
returns-in-OpenPassive g c = record {
  carried = (
    Asked Opens ∷ [],
    (c.open_passive.new.self, c.open_passive.ensures, refl),
    subst (λ (a : Action _ _ _). Carried {A = g.row.A.Denot} {S = g.row.H-Store.Denot} a c.args.lost (Asked Opens ∷ []) c.args.lost) (sym c.in-OpenPassive.is) (refl, refl),
  );
}

pub returns-in-ConnectTo : goal.returns-in-ConnectTo
returns-in-ConnectTo g c = record {
  carried = (
    Asked (Connects c.in-ConnectTo.to) ∷ [],
    (c.connect_to.new.self, c.connect_to.ensures, refl),
    subst (λ (a : Action _ _ _). Carried {A = g.row.A.Denot} {S = g.row.H-Store.Denot} a c.args.lost (Asked (Connects c.in-ConnectTo.to) ∷ []) c.args.lost) (sym c.in-ConnectTo.is) (refl, refl),
  );
}

pub returns-in-DropData : goal.returns-in-DropData
returns-in-DropData g c = record {
  carried = (
    Asked Drops ∷ [],
    (c.drop_data.new.self, c.drop_data.ensures, refl),
    subst (λ (a : Action _ _ _). Carried {A = g.row.A.Denot} {S = g.row.H-Store.Denot} a c.args.lost (Asked Drops ∷ []) c.args.lost) (sym c.in-DropData.is) (refl, refl),
  );
}

pub returns-in-Start : goal.returns-in-Start
returns-in-Start g c = record {
  carried = (
    Asked (Starts c.in-Start.job) ∷ [],
    (c.start.new.self, c.start.ensures, refl),
    subst (λ (a : Action _ _ _). Carried {A = g.row.A.Denot} {S = g.row.H-Store.Denot} a c.args.lost (Asked (Starts c.in-Start.job) ∷ []) c.args.lost) (sym c.in-Start.is) (refl, refl),
  );
}

pub returns-in-Abort : goal.returns-in-Abort
returns-in-Abort g c = record {
  carried = (
    Asked Aborts ∷ [],
    (c.abort.new.self, c.abort.ensures, refl),
    subst (λ (a : Action _ _ _). Carried {A = g.row.A.Denot} {S = g.row.H-Store.Denot} a c.args.lost (Asked Aborts ∷ []) c.args.lost) (sym c.in-Abort.is) (refl, refl),
  );
}
