use Rattle.std.proofs.Common.{List, [], ◌++◌, refl, sym, subst, append_assoc}
use Rattle.std.proofs.lemmas.List.{append-nil}
use Rattle.std.specs.Vec.Iter.{into_iter_items}
use Rattle.control_session.specs.Calls.{HostCall}
use Rattle.control_session.specs.Turns.{Carries}
use Rattle.session_table.specs.declared.actions.Action.{Action}
use Rattle.control_session.proofs.Going.{carries_step, chain_more}
use Rattle.control_session.proofs.carrying.carry_all.Goals as goal

pub loop-action-preserved : goal.loop-action-preserved
loop-action-preserved g c =
    let inv = c.loop-action.invariant in
    let now = c.carry-lost.ensures.carried in (
      inv.0 ++ now.0,
      chain_more _ _ _ _ inv.0 now.0 inv.1 now.1,
      λ rest end carries. subst (λ (x : List (HostCall _ _ _ _)). Carries c.args.actions.items c.args.lost x end) (sym (append_assoc inv.0 now.0 rest))
          (inv.2 (now.0 ++ rest) end (carries_step c.in-Some.action (into_iter_items c.next_of.new.left) (into_iter_items c.loop-action.left) _ _ _ now.0 rest c.in-Some.ensures.first now.2 carries)),
    )

pub returns : goal.returns
returns g c =
    let inv = c.loop-action.invariant in
    record {
      carries = (
        inv.0,
        inv.1,
        subst (λ (x : List (HostCall _ _ _ _)). Carries c.args.actions.items c.args.lost x c.loop-action.lost) (append-nil inv.0)
            (inv.2 [] c.loop-action.lost (subst (λ (x : List (Action _ _ _)). Carries x c.loop-action.lost [] c.loop-action.lost) (sym c.in_default.ensures.first) (refl, refl))),
      );
    }
