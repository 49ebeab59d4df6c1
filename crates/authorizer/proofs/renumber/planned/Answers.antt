use Rattle.std.proofs.Common.{◌∙◌, ◌++◌, sym, ap, map, append-nil}
use Rattle.std.proofs.lemmas.Map.Iter.{rest_all}
use Rattle.std.specs.Map.Iter.{deref_pair}
use Rattle.authorizer.specs.Renumbered.{numbered_item}
use Rattle.authorizer.specs.Users.{Accounts}
use Rattle.authorizer.specs.Stored.{map_of, user_of}
use Rattle.authorizer.proofs.Renumbering.{planned_by, plan_is}
use Rattle.authorizer.proofs.renumber.planned.Goals as goal

pub returns : goal.returns
returns g c =
    let earlier : Accounts = record { users = map_of user_of c.args.earlier.now; next = c.args.next } in
    let none = rest_all deref_pair c.loop-name.name-iterator c.next.new.self c.next.result c.in-None.is c.next.ensures.steps in
    record {
      plan = sym (append-nil (map numbered_item c.loop-name.plan.items))
          ∙ ap (λ es. map numbered_item c.loop-name.plan.items ++ planned_by earlier c.args.numbers.now es) (sym none)
          ∙ c.loop-name.invariant
          ∙ plan_is earlier c.args.accounts.now c.args.numbers.now c.into_iter-name-iterator.ensures.into_iter_gives.5 c.requires.all c.requires.room;
    }
