use Rattle.std.proofs.Common.{◌∙◌, ◌++◌, sym, ap, map, string_bytes, append-nil}
use Rattle.std.proofs.lemmas.Map.Iter.{rest_all}
use Rattle.std.specs.Map.Iter.{deref}
use Rattle.authorizer.specs.Stored.{user_of}
use Rattle.authorizer.proofs.Renumbering.{keys-map_of}
use Rattle.authorizer.proofs.renumber.names.Goals as goal

pub returns : goal.returns
returns g c =
    let none = rest_all deref c.loop-name.name-iterator c.next.new.self c.next.result c.in-None.is c.next.ensures.steps in
    record {
      names = sym (append-nil (map string_bytes c.loop-name.names.items))
          ∙ ap (λ es. map string_bytes c.loop-name.names.items ++ map string_bytes es) (sym none)
          ∙ c.loop-name.invariant
          ∙ keys-map_of user_of c.args.accounts.now c.keys-name-items.ensures.ordered;
    }
