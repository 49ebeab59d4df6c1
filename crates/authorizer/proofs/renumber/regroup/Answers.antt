use Rattle.std.proofs.Common.{◌∙◌, ℕ, List, sym, ap, map, option_map, slice_index_or, string_bytes}
use Rattle.std.proofs.lemmas.List.{at_drop_all}
use Rattle.authorizer.specs.Stored.{map_of, user_of}
use Rattle.authorizer.specs.Users.{User}
use Rattle.authorizer.proofs.Renumbering.{change_each, change-all}
use Rattle.authorizer.proofs.renumber.regroup.Goals as goal

pub returns : goal.returns
returns g c =
    let change = λ (name : List ℕ) (user : User). record user { group = option_map (λ k. slice_index_or c.args.numbers.now k k) user.group } in
    record {
      users = λ is.
          sym (at_drop_all (λ es. change_each change (map string_bytes es) (map_of user_of c.loop-name.accounts)) c.args.names.now c.loop-name.name-index c.loop-name-test.false)
          ∙ c.loop-name.invariant
          ∙ ap (λ ks. change_each change ks (map_of user_of c.args.accounts.now)) is
          ∙ change-all change (map_of user_of c.args.accounts.now);
    }
