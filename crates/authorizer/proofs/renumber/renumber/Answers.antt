use Rattle.std.proofs.Common.{◌∙◌, sym, ap, map}
use Rattle.std.proofs.lemmas.List.{at_drop_all}
use Rattle.authorizer.specs.Renumbered.{numbered_item}
use Rattle.authorizer.specs.Stored.{map_of, user_of}
use Rattle.authorizer.proofs.Renumbering.{set_numbers, planned-numbers}
use Rattle.authorizer.proofs.renumber.renumber.Goals as goal

pub returns : goal.returns
returns g c = record {
  users = λ number is.
      sym (at_drop_all (λ es. set_numbers (map numbered_item es) (map_of user_of c.loop-entry.accounts)) c.args.plan.now c.loop-entry.entry-index c.loop-entry-test.false)
      ∙ c.loop-entry.invariant
      ∙ ap (λ es. set_numbers es (map_of user_of c.args.accounts.now)) is
      ∙ planned-numbers number (map_of user_of c.args.accounts.now);
}
