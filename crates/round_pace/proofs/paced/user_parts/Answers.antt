use Rattle.std.proofs.Common.{subst, sym}
use Rattle.round_pace.specs.declared.credit.Credit.{Credit}
use Rattle.round_pace.specs.Credits.{IsCredit}
use Rattle.round_pace.proofs.CreditsFit.{group_fits}
use Rattle.round_pace.proofs.paced.user_parts.Goals as goal

pub parts_left-group-requires : goal.parts_left-group-requires
parts_left-group-requires c = record {
  credit = subst (λ (x : Credit). IsCredit x) (sym c.group_credit.ensures.credit) (group_fits c.args.way c.args.groups.now c.args.user.row.group c.requires.groups);
}
