use Rattle.std.proofs.Common.{arith, ap, sym, ◌∙◌, ◌-◌, not, inl, inr, Bool, false}
use Rattle.std.proofs.lemmas.Bool.{cases_Bool, not-true, false≢true}
use Rattle.user_shares.proofs.Kinded.{head-from, head-to}
use Rattle.user_shares.proofs.kinds.is_head.Goals as goal

pub returns : goal.returns
returns c =
    let owners = c.args.owners.now in
    let before = c.args.leaf - 1 in
    record {
      head = (
        λ yes. head-from owners c.args.leaf before c.requires.ranges c.requires.leaf (omega arith) (λ same. false≢true (sym (not-true c.are_same.result yes) ∙ c.are_same.ensures.same.1 same)),
        λ head. elim (cases_Bool c.are_same.result) [
          | inl same ↦ absurd (head-to owners c.args.leaf before c.requires.leaf (omega arith) head (c.are_same.ensures.same.0 same))
          | inr other ↦ ap not other
        ],
      );
    }
