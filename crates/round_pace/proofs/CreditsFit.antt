-- The credit of a group is one that limits can have.
use Rattle.std.proofs.Common.{ℕ, suc, ◌≤◌, Bool, true, false, cond, List, [], ◌∷◌, sym, subst, arith, Option, Some, None}
use Rattle.std.specs.Prelude.{nat_eq}
use Rattle.std.specs.List.{All}
use Rattle.line_rates.specs.declared.ask.Way.{Way}
use Rattle.line_rates.specs.declared.ask.Way.TheVariants.{Down, Up}
use Rattle.line_rates.proofs.RowLemmas.{first_row, get-by_number}
use Rattle.round_pace.specs.declared.paced.GroupPace.{GroupPace}
use Rattle.round_pace.specs.Credits.{IsCredit}
use Rattle.round_pace.specs.Earned.{most_kept}
use Rattle.round_pace.specs.Paced.{group_key, no_credit, IsGroupPace}
use Rattle.round_pace.specs.Rows.{group_credit, group_row_credit}
use Rattle.round_pace.specs.Spent.{credit_of}

no_limit : IsCredit (no_credit 0)
no_limit = record { rate_fits = omega arith; left_fits = none (most_kept 0) }
  where
    none : (x : ℕ) → 0 ≤ x
    none x = omega arith

of_way : (w : Way) (x : GroupPace) → IsGroupPace x → IsCredit (credit_of w x.down x.up)
of_way Down x is = is.down
of_way Up x is = is.up

first_fits : (w : Way) (g : ℕ) (gs : List GroupPace) → All IsGroupPace gs → IsCredit (group_row_credit w (first_row group_key g gs))
first_fits w g [] all = no_limit
first_fits w g (x ∷ gs) all = go (first_fits w g gs (λ k d lt. all (suc k) d (omega (arith, lt)))) (nat_eq (group_key x) g)
  where
    go : IsCredit (group_row_credit w (first_row group_key g gs)) → (b : Bool) → IsCredit (group_row_credit w (cond b (Some x) (first_row group_key g gs)))
    go more true = of_way w x (all 0 x (omega arith))
    go more false = more

pub group_fits : (w : Way) (gs : List GroupPace) (group : Option ℕ) → All IsGroupPace gs → IsCredit (group_credit w gs group)
group_fits w gs None all = no_limit
group_fits w gs (Some g) all = subst (λ (o : Option GroupPace). IsCredit (group_row_credit w o)) (sym (get-by_number group_key g gs)) (first_fits w g gs all)
