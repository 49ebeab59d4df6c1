use Rattle.std.proofs.Common.{◌∙◌, ◌++◌, sym, ap}
use Rattle.virtual_path.proofs.Beneath.{beneath_answer, not_beneath}
use Rattle.virtual_path.proofs.walk.is_beneath.Goals as goal

pub returns-in-Some : goal.returns-in-Some
returns-in-Some c =
    let strips = c.in-Some.ensures.cases in
    let whole = strips.1.1 ∙ ap (λ t. c.args.above.now ++ t) (sym strips.2) in
    record {
      beneath = λ path other names others text above.
          beneath_answer path other c.in-Some.rest.now _ names others (sym text ∙ whole ∙ ap (λ t. t ++ c.in-Some.rest.now) above) c.is_end_of_name.ensures.end;
    }

pub returns-in-None : goal.returns-in-None
returns-in-None c = record {
  beneath = λ path other names others text above.
      not_beneath path other (λ rest same. c.in-None.ensures.cases rest (text ∙ same ∙ ap (λ t. t ++ rest) (sym above)));
}
