use Rattle.std.proofs.Common.{◌∙◌, ◌++◌, ◌∷◌, sym, ap, rules}
use Rattle.std.proofs.lemmas.Result.{on_ok_weaker}
use Rattle.virtual_path.specs.Path.{slashed}
use Rattle.virtual_path.proofs.Texts.{slashed-push}
use Rattle.virtual_path.proofs.Walks.{GoesDown, goes_down, through-down}
use Rattle.virtual_path.proofs.walk.follow.Goals as goal

pub returns : goal.returns
returns g c =
    let down : GoesDown c.args.name.now = goes_down _ (search rules) (search rules) (search rules) in
    record {
      follows = on_ok_weaker c.enter.result
          (λ bytes path names text. bytes ∙ ap (λ t. t ++ 47 ∷ c.args.name.now) text ∙ sym (slashed-push path c.args.name.now) ∙ ap slashed (sym (through-down path c.args.name.now down)))
          c.enter.ensures.enters;
    }
