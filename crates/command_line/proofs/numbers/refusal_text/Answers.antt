use Rattle.std.proofs.Common.{◌∙◌, ◌++◌, ℕ, List, ap₂}
use Rattle.command_line.specs.Numbers.{refusal_head, refusal_range}
use Rattle.command_line.proofs.numbers.refusal_text.Goals as goal

pub returns : goal.returns
returns c =
    let form = c.args.form in
    let option = c.args.option.now in
    let value = c.args.value.now in
    let head = c.in_ok-text.ensures.head ∙ ap₂ (λ (name kind : List ℕ). refusal_head name kind option value) c.name.ensures.name c.kind.ensures.kind in
    let range = ap₂ refusal_range c.least.ensures.least c.most.ensures.most in
    record { text = c.in_ok-push_range.ensures.range ∙ ap₂ (λ (a b : List ℕ). a ++ b) head range }
