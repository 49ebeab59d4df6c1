use Rattle.std.proofs.Common.{◌≡◌, ◌∙◌, ℕ, List, ◌++◌, ap, codes, unwrap_or, Option}
use Rattle.std.specs.Prelude.{string_bytes}
use Rattle.std.specs.Option.{option_and_then}
use Rattle.limit_tree.specs.Sharing.{sum_over}
use Rattle.limit_tree.specs.Outline.{limits, leaves_under}
use Rattle.limit_tree.specs.declared.place.Place.{Place}
use Rattle.sheet_commands.specs.Checking.{node_word, number_word}
use Rattle.text_io.proofs.Reported.{on_ok}
use Rattle.sheet_commands.proofs.verdict.push_over_limit.Goals as goal

pub returns : goal.returns
returns g c = record {
  words = on_ok c.push_numbers.result _ _ c.push_numbers.ensures.words (λ words.
      let sheet = c.args.sheet.now in
      let gs = c.args.grants.now in
      let node = c.args.node in
      let old = string_bytes c.args.text.now in
      let limit_of : List Place → ℕ = λ o. unwrap_or (option_and_then (λ b. b.limit) ((limits o).branch node)) 0 in
      let sum_of : List Place → ℕ = λ o. sum_over (leaves_under o node) gs in
      let limit : c.unwrap_or-limit.result ≡ limit_of sheet.outline =
      c.unwrap_or-limit.ensures ∙ ap (λ (o : Option ℕ). unwrap_or o 0) c.limit.ensures.limit ∙ ap limit_of c.tree-2.ensures.tree in
      let sum : c.sum_under-sum.result ≡ sum_of sheet.outline = c.sum_under-sum.ensures.sum ∙ ap sum_of c.tree.ensures.tree in
      words ∙ ap (λ (p : List ℕ). old ++ (codes "3 OverLimit" ++ (codes " " ++ p) ++ number_word c.sum_under-sum.result ++ number_word c.unwrap_or-limit.result)) c.path.ensures.path
      ∙ ap (λ (n : ℕ). old ++ (codes "3 OverLimit" ++ node_word sheet node ++ number_word n ++ number_word c.unwrap_or-limit.result)) sum
      ∙ ap (λ (n : ℕ). old ++ (codes "3 OverLimit" ++ node_word sheet node ++ number_word (sum_of sheet.outline) ++ number_word n)) limit);
}
