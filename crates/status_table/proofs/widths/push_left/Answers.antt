use Rattle.std.proofs.Common.{◌∙◌, ◌+◌, ◌-◌, ℕ, List, ap, string_bytes, sym, take}
use Rattle.status_table.specs.Widths.{front, width}
use Rattle.status_table.proofs.Screens.{on_ok}
use Rattle.status_table.proofs.Texts.{left_is}
use Rattle.status_table.proofs.widths.push_left.Goals as goal

pub returns : goal.returns
returns c =
    let space = c.args.size - 1 in
    let count = c.fitting-count.result in
    let same = ap (λ (cs : List ℕ). front space cs) (c.deref.ensures.value ∙ c.in_ok-all.ensures.characters) in
    let rest = ap (λ (cs : List ℕ). count.1 + width cs) (sym same) ∙ c.fitting-count.ensures.rest in
    let some = ap (λ (cs : List ℕ). take count.0 cs) (c.deref-2.ensures.value ∙ sym c.deref.ensures.value) ∙ (c.fitting-count.ensures.front ∙ same) in
    record {
      appended = on_ok c.push_blanks.result _ _
          (λ last.
          left_is c.args.size count.1 c.args.text.now (take count.0 c.deref-2.result.now) (string_bytes c.args.line.now) (string_bytes c.push_characters.new.text) (string_bytes c.push_blanks.new.text)
          c.requires.wide rest some c.in_ok-push_characters.ensures.appended last)
          c.push_blanks.ensures.appended;
    }
