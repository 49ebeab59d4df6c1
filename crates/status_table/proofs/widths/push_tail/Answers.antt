use Rattle.std.proofs.Common.{◌≡◌, ◌∙◌, ◌++◌, ◌-◌, ℕ, List, true, false, ap, append_assoc, chars, codes, drop, encode_utf8_all, length, nat_le, string_bytes, sym, take}
use Rattle.std.proofs.lemmas.Bool.{le-leb, lt-leb}
use Rattle.status_table.specs.Widths.{ending, width}
use Rattle.status_table.proofs.Screens.{on_ok}
use Rattle.status_table.proofs.Texts.{tail_cut, tail_whole, to_end}
use Rattle.status_table.proofs.widths.push_tail.Goals as goal

pub returns-then-width-size : goal.returns-then-width-size
returns-then-width-size c =
    let size = c.args.size in
    let text = c.args.text.now in
    let wide = ap (λ (cs : List ℕ). width cs) (sym (c.deref.ensures.value ∙ c.in_ok-all.ensures.characters)) ∙ sym c.width.ensures.width in
    let fits : nat_le (width (chars text)) size ≡ true = ap (λ (n : ℕ). nat_le n size) wide ∙ le-leb c.width.result size c.if-width-size.true in
    record {
      appended = on_ok c.push_word.result _ _
          (λ is. is ∙ ap (λ (l : List ℕ). string_bytes c.args.line.now ++ l) (sym (tail_whole size text fits)))
          c.push_word.ensures.word;
    }

pub returns : goal.returns
returns c =
    let size = c.args.size in
    let text = c.args.text.now in
    let old = string_bytes c.args.line.now in
    let place = c.place_of_end-place.result in
    let dots = codes "..." in
    let all = c.deref-3.result.now in
    let kept = take (length all - place) (drop place all) in
    let wide = ap (λ (cs : List ℕ). width cs) (sym (c.deref.ensures.value ∙ c.in_ok-all.ensures.characters)) ∙ sym c.width.ensures.width in
    let cut : nat_le (width (chars text)) size ≡ false = ap (λ (n : ℕ). nat_le n size) wide ∙ lt-leb c.width.result size c.if-width-size.false in
    let end = to_end place all ∙ ap (λ (cs : List ℕ). drop place cs) (c.deref-3.ensures.value ∙ sym c.deref-2.ensures.value)
    ∙ (c.place_of_end-place.ensures.end ∙ ap (λ (cs : List ℕ). ending (size - 3) cs) (c.deref-2.ensures.value ∙ c.in_ok-all.ensures.characters)) in
    record {
      appended = on_ok c.push_characters.result _ _
          (λ last.
          last
          ∙ (ap (λ (l : List ℕ). l ++ encode_utf8_all kept) c.in_ok-push_word.ensures.word
          ∙ (append_assoc old dots (encode_utf8_all kept)
          ∙ (ap (λ (cs : List ℕ). old ++ (dots ++ encode_utf8_all cs)) end ∙ ap (λ (l : List ℕ). old ++ l) (sym (tail_cut size text cut))))))
          c.push_characters.ensures.appended;
    }
