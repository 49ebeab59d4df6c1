use Rattle.std.proofs.Common.{arith, ◌≡◌, ◌∙◌, ◌<◌, ℕ, None, ap, sym, length, get_or, vec_len, Vec, Option, true, refl}
use Rattle.std.specs.Option.{is_some}
use Rattle.std.proofs.lemmas.List.{get_or_read}
use Rattle.sheet_text.proofs.Numbered.{number_new, number_old, none_of, some_of}
use Rattle.sheet_text.proofs.numbering.number_places.Goals.{then-is_none, else-is_none}
use Rattle.sheet_text.proofs.numbering.number_places.Goals as goal

pub loop-number-preserved : goal.loop-number-preserved
loop-number-preserved g c =
    let order = c.args.order.now in
    let i = c.loop-number.number in
    let place = get_or order i 0 in
    let numbers = c.loop-number.numbers.items in
    let within : place < c.args.count = c.requires.below i c.loop-number-test.true in
    let many : length numbers ≡ c.args.count = omega (arith, c.loop-number.invariant.length, c.loop-number.numbers.ok.0) in
    let here : c.index.result.now ≡ get_or numbers place None = get_or_read numbers place c.index.result.now (omega arith) c.index.ensures None in
    elim c.if-is_none.branch [
      | then-is_none w ↦
          let none : get_or numbers place None ≡ None = sym here ∙ none_of c.index.result.now c.is_none.result c.is_none.ensures w.if-is_none.true in
          record {
            length = ap (λ (v : Vec (Option ℕ) g.row.A.Denot). vec_len v) w.numbers-is ∙ c.loop-number.invariant.length;
            numbers = λ q l. ap (λ (v : Vec (Option ℕ) g.row.A.Denot). get_or v.items q None) w.numbers-is
                ∙ number_new numbers order i place c.args.count c.loop-number-test.true many refl within none c.loop-number.invariant.numbers q l;
          }
      | else-is_none w ↦
          let some : is_some (get_or numbers place None) ≡ true = sym (ap is_some here) ∙ some_of c.index.result.now c.is_none.result c.is_none.ensures w.if-is_none.false in
          record {
            length = ap (λ (v : Vec (Option ℕ) g.row.A.Denot). vec_len v) w.numbers-is ∙ c.loop-number.invariant.length;
            numbers = λ q l. ap (λ (v : Vec (Option ℕ) g.row.A.Denot). get_or v.items q None) w.numbers-is
                ∙ number_old numbers order i place c.args.count c.loop-number-test.true refl within some c.loop-number.invariant.numbers q l;
          }
    ]
