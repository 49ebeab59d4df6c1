use Rattle.std.proofs.Common.{◌≡◌, ◌∙◌, ◌<◌, ap, sym, arith, List, length, None}
use Rattle.std.proofs.lemmas.List.{get_or_read}
use Rattle.sheet_text.specs.Paths.{Path, names_of, place_of}
use Rattle.sheet_text.specs.Tree.{paths_to}
use Rattle.sheet_text.specs.Views.{SheetValue}
use Rattle.sheet_text.proofs.Placed.{no_number, node_number, place_found}
use Rattle.sheet_text.proofs.sheet.Sheet.node_at.Goals as goal

pub returns-in_err-place : goal.returns-in_err-place
returns-in_err-place g c =
    let table = c.self.inside.nodes in
    let path = names_of c.args.path.now in
    let order = c.self.inside.order.items in
    let kept = c.self.invariant.1 in
    let seen : paths_to table order ≡ c.args.self.now.paths = ap (λ (s : SheetValue). s.paths) c.self.view_is in
    record {
      node = c.from_residual.ensures ∙ sym (no_number table path 0 order kept.once kept.order_below (sym c.place.ensures.place ∙ c.in_err-place.was)) ∙ ap (λ (ps : List Path). place_of ps path) seen;
    }

pub index-requires : goal.index-requires
index-requires g c =
    let kept = c.self.invariant.1 in
    let found = place_found c.self.inside.nodes (names_of c.args.path.now) c.in_ok-place.place (sym c.place.ensures.place ∙ c.in_ok-place.was) in
    omega (arith, found.0, kept.numbers_length, c.self.inside.numbers.ok.0)

pub returns : goal.returns
returns g c =
    let table = c.self.inside.nodes in
    let path = names_of c.args.path.now in
    let place = c.in_ok-place.place in
    let order = c.self.inside.order.items in
    let kept = c.self.invariant.1 in
    let seen : paths_to table order ≡ c.args.self.now.paths = ap (λ (s : SheetValue). s.paths) c.self.view_is in
    let there = sym c.place.ensures.place ∙ c.in_ok-place.was in
    let found = place_found table path place there in
    let within : place < length c.self.inside.numbers.items = omega (arith, found.0, kept.numbers_length) in
    record {
      node = get_or_read c.self.inside.numbers.items place c.index.result.now within c.index.ensures None ∙ kept.numbers_are place found.0 ∙ node_number table path place order kept.once kept.order_below there ∙ ap (λ (ps : List Path). place_of ps path) seen;
    }
