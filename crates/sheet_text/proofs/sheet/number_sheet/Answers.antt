use Rattle.std.proofs.Common.{◌≡◌, ◌∙◌, ◌<◌, ap, sym, subst, arith, ℕ, List, length, nat_eq, map, Some, None, Option, get_or}
use Rattle.std.specs.List.{position_from}
use Rattle.std.specs.Option.{is_some}
use Rattle.limit_tree.specs.Outline.{is_leaf_kind}
use Rattle.sheet_text.specs.Rows.{AreBelow}
use Rattle.sheet_text.specs.Table.{mention_at}
use Rattle.sheet_text.specs.Kept.{IsKept, kept_sheet}
use Rattle.sheet_text.specs.Views.{IsSheet, IsSheetOf}
use Rattle.sheet_text.proofs.Placed.{filter_short}
use Rattle.sheet_text.proofs.Readings.{few, is_kept, is_sheet, is_sheet_of, leaf_places, leaves_below, numbered}
use Rattle.sheet_text.proofs.sheet.number_sheet.Goals as goal

pub number_places-requires-clause-below : goal.number_places-requires-clause-below
number_places-requires-clause-below g c =
    subst (λ (n : ℕ). AreBelow n c.args.order.now) (sym c.len.ensures.len) c.requires.read.2.order_below

pub leaf_places-requires : goal.leaf_places-requires
leaf_places-requires g c =
    record { below = c.requires.read.2.order_below }

pub numbers_at-requires-clause-below : goal.numbers_at-requires-clause-below
numbers_at-requires-clause-below g c =
    let numbers = c.in_ok-leaf_numbers.leaf_numbers in
    let many : length numbers.items ≡ length c.args.nodes.now = omega (arith, numbers.ok.0, c.in_ok-leaf_numbers.ensures.length, c.len-2.ensures.len) in
    subst (λ (n : ℕ). AreBelow n c.args.places.now) (sym (ap length c.deref-2.ensures.value ∙ many)) c.requires.read.2.places_below

pub number_places-requires-clause-few : goal.number_places-requires-clause-few
number_places-requires-clause-few g c =
    let read = c.requires.read in
    omega (arith, few read.0 c.args.nodes.now read.1 c.args.order.now c.args.places.now read.2)

pub number_places-requires-2-clause-below : goal.number_places-requires-2-clause-below
number_places-requires-2-clause-below g c =
    let read = c.requires.read in
    let table = c.args.nodes.now in
    let leaves_are = c.deref.ensures.value ∙ c.in_ok-leaves.ensures.leaves in
    subst (λ (n : ℕ). AreBelow n c.deref.result.now) (sym c.len-2.ensures.len) (subst (AreBelow (length table)) (sym leaves_are) (leaves_below read.0 table read.1 c.args.order.now c.args.places.now read.2))

pub number_places-requires-2-clause-few : goal.number_places-requires-2-clause-few
number_places-requires-2-clause-few g c =
    let read = c.requires.read in
    let table = c.args.nodes.now in
    let leaves_are = c.deref.ensures.value ∙ c.in_ok-leaves.ensures.leaves in
    omega (
      arith,
      few read.0 table read.1 c.args.order.now c.args.places.now read.2,
      ap length leaves_are,
      filter_short (λ place. is_leaf_kind (mention_at table place).kind) c.args.order.now,
    )

pub numbers_at-requires-clause-there : goal.numbers_at-requires-clause-there
numbers_at-requires-clause-there g c k less =
    let read = c.requires.read in
    let table = c.args.nodes.now in
    let leaves_are = c.deref.ensures.value ∙ c.in_ok-leaves.ensures.leaves in
    let places = c.args.places.now in
    ap (λ (ns : List (Option ℕ)). is_some (get_or ns (get_or places k 0) None)) c.deref-2.ensures.value
    ∙ numbered read.0 table read.1 c.args.order.now places read.2 c.in_ok-leaf_numbers.leaf_numbers.items
    (λ place l. c.in_ok-leaf_numbers.ensures.numbers place (omega (arith, l, c.len-2.ensures.len)) ∙ ap (position_from (nat_eq place) 0) leaves_are) k less

pub returns : goal.returns
returns g c = record {
  numbered = λ text outline read.
      let table = c.args.nodes.now in
      let order = c.args.order.now in
      let places = c.args.places.now in
      let wants = c.in_ok-wants.wants.items in
      let leaves_are : c.in_ok-leaves.leaves.items ≡ leaf_places table order = c.in_ok-leaves.ensures.leaves in
      let leaf_numbers = c.in_ok-leaf_numbers.leaf_numbers.items in
      let are : (place : ℕ) → place < length table → get_or leaf_numbers place None ≡ position_from (nat_eq place) 0 (leaf_places table order) =
      λ place l. c.in_ok-leaf_numbers.ensures.numbers place (omega (arith, l, c.len-2.ensures.len)) ∙ ap (position_from (nat_eq place) 0) (c.deref.ensures.value ∙ leaves_are) in
      let is : map Some wants ≡ map (λ place. get_or leaf_numbers place None) places = c.in_ok-wants.ensures.numbers ∙ ap (λ (ns : List (Option ℕ)). map (λ place. get_or ns place None) places) c.deref-2.ensures.value in
      let numbers_many : length c.in_ok-numbers.numbers.items ≡ length table = omega (arith, c.in_ok-numbers.numbers.ok.0, c.in_ok-numbers.ensures.length, c.len.ensures.len) in
      record {
        sheet_of = subst (λ (ls : List ℕ). IsSheetOf text (kept_sheet table outline order ls wants)) (sym leaves_are)
            (is_sheet_of text table outline order places read wants leaf_numbers are is);
        whole = subst (λ (ls : List ℕ). IsSheet (kept_sheet table outline order ls wants)) (sym leaves_are)
            (is_sheet text table outline order places read wants leaf_numbers are is);
        kept = subst (λ (ls : List ℕ). IsKept table order ls c.in_ok-numbers.numbers.items) (sym leaves_are)
            (is_kept text table outline order places read c.in_ok-numbers.numbers.items numbers_many
            (λ place l. c.in_ok-numbers.ensures.numbers place (omega (arith, l, c.len.ensures.len))));
      };
}
