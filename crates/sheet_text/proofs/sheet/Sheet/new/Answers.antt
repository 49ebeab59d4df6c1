use Rattle.std.proofs.Common.{List, ℕ, sym, subst}
use Rattle.limit_tree.specs.declared.place.Place.{Place}
use Rattle.sheet_text.specs.Paths.{Octets}
use Rattle.sheet_text.specs.Kept.{IsNumbered, IsRead}
use Rattle.sheet_text.proofs.sheet.Sheet.new.Goals as goal

pub number_sheet-requires : goal.number_sheet-requires
number_sheet-requires g c =
    let read = c.requires.read in
    record { read = (read.0, c.args.tree, subst (λ (order : List ℕ). IsRead read.0 c.args.nodes c.args.tree order c.args.places.now) (sym c.deref.ensures.value) read.1) }

pub invariant_of-result : goal.invariant_of-result
invariant_of-result g c =
    let read = c.requires.read in
    let kept = c.in_ok-kept.kept in
    let All : List ℕ → Type 0 = λ order. (text : Octets) (outline : List Place) → IsRead text c.args.nodes outline order c.args.places.now
    → IsNumbered text c.args.nodes outline order kept.leaves.items kept.numbers.items kept.wants.items in
    let all = subst All c.deref.ensures.value c.in_ok-kept.ensures.numbered in
    let is = all read.0 c.args.tree read.1 in
    (is.whole, is.kept)

pub returns : goal.returns
returns g c =
    let kept = c.in_ok-kept.kept in
    let All : List ℕ → Type 0 = λ order. (text : Octets) (outline : List Place) → IsRead text c.args.nodes outline order c.args.places.now
    → IsNumbered text c.args.nodes outline order kept.leaves.items kept.numbers.items kept.wants.items in
    let all = subst All c.deref.ensures.value c.in_ok-kept.ensures.numbered in
    record { sheet = λ text read. (all text c.args.tree read).sheet_of }
