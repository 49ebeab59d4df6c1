use Rattle.std.proofs.Common.{◌≡◌, ◌∙◌, ◌<◌, ap, sym, arith, List, [], length, get_or, nat_eq}
use Rattle.std.proofs.lemmas.List.{get_or_read, length-map}
use Rattle.sheet_text.specs.Paths.{Path, names_of, same_path}
use Rattle.sheet_text.specs.Table.{path_at}
use Rattle.sheet_text.specs.Tree.{paths_to}
use Rattle.sheet_text.specs.Views.{SheetValue}
use Rattle.sheet_text.proofs.Placed.{leaf_other, leaf_same}
use Rattle.sheet_text.proofs.sheet.Sheet.is_leaf_path.Goals as goal

pub returns-in-Some : goal.returns-in-Some
returns-in-Some g c =
    let table = c.self.inside.nodes in
    let leaves = c.self.inside.leaves.items in
    let kept = c.self.invariant.1 in
    let seen : paths_to table leaves ≡ c.args.self.now.leaves = ap (λ (s : SheetValue). s.leaves) c.self.view_is in
    let within : c.args.leaf < length leaves = omega (arith, c.requires.leaf, sym (ap length seen), length-map leaves (path_at table)) in
    record {
      same = ap (nat_eq c.in-Some.place) (get_or_read leaves c.args.leaf c.index.result.now within c.index.ensures 0)
          ∙ leaf_same table (names_of c.args.path.now) c.in-Some.place c.args.leaf leaves kept.once kept.leaves_below within (sym c.place.ensures.place ∙ c.in-Some.is)
          ∙ ap (λ (ps : List Path). same_path (get_or ps c.args.leaf []) (names_of c.args.path.now)) seen;
    }

pub returns-in-None : goal.returns-in-None
returns-in-None g c =
    let table = c.self.inside.nodes in
    let leaves = c.self.inside.leaves.items in
    let kept = c.self.invariant.1 in
    let seen : paths_to table leaves ≡ c.args.self.now.leaves = ap (λ (s : SheetValue). s.leaves) c.self.view_is in
    let within : c.args.leaf < length leaves = omega (arith, c.requires.leaf, sym (ap length seen), length-map leaves (path_at table)) in
    record {
      same = leaf_other table (names_of c.args.path.now) c.args.leaf leaves kept.once kept.leaves_below within (sym c.place.ensures.place ∙ c.in-None.is)
          ∙ ap (λ (ps : List Path). same_path (get_or ps c.args.leaf []) (names_of c.args.path.now)) seen;
    }
