use Rattle.std.proofs.Common.{◌≡◌, ◌∙◌, ap, sym, subst, arith, ℕ, List, None, Ok, count_by, length, ◌==◌}
use Rattle.sheet_text.specs.Paths.{Path, names_of}
use Rattle.sheet_text.specs.Table.{Table, noted, mention_all, path_at, place_fault}
use Rattle.sheet_text.specs.Mentions.{Entry}
use Rattle.sheet_text.proofs.Places.{AreKept, kept_after, noted_count, noted_path}
use Rattle.sheet_text.proofs.Stands.{behind_is, no_line_yet, nodes_behind, taken_size, taken_whole, unlined, walk_end}
use Rattle.sheet_text.proofs.Taken.{after}
use Rattle.sheet_text.proofs.node.Nodes.take.Goals as goal

pub returns-in-Some-size_fault-clause-taken : goal.returns-in-Some-size_fault-clause-taken
returns-in-Some-size_fault-clause-taken g c other =
    let table = c.args.self.now in
    let text = c.args.path.now in
    let entry : Entry = record { path = names_of text; kind = c.args.kind } in
    let none : place_fault table c.args.number entry ≡ None = sym c.place_fault.ensures.fault ∙ c.in_default.is in
    taken_size table c.args.number _ c.wants.result entry c.in-Some-size_fault.fault none
    (nodes_behind table text c.walk-walk.result c.len.result c.count_slashes-left.result c.len.ensures.table c.walk-walk.ensures.walk c.len.ensures.len (c.count_slashes-left.ensures.count ∙ ap (λ (t : List ℕ). count_by (λ octet. octet == 47) t) (behind_is c.as_bytes.result.now text c.walk-walk.result.at c.as_bytes.ensures.value))) c.wants.ensures.wants (sym c.size_fault.ensures.fault ∙ c.in-Some-size_fault.is)

pub grow-requires-clause-fresh : goal.grow-requires-clause-fresh
grow-requires-clause-fresh g c = (walk_end c.args.self.now c.args.path.now c.walk-walk.result c.len.ensures.table c.walk-walk.ensures.walk).fresh

pub note-requires-clause-unstated : goal.note-requires-clause-unstated
note-requires-clause-unstated g c =
    let table = c.args.self.now in
    let text = c.args.path.now in
    let entry : Entry = record { path = names_of text; kind = c.args.kind } in
    let none : place_fault table c.args.number entry ≡ None = sym c.place_fault.ensures.fault ∙ c.in_default.is in
    unlined table c.grow.new.self text c.walk-walk.result c.in_ok-place.place c.len-grown.ensures.table c.walk-walk.ensures.walk c.len.ensures.table (no_line_yet table c.args.number entry none) c.in_ok-place.ensures.grown c.in_ok-place.ensures.place.0 c.in_ok-place.ensures.place.1

pub returns : goal.returns
returns g c =
    let table = c.args.self.now in
    let text = c.args.path.now in
    let entry : Entry = record { path = names_of text; kind = c.args.kind } in
    let none : place_fault table c.args.number entry ≡ None = sym c.place_fault.ensures.fault ∙ c.in_default.is in
    let known = walk_end table text c.walk-walk.result c.len.ensures.table c.walk-walk.ensures.walk in
    let whole : mention_all table (names_of text) ≡ c.grow.new.self = known.grows ∙ sym c.in_ok-place.ensures.grown in
    let there : path_at c.grow.new.self c.in_ok-place.place ≡ names_of text = c.in_ok-place.ensures.place.1 in
    let left : noted c.args.number (record { path = names_of text; kind = c.args.kind }) c.grow.new.self ≡ c.note.new.self =
    ap (λ (p : Path). noted c.args.number (record { path = p; kind = c.args.kind }) c.grow.new.self) (sym there) ∙ sym c.note.ensures.noted in
    let is : after table c.args.number entry ≡ c.note.new.self = ap (λ (t : Table). noted c.args.number entry t) whole ∙ left in
    let kept : AreKept table c.note.new.self = subst (λ (t : Table). AreKept table t) is (kept_after table c.args.number entry) in
    record {
      taken = taken_whole table c.args.number _ c.wants.result entry none
          (nodes_behind table text c.walk-walk.result c.len.result c.count_slashes-left.result c.len.ensures.table c.walk-walk.ensures.walk c.len.ensures.len (c.count_slashes-left.ensures.count ∙ ap (λ (t : List ℕ). count_by (λ octet. octet == 47) t) (behind_is c.as_bytes.result.now text c.walk-walk.result.at c.as_bytes.ensures.value))) c.wants.ensures.wants (sym c.size_fault.ensures.fault ∙ c.in_default-size_fault.is)
          ∙ ap (λ (r : Table). Ok r) is;
      place = (omega (arith, c.in_ok-place.ensures.place.0, noted_count c.args.number entry c.grow.new.self, ap length left), ap (λ (t : Table). path_at t c.in_ok-place.place) (sym left) ∙ noted_path c.args.number entry c.grow.new.self c.in_ok-place.place ∙ there);
      kept = kept.kept;
      grows = kept.grows;
    }
