use Rattle.std.proofs.Common.{◌≡◌, ◌∙◌, ne_eqb, ap, sym, subst, refl, arith, nat_eq, true, false, length, take, Some, List}
use Rattle.std.specs.Prelude.{slice_get}
use Rattle.std.proofs.Math.Seq.{take_all}
use Rattle.std.proofs.lemmas.Option.{slice_get_read}
use Rattle.limit_tree.specs.Outline.{is_leaf_kind}
use Rattle.sheet_text.specs.Paths.{Path}
use Rattle.sheet_text.specs.TreeLaw.{kids_in}
use Rattle.sheet_text.specs.Table.{path_at, paths_in}
use Rattle.sheet_text.specs.Rows.{AreBelow}
use Rattle.sheet_text.specs.Tree.{kind_in, paths_to}
use Rattle.sheet_text.proofs.Tables.{count}
use Rattle.sheet_text.proofs.Trees.{kids_there, kind_there, none_there}
use Rattle.sheet_text.proofs.node.Nodes.kids_to.Goals as goal

pub returns-then-is_leaf-clause-kids : goal.returns-then-is_leaf-clause-kids
returns-then-is_leaf-clause-kids g c =
    let table = c.args.self.now in
    let more : nat_eq c.args.levels 0 ≡ false = ne_eqb c.args.levels 0 c.if-levels-eq0.false in
    let leaf : is_leaf_kind (kind_in table (path_at table c.args.place)) ≡ true = ap is_leaf_kind (kind_there table c.args.place c.len-table.ensures.table.names.once c.requires.place ∙ sym c.kind.ensures.kind) ∙ sym c.is_leaf.ensures.leaf ∙ c.if-is_leaf.true in
    none_there table c.args.levels (path_at table c.args.place) more leaf

pub returns-clause-below : goal.returns-clause-below
returns-clause-below g c =
    let rows = c.args.rows.now.items in
    let row = c.index.result.now in
    let there : slice_get rows c.args.place ≡ Some row = slice_get_read rows (length rows) c.args.place row refl (omega (arith, c.requires.place, c.requires.rows.rows_length)) c.index.ensures in
    subst (AreBelow (length c.args.self.now)) (sym c.as_slice-kids.ensures.value) (c.requires.rows.within c.args.place row there)

pub returns-clause-kids : goal.returns-clause-kids
returns-clause-kids g c =
    let table = c.args.self.now in
    let path = path_at table c.args.place in
    let rows = c.args.rows.now.items in
    let row = c.index.result.now in
    let there : slice_get rows c.args.place ≡ Some row = slice_get_read rows (length rows) c.args.place row refl (omega (arith, c.requires.place, c.requires.rows.rows_length)) c.index.ensures in
    let more : nat_eq c.args.levels 0 ≡ false = ne_eqb c.args.levels 0 c.if-levels-eq0.false in
    let branch : is_leaf_kind (kind_in table path) ≡ false = ap is_leaf_kind (kind_there table c.args.place c.len-table.ensures.table.names.once c.requires.place ∙ sym c.kind.ensures.kind) ∙ sym c.is_leaf.ensures.leaf ∙ c.if-is_leaf.false in
    let whole : take (length table) (paths_in table) ≡ paths_in table = take_all (length table) (paths_in table) (omega (arith, count table)) in
    ap (paths_to table) c.as_slice-kids.ensures.value
    ∙ kids_there table c.args.levels path (paths_to table row.items) more branch (c.requires.rows.rows_are c.args.place row there ∙ ap (λ (ps : List Path). kids_in ps path) whole)
