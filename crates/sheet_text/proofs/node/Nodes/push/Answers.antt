use Rattle.std.proofs.Common.{◌<◌, ◌∙◌, ◌∷◌, ◌++◌, [], List, ap, arith, sym, subst, refl, None, length, vec_len}
use Rattle.std.proofs.lemmas.Option.{slice_get_read}
use Rattle.limit_tree.specs.declared.place.NodeKind.TheVariants.{Branch}
use Rattle.sheet_text.specs.declared.node.Node.{Node}
use Rattle.sheet_text.specs.declared.row.Row.{Row}
use Rattle.sheet_text.specs.Paths.{place_of}
use Rattle.sheet_text.specs.Table.{paths_in}
use Rattle.sheet_text.specs.Inside.{AreNodes}
use Rattle.sheet_text.proofs.Pushed.{found_there, push_kept, room_for, row_kept, rows_there, table_pushed, undone}
use Rattle.sheet_text.proofs.node.Nodes.push.Goals as goal

pub invariant_of-self-in_err-push-2 : goal.invariant_of-self-in_err-push-2
invariant_of-self-in_err-push-2 g c =
    subst (λ (rows : List (Row _)). AreNodes c.push-2.new.self.items rows c.self.inside.wants) (sym c.in_ok-push.ensures.items)
    (subst (λ (nodes : List Node). AreNodes nodes (c.self.inside.names.items ++ c.in_ok-kids.kids ∷ []) c.self.inside.wants) (sym c.in_err-push-2.ensures.items)
    (row_kept c.self.inside.nodes.items c.self.inside.names.items c.in_ok-kids.kids c.self.inside.wants c.in_ok-kids.ensures.none c.self.invariant))

pub invariant_of-self-in-Ok : goal.invariant_of-self-in-Ok
invariant_of-self-in-Ok g c =
    let nodes = c.self.inside.nodes.items in
    let rows = c.push.new.self.items in
    let before = c.index_mut.result.now in
    let node : Node = record { path = c.args.path; parent = c.args.parent; kind = Branch None; line = None } in
    let are : AreNodes nodes rows c.self.inside.wants = subst (λ (rs : List (Row _)). AreNodes nodes rs c.self.inside.wants) (sym c.in_ok-push.ensures.items) (row_kept nodes c.self.inside.names.items c.in_ok-kids.kids c.self.inside.wants c.in_ok-kids.ensures.none c.self.invariant) in
    let there : c.args.parent < length rows = rows_there nodes rows c.self.inside.wants c.args.self.now c.args.parent are c.self.view_is c.requires.parent in
    push_kept nodes c.push-2.new.self.items node c.args.name.now rows _ before c.add.new.self c.len-place.result c.self.inside.wants c.args.self.now
    (record {
      items = c.in_ok-push-2.ensures.items;
      plain = refl;
      place_is = c.len-place.ensures ∙ omega (arith, c.self.inside.nodes.ok.0);
      room = room_for nodes c.self.inside.names.items rows c.in_ok-kids.kids c.self.inside.wants c.in_ok-push.ensures.items c.self.invariant;
      was = slice_get_read rows (length rows) c.args.parent before refl there c.index_mut.ensures.value;
      updates = c.in-Ok.ensures.added;
      names_are = refl;
    })
    are c.self.view_is (record { parent_in = c.requires.parent; path_is = c.requires.path; text_is = c.requires.text; absent = c.requires.absent })

pub returns-in-Ok : goal.returns-in-Ok
returns-in-Ok g c =
    let node : Node = record { path = c.args.path; parent = c.args.parent; kind = Branch None; line = None } in
    record { pushed = table_pushed c.self.inside.nodes.items c.push-2.new.self.items node c.args.self.now c.in_ok-push-2.ensures.items refl c.self.view_is }

pub invariant_of-self-in-Err : goal.invariant_of-self-in-Err
invariant_of-self-in-Err g c =
    let nodes = c.self.inside.nodes.items in
    let rows = c.push.new.self.items in
    let before = c.index_mut.result.now in
    let node : Node = record { path = c.args.path; parent = c.args.parent; kind = Branch None; line = None } in
    let are : AreNodes nodes rows c.self.inside.wants = subst (λ (rs : List (Row _)). AreNodes nodes rs c.self.inside.wants) (sym c.in_ok-push.ensures.items) (row_kept nodes c.self.inside.names.items c.in_ok-kids.kids c.self.inside.wants c.in_ok-kids.ensures.none c.self.invariant) in
    let there : c.args.parent < length rows = rows_there nodes rows c.self.inside.wants c.args.self.now c.args.parent are c.self.view_is c.requires.parent in
    undone nodes c.push-2.new.self.items c.pop.new.self.items node (vec_len c.push-2.new.self) rows _ c.args.parent before c.add.new.self c.self.inside.wants
    c.in_ok-push-2.ensures.items c.pop.ensures.rest (omega (arith, c.push-2.new.self.ok.0)) c.in-Err.ensures.kept
    (slice_get_read rows (length rows) c.args.parent before refl there c.index_mut.ensures.value) refl are

pub add-requires : goal.add-requires
add-requires g c =
    let nodes = c.self.inside.nodes.items in
    let rows = c.push.new.self.items in
    let are : AreNodes nodes rows c.self.inside.wants = subst (λ (rs : List (Row _)). AreNodes nodes rs c.self.inside.wants) (sym c.in_ok-push.ensures.items) (row_kept nodes c.self.inside.names.items c.in_ok-kids.kids c.self.inside.wants c.in_ok-kids.ensures.none c.self.invariant) in
    record { absent = found_there nodes rows c.self.inside.wants c.args.self.now c.args.parent c.index_mut.result.now c.args.name.now are c.self.view_is c.requires.parent c.index_mut.ensures.value ∙ ap (place_of (paths_in c.args.self.now)) (sym c.requires.path) ∙ c.requires.absent }
