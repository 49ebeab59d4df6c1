use Rattle.std.proofs.Common.{rules, List, length, sym, subst}
use Rattle.limit_tree.specs.Flat.{HasRow}
use Rattle.limit_tree.specs.Outline.{places}
use Rattle.limit_tree.specs.declared.place.Place.{Place}
use Rattle.user_shares.specs.Rebuilt.{IsReshaped}
use Rattle.user_shares.proofs.Reshaping.{reshaped-all, lone-root}
use Rattle.user_shares.proofs.rebuild.rebuilt.Goals as goal

pub trees_of-requires : goal.trees_of-requires
trees_of-requires g c =
    let ps = c.args.flat.now in
    let row : HasRow ps 0 1 = (0, length ps, _, c.nodes-nodes.ensures.flat.root) in
    search (rules, row)

pub tree_over-requires : goal.tree_over-requires
tree_over-requires g c =
    let ps = c.args.flat.now in
    let kinds = c.args.kinds.now in
    let flat = c.nodes-nodes.ensures.flat in
    let all = c.in_ok-trees.ensures.reshaped 0 (length ps) _ flat.root in
    let lone = lone-root ps kinds (length ps) c.in_ok-trees.trees.items c.pop.new.self.items c.in-Some.root c.in_ok-trees.ensures.count c.in-Some.ensures.items all in
    record { sound = c.requires.faultless (places c.in-Some.root) (reshaped-all ps kinds c.in-Some.root flat c.requires.sound.depths c.requires.kinds lone) }

pub returns : goal.returns
returns g c =
    let ps = c.args.flat.now in
    let kinds = c.args.kinds.now in
    let flat = c.nodes-nodes.ensures.flat in
    let all = c.in_ok-trees.ensures.reshaped 0 (length ps) _ flat.root in
    let lone = lone-root ps kinds (length ps) c.in_ok-trees.trees.items c.pop.new.self.items c.in-Some.root c.in_ok-trees.ensures.count c.in-Some.ensures.items all in
    record {
      reshaped = subst (λ (tree : List Place). IsReshaped ps kinds tree) (sym c.tree_over.ensures.tree)
          (reshaped-all ps kinds c.in-Some.root flat c.requires.sound.depths c.requires.kinds lone);
    }
