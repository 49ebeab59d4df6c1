use Rattle.std.proofs.Common.{◌≡◌, ◌∙◌, ◌+◌, ◌<◌, ◌||◌, ◌++◌, ◌∷◌, [], ℕ, List, length, take, drop, ap, sym, subst, arith, Some, None}
use Rattle.limit_tree.specs.Outline.{is_leaf_kind}
use Rattle.limit_tree.specs.declared.place.NodeKind.{NodeKind}
use Rattle.sheet_text.specs.Paths.{names_of, place_of}
use Rattle.sheet_text.specs.Table.{mention_at, path_at, paths_in}
use Rattle.sheet_text.specs.Walks.{IsStand, walked}
use Rattle.sheet_text.proofs.Stands.{IsStep, one_step, rest_is, walk_on, walked_on, walked_out}
use Rattle.sheet_text.proofs.node.Nodes.walk.Goals as goal

pub returns-in_default : goal.returns-in_default
returns-in_default g c =
    let path = c.args.path.now in
    let at = c.names.walk.at in
    let n = c.name_len-len.result in
    let stand = c.names.invariant.stand in
    let same = c.as_bytes-text.ensures.value in
    let less : at < length path = omega (arith, c.names-test.true, ap length same) in
    let step : IsStep path at n = one_step c.as_bytes-text.result.now path at n same less (stand.slash less) (record { name = c.name_len-len.ensures.name; alone = c.name_len-len.ensures.alone; within = c.name_len-len.ensures.within; slash = c.name_len-len.ensures.slash }) in
    let none : place_of (paths_in c.args.self.now) (path_at c.args.self.now c.names.walk.place ++ take n (drop (at + 1) path) ∷ []) ≡ None =
    ap (λ (r : List ℕ). place_of (paths_in c.args.self.now) (path_at c.args.self.now c.names.walk.place ++ take n r ∷ [])) (sym (rest_is c.as_bytes-text.result.now path at same)) ∙ sym c.find.ensures.place ∙ c.in_default.is in
    let pass : c.passes.result ≡ (c.names.walk.under || is_leaf_kind (mention_at c.args.self.now c.names.walk.place).kind) = c.passes.ensures.passes ∙ ap (λ (k : NodeKind). c.names.walk.under || is_leaf_kind k) c.kind.ensures.kind in
    record {
      walk = record {
        stand = stand;
        walked_is = c.names.invariant.walked_is ∙ walked_out c.args.self.now path c.names.walk.place at n c.names.walk.under c.passes.result c.len-nodes.ensures.table stand step none pass;
      };
    }

pub names-preserved : goal.names-preserved
names-preserved g c =
    let path = c.args.path.now in
    let at = c.names.walk.at in
    let n = c.name_len-len.result in
    let stand = c.names.invariant.stand in
    let same = c.as_bytes-text.ensures.value in
    let less : at < length path = omega (arith, c.names-test.true, ap length same) in
    let step : IsStep path at n = one_step c.as_bytes-text.result.now path at n same less (stand.slash less) (record { name = c.name_len-len.ensures.name; alone = c.name_len-len.ensures.alone; within = c.name_len-len.ensures.within; slash = c.name_len-len.ensures.slash }) in
    let found : place_of (paths_in c.args.self.now) (path_at c.args.self.now c.names.walk.place ++ take n (drop (at + 1) path) ∷ []) ≡ Some c.in-Some.kid =
    ap (λ (r : List ℕ). place_of (paths_in c.args.self.now) (path_at c.args.self.now c.names.walk.place ++ take n r ∷ [])) (sym (rest_is c.as_bytes-text.result.now path at same)) ∙ sym c.find.ensures.place ∙ c.in-Some.is in
    let pass : c.passes.result ≡ (c.names.walk.under || is_leaf_kind (mention_at c.args.self.now c.names.walk.place).kind) = c.passes.ensures.passes ∙ ap (λ (k : NodeKind). c.names.walk.under || is_leaf_kind k) c.kind.ensures.kind in
    let end : at + 1 + n ≡ at + (1 + n) = omega arith in
    record {
      stand = subst (λ (k : ℕ). IsStand c.args.self.now path c.in-Some.kid k) end (walk_on c.args.self.now path c.names.walk.place at n c.in-Some.kid stand step found);
      walked_is = c.names.invariant.walked_is ∙ walked_on c.args.self.now path c.names.walk.place at n c.in-Some.kid c.names.walk.under c.passes.result c.len-nodes.ensures.table stand step found pass
          ∙ ap (λ (k : ℕ). walked c.args.self.now (path_at c.args.self.now c.in-Some.kid) c.passes.result (names_of (drop k path))) end;
    }
