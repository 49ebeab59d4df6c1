use Rattle.std.proofs.Common.{◌≡◌, ◌∙◌, ◌+◌, ◌-◌, ◌<◌, ◌++◌, ◌∷◌, [], ℕ, List, length, take, drop, ap, sym, subst, arith}
use Rattle.sheet_text.specs.Paths.{Path, names_of, place_of, IsPathText}
use Rattle.sheet_text.specs.Table.{path_at, paths_in, unstated}
use Rattle.sheet_text.specs.Walks.{IsFresh, IsStand, grown}
use Rattle.sheet_text.proofs.Stands.{IsStep, next_absent, one_step, push_on, text_here, text_taken}
use Rattle.sheet_text.proofs.node.Nodes.grow.Goals as goal

pub push-requires-clause-path : goal.push-requires-clause-path
push-requires-clause-path g c =
    let path = c.args.path.now in
    let at = c.names.at in
    let n = c.name_len.result in
    let same = c.as_bytes-text.ensures.value in
    let stand = c.names.invariant.stand in
    let less : at < length path = omega (arith, c.names-test.true, ap length same) in
    let step : IsStep path at n = one_step c.as_bytes-text.result.now path at n same less (stand.slash less) (record { name = c.name_len.ensures.name; alone = c.name_len.ensures.alone; within = c.name_len.ensures.within; slash = c.name_len.ensures.slash }) in
    let end : at + 1 + n - 0 ≡ at + 1 + n = omega arith in
    let many : at + 1 + n - (at + 1) ≡ n = omega arith in
    let text : c.range.result.now ≡ take (at + 1 + n) path = c.range.ensures.value ∙ ap (λ (k : ℕ). take k path) end in
    let name : take n (drop (at + 1) path) ≡ take (at + 1 + n - (at + 1)) (drop (at + 1) c.as_bytes-text.result.now) = ap (λ (k : ℕ). take k (drop (at + 1) path)) (sym many) ∙ ap (λ (t : List ℕ). take (at + 1 + n - (at + 1)) (drop (at + 1) t)) (sym same) in
    ap names_of text ∙ step.front ∙ ap (λ (p : Path). p ++ take n (drop (at + 1) path) ∷ []) (sym stand.front) ∙ ap (λ (w : List ℕ). path_at c.names.self c.names.place ++ w ∷ []) name

pub push-requires-clause-text : goal.push-requires-clause-text
push-requires-clause-text g c =
    let path = c.args.path.now in
    let end : c.names.at + 1 + c.name_len.result - 0 ≡ c.names.at + 1 + c.name_len.result = omega arith in
    let text : c.range.result.now ≡ take (c.names.at + 1 + c.name_len.result) path = c.range.ensures.value ∙ ap (λ (k : ℕ). take k path) end in
    text_here c.range.result.now (subst IsPathText (sym text) (text_taken path (c.names.at + 1 + c.name_len.result) c.requires.text))

pub push-requires-clause-absent : goal.push-requires-clause-absent
push-requires-clause-absent g c =
    let path = c.args.path.now in
    let at = c.names.at in
    let n = c.name_len.result in
    let same = c.as_bytes-text.ensures.value in
    let stand = c.names.invariant.stand in
    let less : at < length path = omega (arith, c.names-test.true, ap length same) in
    let step : IsStep path at n = one_step c.as_bytes-text.result.now path at n same less (stand.slash less) (record { name = c.name_len.ensures.name; alone = c.name_len.ensures.alone; within = c.name_len.ensures.within; slash = c.name_len.ensures.slash }) in
    let end : at + 1 + n - 0 ≡ at + 1 + n = omega arith in
    let text : c.range.result.now ≡ take (at + 1 + n) path = c.range.ensures.value ∙ ap (λ (k : ℕ). take k path) end in
    ap (place_of (paths_in c.names.self)) (ap names_of text ∙ step.front ∙ ap (λ (p : Path). p ++ take n (drop (at + 1) path) ∷ []) (sym stand.front)) ∙ next_absent c.names.self path c.names.place at n step c.names.invariant.fresh

pub names-preserved : goal.names-preserved
names-preserved g c =
    let path = c.args.path.now in
    let at = c.names.at in
    let n = c.name_len.result in
    let same = c.as_bytes-text.ensures.value in
    let stand = c.names.invariant.stand in
    let less : at < length path = omega (arith, c.names-test.true, ap length same) in
    let step : IsStep path at n = one_step c.as_bytes-text.result.now path at n same less (stand.slash less) (record { name = c.name_len.ensures.name; alone = c.name_len.ensures.alone; within = c.name_len.ensures.within; slash = c.name_len.ensures.slash }) in
    let end : at + 1 + n - 0 ≡ at + 1 + n = omega arith in
    let text : c.range.result.now ≡ take (at + 1 + n) path = c.range.ensures.value ∙ ap (λ (k : ℕ). take k path) end in
    let kid : names_of c.range.result.now ≡ path_at c.names.self c.names.place ++ take n (drop (at + 1) path) ∷ [] = ap names_of text ∙ step.front ∙ ap (λ (p : Path). p ++ take n (drop (at + 1) path) ∷ []) (sym stand.front) in
    let new : c.push.new.self ≡ c.names.self ++ unstated (path_at c.names.self c.names.place ++ take n (drop (at + 1) path) ∷ []) ∷ [] = c.in_ok-push.ensures.pushed ∙ ap (λ (p : Path). c.names.self ++ unstated p ∷ []) kid in
    let more = push_on c.names.self c.push.new.self path c.names.place at n c.len-kid.ensures.table stand step c.names.invariant.fresh new in
    let last : length c.names.self ≡ c.len-kid.result = sym c.len-kid.ensures.len in
    record {
      stand = subst (λ (k : ℕ). IsStand c.push.new.self path k (at + 1 + n)) last more.stand;
      fresh = subst (λ (k : ℕ). IsFresh c.push.new.self (path_at c.push.new.self k) (names_of (drop (at + 1 + n) path))) last more.fresh;
      grown = c.names.invariant.grown ∙ more.grows ∙ ap (λ (k : ℕ). grown c.push.new.self (path_at c.push.new.self k) (names_of (drop (at + 1 + n) path))) last;
    }
