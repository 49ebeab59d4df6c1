use Rattle.std.proofs.Common.{◌≡◌, ◌∙◌, sym, ap, cond, Option, Some, None, List, ℕ, slice_get, get_or, [], false, true}
use Rattle.std.proofs.lemmas.Option.{slice_get-get_or}
use Rattle.std.proofs.lemmas.Result.{err_from_is_err_and}
use Rattle.sheet_text.specs.Paths.{names_of, same_path}
use Rattle.sheet_commands.specs.declared.grants_fault.GrantsFault.TheVariants.{NoSuchNode}
use Rattle.sheet_commands.specs.Grants.{grant_fault}
use Rattle.sheet_text.specs.LineViews.{grant_view}
use Rattle.sheet_commands.proofs.Filling.{wrong_path, right_path, within_leaves, first_place}
use Rattle.sheet_commands.proofs.grants.judge.Goals as goal

pub returns-then-not-is_leaf_path-clause-judged : goal.returns-then-not-is_leaf_path-clause-judged
returns-then-not-is_leaf_path-clause-judged g c =
    let sheet = c.args.sheet.now in
    let leaf = c.in-Some.leaf.now in
    let want : slice_get sheet.wants c.args.place ≡ Some leaf =
    ap (λ (ws : List ℕ). slice_get ws c.args.place) (sym c.wants.ensures.wants) ∙ slice_get-get_or c.wants.result.now c.args.place 0 c.in-Some.ensures.lookup.3.0 ∙ ap (λ (n : ℕ). Some n) (sym (c.in-Some.ensures.lookup.3.1 0)) in
    let other : same_path (get_or sheet.leaves leaf []) (names_of c.args.line.path.now) ≡ false = sym c.is_leaf_path.ensures.same ∙ c.if-not-is_leaf_path.true in
    wrong_path sheet c.args.place c.args.number leaf (grant_view c.args.line) want other

pub returns-in_err-node-clause-judged : goal.returns-in_err-node-clause-judged
returns-in_err-node-clause-judged g c =
    let sheet = c.args.sheet.now in
    let leaf = c.in-Some.leaf.now in
    let want : slice_get sheet.wants c.args.place ≡ Some leaf =
    ap (λ (ws : List ℕ). slice_get ws c.args.place) (sym c.wants.ensures.wants) ∙ slice_get-get_or c.wants.result.now c.args.place 0 c.in-Some.ensures.lookup.3.0 ∙ ap (λ (n : ℕ). Some n) (sym (c.in-Some.ensures.lookup.3.1 0)) in
    let same : same_path (get_or sheet.leaves leaf []) (names_of c.args.line.path.now) ≡ true = sym c.is_leaf_path.ensures.same ∙ c.if-not-is_leaf_path.false in
    let found = c.in_err-node.ensures.found in
    let fault : grant_fault sheet c.args.place c.args.number (grant_view c.args.line) ≡ Some (NoSuchNode c.args.number) =
    right_path sheet c.args.place c.args.number leaf (grant_view c.args.line) want same ∙ ap (λ b. cond b (Some (NoSuchNode c.args.number)) None) found.0 in
    let failed = err_from_is_err_and c.from_residual.result c.from_residual.ensures.1 in
    rw failed.1 (cc (fault, found.1, failed.2))

pub returns-clause-judged : goal.returns-clause-judged
returns-clause-judged g c =
    let sheet = c.args.sheet.now in
    let leaf = c.in-Some.leaf.now in
    let want : slice_get sheet.wants c.args.place ≡ Some leaf =
    ap (λ (ws : List ℕ). slice_get ws c.args.place) (sym c.wants.ensures.wants) ∙ slice_get-get_or c.wants.result.now c.args.place 0 c.in-Some.ensures.lookup.3.0 ∙ ap (λ (n : ℕ). Some n) (sym (c.in-Some.ensures.lookup.3.1 0)) in
    let same : same_path (get_or sheet.leaves leaf []) (names_of c.args.line.path.now) ≡ true = sym c.is_leaf_path.ensures.same ∙ c.if-not-is_leaf_path.false in
    let found = c.in_ok-node.ensures.found in (
      right_path sheet c.args.place c.args.number leaf (grant_view c.args.line) want same ∙ ap (λ b. cond b (Some (NoSuchNode c.args.number)) None) found.0,
      ap (λ (node : Option ℕ). record { octets = c.args.line.octets; node = node }) found.1,
    )

pub returns-clause-leaf : goal.returns-clause-leaf
returns-clause-leaf g c =
    let sheet = c.args.sheet.now in
    let leaf = c.in-Some.leaf.now in
    let want : slice_get sheet.wants c.args.place ≡ Some leaf =
    ap (λ (ws : List ℕ). slice_get ws c.args.place) (sym c.wants.ensures.wants) ∙ slice_get-get_or c.wants.result.now c.args.place 0 c.in-Some.ensures.lookup.3.0 ∙ ap (λ (n : ℕ). Some n) (sym (c.in-Some.ensures.lookup.3.1 0)) in
    (first_place sheet.wants c.args.place leaf c.wants.ensures.apart want, within_leaves _ c.args.place leaf sheet.wants c.wants.ensures.leaves want)
