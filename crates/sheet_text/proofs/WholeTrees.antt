-- The tree over what is mentioned, in its own words.
use Rattle.std.proofs.Common.{◌≡◌, ◌∙◌, ℕ, zero, suc, ◌<◌, true, List, [], ◌∷◌, ◌++◌, map, length, get_or, refl, sym, ap, arith, filter, flat_map, Some}
use Rattle.limit_tree.specs.declared.place.NodeKind.{NodeKind}
use Rattle.limit_tree.specs.declared.place.NodeKind.TheVariants.{Branch, Leaf}
use Rattle.limit_tree.specs.declared.place.Place.{Place}
use Rattle.limit_tree.specs.Sharing.{Branch as SharedBranch}
use Rattle.limit_tree.specs.Outline.{leaf_count, leaf_range, branch_of, beside, behind, deeper, limits}
use Rattle.sheet_text.specs.Paths.{Path, is_within, is_among}
use Rattle.sheet_text.specs.Forest.{AreOver, tree_over, kids_by, outline_at, paths_at, is_want}
use Rattle.sheet_text.specs.TreeLaw.{AreMentions, IsTreeOf, kids_in}
use Rattle.sheet_text.proofs.Held.{is_tree}
use Rattle.sheet_text.proofs.TreeNodes.{among_each, kids_are, nodes_mentioned, mentioned_nodes, nodes_once}
use Rattle.sheet_text.proofs.Rows.{same_bool}

map_append : {A B : Type 0} (f : A → B) (xs ys : List A) → map f (xs ++ ys) ≡ map f xs ++ map f ys
map_append f [] ys = refl
map_append f (x ∷ xs) ys = ap (λ zs. f x ∷ zs) (map_append f xs ys)

kinds_behind : (n : ℕ) (os : List Place) → map (λ o. o.kind) (map (behind n) os) ≡ map (λ o. o.kind) os
kinds_behind n [] = refl
kinds_behind n (o ∷ os) = ap (λ (ks : List NodeKind). o.kind ∷ ks) (kinds_behind n os)

kinds_deeper : (os : List Place) → map (λ o. o.kind) (map deeper os) ≡ map (λ o. o.kind) os
kinds_deeper [] = refl
kinds_deeper (o ∷ os) = ap (λ (ks : List NodeKind). o.kind ∷ ks) (kinds_deeper os)

kinds_beside : (kind : Path → NodeKind) (f : Path → List Place) (g : Path → List Path) (kids : List Path) → ((k : Path) → map (λ o. o.kind) (f k) ≡ map kind (g k)) → map (λ o. o.kind) (beside (map f kids)) ≡ map kind (flat_map g kids)
kinds_beside kind f g [] each = refl
kinds_beside kind f g (kid ∷ kids) each =
    map_append (λ (o : Place). o.kind) (f kid) (map (behind (leaf_count (f kid))) (beside (map f kids)))
    ∙ ap (λ (ks : List NodeKind). ks ++ map (λ o. o.kind) (map (behind (leaf_count (f kid))) (beside (map f kids)))) (each kid)
    ∙ ap (λ (ks : List NodeKind). map kind (g kid) ++ ks) (kinds_behind (leaf_count (f kid)) (beside (map f kids)) ∙ kinds_beside kind f g kids each)
    ∙ sym (map_append kind (g kid) (flat_map g kids))

kinds_over : (kind : Path → NodeKind) (path : Path) (k : NodeKind) (f : Path → List Place) (g : Path → List Path) (kids : List Path) → kind path ≡ k → ((q : Path) → map (λ o. o.kind) (f q) ≡ map kind (g q))
    → map (λ o. o.kind) (tree_over k (map f (kids_by k kids))) ≡ map kind (path ∷ flat_map g (kids_by k kids))
kinds_over kind path (Leaf want floor) f g kids is each = ap (λ (k : NodeKind). k ∷ []) (sym is)
kinds_over kind path (Branch limit) f g kids is each =
    ap (λ (ks : List NodeKind). Branch limit ∷ ks) (kinds_deeper (beside (map f kids)) ∙ kinds_beside kind f g kids each)
    ∙ ap (λ (k : NodeKind). k ∷ map kind (flat_map g kids)) (sym is)

kinds_alone : (kind : Path → NodeKind) (path : Path) (k : NodeKind) → kind path ≡ k → map (λ o. o.kind) (tree_over k []) ≡ kind path ∷ []
kinds_alone kind path (Leaf want floor) is = ap (λ (k : NodeKind). k ∷ []) (sym is)
kinds_alone kind path (Branch limit) is = ap (λ (k : NodeKind). k ∷ []) (sym is)

pub kinds_are : (kind : Path → NodeKind) (kids : Path → List Path) (levels : ℕ) (path : Path) → map (λ o. o.kind) (outline_at kind kids levels path) ≡ map kind (paths_at kind kids levels path)
unfolding outline_at paths_at
kinds_are kind kids zero path = kinds_alone kind path (kind path) refl
kinds_are kind kids (suc levels) path = kinds_over kind path (kind path) (outline_at kind kids levels) (paths_at kind kids levels) (kids path) refl (kinds_are kind kids levels)

-- what a branch of a place holds
range_of : (o : Place) (k : NodeKind) (b : SharedBranch) → branch_of k o.first o.leaves ≡ Some b → (k ≡ Branch b.limit) × ((i : ℕ) → b.holds i ≡ leaf_range o.first o.leaves i)
range_of o (Leaf want floor) b e = cc
range_of o (Branch limit) b e =
    let same : record { limit = limit; holds = leaf_range o.first o.leaves } ≡ b = cc in
    (ap (λ (c : SharedBranch). Branch c.limit) same, λ i. ap (λ (c : SharedBranch). c.holds i) (sym same))

branch_at : (kind : Path → NodeKind) (wants : List Path) (os : List Place) (ps : List Path) (k : ℕ) (b : SharedBranch) → AreOver wants os ps → map (λ o. o.kind) os ≡ map kind ps → (limits os).branch k ≡ Some b
    → (kind (get_or ps k []) ≡ Branch b.limit) × ((i : ℕ) → i < length wants → b.holds i ≡ is_within (get_or ps k []) (get_or wants i []))
branch_at kind wants [] ps k b over kinds e = cc
branch_at kind wants (o ∷ os) [] k b over kinds e = absurd over
branch_at kind wants (o ∷ os) (p ∷ ps) zero b over kinds e =
    let range = range_of o o.kind b e in
    let here : o.kind ≡ kind p = cc in
    (sym here ∙ range.0, λ i l. range.1 i ∙ over.0.holds i l)
branch_at kind wants (o ∷ os) (p ∷ ps) (suc k) b over kinds e =
    let rest : map (λ o. o.kind) os ≡ map kind ps = cc in
    branch_at kind wants os ps k b over.1 rest e

-- the tree over what is mentioned
pub tree_is : (kind : Path → NodeKind) (mentions : List Path) (depth : ℕ) → AreMentions kind mentions depth → IsTreeOf kind mentions (outline_at kind (kids_in mentions) depth []) (paths_at kind (kids_in mentions) depth [])
tree_is kind mentions depth are =
    let kids = kids_are mentions are.apart in
    let over = (is_tree kind (kids_in mentions) kids depth []).matches.over in
    let kinds = kinds_are kind (kids_in mentions) depth [] in
    record {
      once = nodes_once kind (kids_in mentions) kids depth [];
      all = λ path. same_bool (is_among (paths_at kind (kids_in mentions) depth []) path) (is_among mentions path)
          (λ e. among_each (λ q. is_among mentions q ≡ true) (paths_at kind (kids_in mentions) depth []) path (nodes_mentioned kind mentions depth [] are.rooted) e)
          (λ e. mentioned_nodes kind mentions depth are depth [] path refl e (omega (arith, are.within path e)));
      kinds = kinds;
      branches = λ k b e. (branch_at kind (filter (is_want kind) (paths_at kind (kids_in mentions) depth [])) (outline_at kind (kids_in mentions) depth []) (paths_at kind (kids_in mentions) depth []) k b over kinds e).0;
      holds = λ k b e. (branch_at kind (filter (is_want kind) (paths_at kind (kids_in mentions) depth [])) (outline_at kind (kids_in mentions) depth []) (paths_at kind (kids_in mentions) depth []) k b over kinds e).1;
    }
