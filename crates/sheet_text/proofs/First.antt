-- The root alone.
use Rattle.std.proofs.Common.{◌≡◌, ◌∙◌, ℕ, zero, suc, ◌<◌, true, false, List, [], ◌∷◌, ◌++◌, get_or, refl, sym, ap, subst, arith, None, Some}
use Rattle.std.specs.Prelude.{slice_get}
use Rattle.std.proofs.lemmas.Bool.{true≢false}
use Rattle.limit_tree.specs.declared.place.NodeKind.{NodeKind}
use Rattle.limit_tree.specs.declared.place.NodeKind.TheVariants.{Branch}
use Rattle.limit_tree.specs.Outline.{is_leaf_kind}
use Rattle.sheet_text.specs.declared.node.Node.{Node}
use Rattle.sheet_text.specs.declared.row.Row.{Row}
use Rattle.sheet_text.specs.Named.{named}
use Rattle.sheet_text.specs.Paths.{Path, is_among, is_within, names_of, text_of}
use Rattle.sheet_text.proofs.Listing.{place_none}
use Rattle.sheet_text.specs.Table.{fresh, mention_at, want_count}
use Rattle.sheet_text.specs.Inside.{AreNames, AreNodes, Finds, IsTable, kid_of, mention_of}

not_root : (path : Path) (name : List ℕ) → is_among ([] ∷ []) (path ++ name ∷ []) ≡ false
not_root [] name = refl
not_root (x ∷ path) name = refl

root_alone : AreNames ([] ∷ [])
root_alone = record {
  some = omega arith;
  rooted = refl;
  once = (refl, tt);
  closed = λ front path w e. closed front path w e;
}
  where
    closed : (front path : Path) → is_within front path ≡ true → is_among ([] ∷ []) path ≡ true → is_among ([] ∷ []) front ≡ true
    closed [] path w e = refl
    closed (x ∷ front) [] w e = absurd (true≢false (sym w))
    closed (x ∷ front) (y ∷ path) w e = absurd (true≢false (sym e))

pub fresh_table : IsTable fresh
fresh_table = record { names = root_alone; branches = λ place l none. branches place l }
  where
    branches : (place : ℕ) → place < 1 → is_leaf_kind (mention_at fresh place).kind ≡ false
    branches zero l = refl
    branches (suc place) l = refl

pub first_nodes : {A : Type 0} (nodes none : List Node) (root : Node) (rows no_rows : List (Row A)) (row : Row A) → nodes ≡ none ++ root ∷ [] → none ≡ [] → root.path.now ≡ [] → root.kind ≡ Branch None → root.line ≡ None → rows ≡ no_rows ++ row ∷ [] → no_rows ≡ [] → ((q : List ℕ) → named row q ≡ None) → AreNodes nodes rows 0
first_nodes {A} nodes none root rows no_rows row e start text kind line rows_are no_rows_are empty =
    subst (λ (ns : List Node). AreNodes ns rows 0) (sym (e ∙ ap (λ (ns : List Node). ns ++ root ∷ []) start))
    (subst (λ (rs : List (Row A)). AreNodes (root ∷ []) rs 0) (sym (rows_are ∙ ap (λ (rs : List (Row A)). rs ++ row ∷ []) no_rows_are)) alone)
  where
    mention : mention_of root ∷ [] ≡ fresh
    mention = cc

    path_is : names_of root.path.now ≡ []
    path_is = ap names_of text

    nothing : (names : Row A) (q : List ℕ) (place : ℕ) → slice_get (row ∷ []) place ≡ Some names → named names q ≡ None
    nothing names q zero at = let same : row ≡ names = cc in ap (λ (r : Row A). named r q) (sym same) ∙ empty q
    nothing names q (suc place) at = cc

    alone : AreNodes (root ∷ []) (row ∷ []) 0
    alone = record {
      table = subst IsTable (sym mention) fresh_table;
      texts = ap (λ (t : List ℕ). text_of (names_of t) ∷ []) text ∙ ap (λ (t : List ℕ). t ∷ []) (sym text);
      finds = subst (λ (p : Path). Finds (p ∷ []) (row ∷ [])) (sym path_is) (record {
        enough = omega arith;
        there = λ place names q l at. nothing names q place at ∙ sym (place_none ([] ∷ []) (kid_of ([] ∷ []) place q) (not_root (get_or ([] ∷ []) place []) q));
        nowhere = λ place names q l at. nothing names q place at;
      });
      beneath = λ place some within. absurd (omega arith);
      counted = ap (λ (k : NodeKind). want_count (record { path = names_of root.path.now; kind = k; line = root.line } ∷ [])) (sym kind);
    }
