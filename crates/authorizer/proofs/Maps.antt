-- A map with texts as keys, seen as a finite map.
use Rattle.std.proofs.Common.{◌≡◌, ℕ, Bool, true, false, cond, List, [], ◌∷◌, Option, Some, None, Bor, map, refl, sym, ap, ◌∙◌, bytes_eq}
use Rattle.std.specs.Option.{option_map, option_copied, is_some, MatchOption}
use Rattle.std.specs.BTreeMap as tree
use Rattle.std.specs.BTreeMap.{BTreeMap}
use Rattle.std.specs.Cmp.{eq_by_cmp_equiv}
use Rattle.std.proofs.lemmas.Cmp.{nat_list_cmp_total}
use Rattle.std.specs.Cmp.Lexicographic.{slice_cmp}
use Rattle.std.specs.FinMap as finite
use Rattle.std.specs.FinMap.{FinMap, find, get-from_entries, get-insert, get-remove, same_map, slice_cmp-IsAntisymmetric, nat_cmp-IsAntisymmetric}
use Rattle.std.specs.Map.{lookup}
use Rattle.std.specs.Ordering.{nat_cmp, is_eq, eq_by_cmp}
use Rattle.std.specs.Prelude.{String}
use Rattle.std.specs.String.{string_bytes, string_cmp}
use Rattle.std.proofs.lemmas.Slice.Eq.{bytes_eq-Decides}
use Rattle.std.proofs.lemmas.Map.Text.{btree_map_updates_text, is_eq-slice_cmp}
use Rattle.authorizer.specs.Stored.{map_of}

find-map : {Y X V : Type 0} (v : X → V) (q : List ℕ) (es : List (String Y × X)) → find (slice_cmp nat_cmp) q (map (λ e. (string_bytes e.0, v e.1)) es) ≡ option_map v (lookup (tree.is_at (λ k. slice_cmp nat_cmp q (string_bytes k))) es)
find-map v q [] = refl
find-map v q (e ∷ es) =
    elim (is_eq (slice_cmp nat_cmp q (string_bytes e.0))) as (λ b. cond b (Some (v e.1)) (find (slice_cmp nat_cmp) q (map (λ e. (string_bytes e.0, v e.1)) es)) ≡ option_map v (cond b (Some e.1) (lookup (tree.is_at (λ k. slice_cmp nat_cmp q (string_bytes k))) es)))
    [ true ↦ refl | false ↦ find-map v q es ]

pub get-map_of : {Y X V : Type 0} (v : X → V) (m : BTreeMap (String Y) X) (q : List ℕ) → finite.get (map_of v m) q ≡ option_map v (tree.get_by_text m q)
get-map_of v m q = get-from_entries nat_list_cmp_total _ q ∙ find-map v q m.entries

symmetric : (a b : List ℕ) → bytes_eq a b ≡ eq_by_cmp (slice_cmp nat_cmp) b a
symmetric a b = sym (is_eq-slice_cmp a b) ∙ (eq_by_cmp_equiv nat_list_cmp_total).symm a b

pub same : {V : Type 0} (m n : FinMap (slice_cmp nat_cmp) V) → ((q : List ℕ) → finite.get m q ≡ finite.get n q) → m ≡ n
same m n is = same_map nat_list_cmp_total (slice_cmp-IsAntisymmetric nat_cmp-IsAntisymmetric) m n is

option_map-cond : {X V : Type 0} (v : X → V) (b : Bool) (w : X) (o : Option X) → option_map v (cond b (Some w) o) ≡ cond b (Some (v w)) (option_map v o)
option_map-cond v true w o = refl
option_map-cond v false w o = refl

option_map-cond_none : {X V : Type 0} (v : X → V) (b : Bool) (o : Option X) → option_map v (cond b None o) ≡ cond b None (option_map v o)
option_map-cond_none v true o = refl
option_map-cond_none v false o = refl

pub map_of-insert : {Y X V : Type 0} (v : X → V) (bs : List ℕ) (m n : BTreeMap (String Y) X) (w : X) → tree.UpdatesBy string_cmp (λ k. slice_cmp nat_cmp bs (string_bytes k)) m n (Some w) → map_of v n ≡ finite.insert (map_of v m) bs (v w)
map_of-insert v bs m n w updates = same _ _ (λ q.
    get-map_of v n q
    ∙ ap (option_map v) (btree_map_updates_text bs m n (Some w) updates q)
    ∙ option_map-cond v (bytes_eq bs q) w (tree.get_by_text m q)
    ∙ ap (λ b. cond b (Some (v w)) (option_map v (tree.get_by_text m q))) (symmetric bs q)
    ∙ ap (cond (eq_by_cmp (slice_cmp nat_cmp) q bs) (Some (v w))) (sym (get-map_of v m q))
    ∙ sym (get-insert nat_list_cmp_total (map_of v m) bs (v w) q))

pub map_of-remove : {Y X V : Type 0} (v : X → V) (bs : List ℕ) (m n : BTreeMap (String Y) X) → tree.UpdatesBy string_cmp (λ k. slice_cmp nat_cmp bs (string_bytes k)) m n None → map_of v n ≡ finite.remove (map_of v m) bs
map_of-remove v bs m n updates = same _ _ (λ q.
    get-map_of v n q
    ∙ ap (option_map v) (btree_map_updates_text bs m n None updates q)
    ∙ option_map-cond_none v (bytes_eq bs q) (tree.get_by_text m q)
    ∙ ap (λ b. cond b None (option_map v (tree.get_by_text m q))) (symmetric bs q)
    ∙ ap (cond (eq_by_cmp (slice_cmp nat_cmp) q bs) None) (sym (get-map_of v m q))
    ∙ sym (get-remove nat_list_cmp_total (map_of v m) bs q))

pub get-found : {Y X V : Type 0} (v : X → V) (bs : List ℕ) (m : BTreeMap (String Y) X) (x : X) → Some x ≡ tree.get_by_text m bs → finite.get (map_of v m) bs ≡ Some (v x)
get-found v bs m x e = get-map_of v m bs ∙ ap (option_map v) (sym e)

pub get-missing : {Y X V : Type 0} (v : X → V) (bs : List ℕ) (m : BTreeMap (String Y) X) → None ≡ tree.get_by_text m bs → finite.get (map_of v m) bs ≡ None
get-missing v bs m e = get-map_of v m bs ∙ ap (option_map v) (sym e)

pub found : {Y X V : Type 0} (v : X → V) (bs : List ℕ) (m : BTreeMap (String Y) X) (r : Option (Bor X)) → option_copied r ≡ tree.get_by_text m bs
    → MatchOption r (finite.get (map_of v m) bs ≡ None) (λ x. finite.get (map_of v m) bs ≡ Some (v x.now))
found v bs m None e = get-missing v bs m e
found v bs m (Some x) e = get-found v bs m x.now e

-- the same where the key is a `String`
pub map_of-insert_key : {Y X V : Type 0} (v : X → V) (key : String Y) (m n : BTreeMap (String Y) X) (w : X) → tree.UpdatesBy string_cmp (string_cmp key) m n (Some w) → map_of v n ≡ finite.insert (map_of v m) (string_bytes key) (v w)
map_of-insert_key v key m n w updates = map_of-insert v (string_bytes key) m n w updates

same_variant : {X V : Type 0} (v : X → V) (o : Option X) → is_some (option_map v o) ≡ is_some o
same_variant v None = refl
same_variant v (Some x) = refl

pub contains-map_of : {Y X V : Type 0} (v : X → V) (m : BTreeMap (String Y) X) (q : List ℕ) → finite.contains_key (map_of v m) q ≡ is_some (tree.get_by_text m q)
contains-map_of v m q = ap is_some (get-map_of v m q) ∙ same_variant v (tree.get_by_text m q)

pub equal_keys : (q bs : List ℕ) → eq_by_cmp (slice_cmp nat_cmp) q bs ≡ true → q ≡ bs
equal_keys q bs e = (bytes_eq-Decides q bs).0 (sym (is_eq-slice_cmp q bs) ∙ e)

put_back : {V : Type 0} (m : FinMap (slice_cmp nat_cmp) V) (bs : List ℕ) (x : V) → finite.get m bs ≡ Some x → (q : List ℕ) (b : Bool) → eq_by_cmp (slice_cmp nat_cmp) q bs ≡ b → cond b (Some x) (finite.get m q) ≡ finite.get m q
put_back m bs x is q true e = sym is ∙ ap (finite.get m) (sym (equal_keys q bs e))
put_back m bs x is q false e = refl

-- to put back what is there changes nothing
pub insert-same : {V : Type 0} (m : FinMap (slice_cmp nat_cmp) V) (bs : List ℕ) (x : V) → finite.get m bs ≡ Some x → finite.insert m bs x ≡ m
insert-same m bs x is = same _ _ (λ q. get-insert nat_list_cmp_total m bs x q ∙ put_back m bs x is q (eq_by_cmp (slice_cmp nat_cmp) q bs) refl)
