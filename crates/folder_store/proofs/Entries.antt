-- Entries of a listing.
use Rattle.std.proofs.Common.{◌≡◌, ◌-◌, ℕ, zero, suc, true, false, List, [], ◌∷◌, length, map, Some, sym, ap, ◌∙◌}
use Rattle.std.specs.Prelude.{slice_get}
use Rattle.std.specs.Cmp.Lexicographic.{slice_cmp}
use Rattle.std.specs.Ordering.{is_lt, nat_cmp}
use Rattle.std.specs.String.{string_bytes}
use Rattle.std.specs.declared.cmp.Ordering.TheVariants.{Less}
use Rattle.std.proofs.lemmas.List.{length-map}
use Rattle.virtual_tree.specs.Calls.{entry_of}
use Rattle.virtual_tree.specs.declared.listed.ListedEntry.{ListedEntry}
use Rattle.folder_store.specs.Listings.{IsListedBefore}

mapped_get : {X Y : Type 0} (f : X → Y) (xs : List X) (k : ℕ) (x : X) → slice_get xs k ≡ Some x → slice_get (map f xs) k ≡ Some (f x)
mapped_get f [] k x e = absurd (cc)
mapped_get {X} f (y ∷ xs) zero x e = ap (λ (z : X). Some (f z)) (some_same e)
  where
    some_same : Some y ≡ Some x → y ≡ x
    some_same e = cc
mapped_get f (y ∷ xs) (suc k) x e = mapped_get f xs k x e

pub listed_before : {A : Type 0} (listed : List (ListedEntry A)) (entry : ListedEntry A) (name : List ℕ) → slice_get listed (length listed - 1) ≡ Some entry → (slice_cmp nat_cmp (string_bytes entry.name) name ≡ Less → ⊥) → IsListedBefore (map entry_of listed) name
listed_before listed entry name last not =
    let count : length (map entry_of listed) - 1 ≡ length listed - 1 = ap (λ (n : ℕ). n - 1) (length-map listed entry_of) in
    (entry_of entry, ap (slice_get (map entry_of listed)) count ∙ mapped_get entry_of listed (length listed - 1) entry last, not)

pub not_less : (name other : List ℕ) → is_lt (slice_cmp nat_cmp name other) ≡ false → slice_cmp nat_cmp name other ≡ Less → ⊥
not_less name other is less = true_false (sym (ap is_lt less) ∙ is)
  where
    true_false : true ≡ false → ⊥
    true_false e = cc
