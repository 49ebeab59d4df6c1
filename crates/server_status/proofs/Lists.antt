-- Lists that are read one element after another.
use Rattle.std.proofs.Common.{◌≡◌, ◌∙◌, ◌+◌, ◌<◌, ◌++◌, ℕ, List, [], ◌∷◌, ap, get_or, length, map, refl, subst, sym}
use Rattle.std.proofs.lemmas.List.{map-append, map_more, take_more}
use Rattle.std.specs.Prelude.{take}
use Rattle.serde_json.specs.Data.{Data}
use Rattle.serde_json.specs.View.{items_of, view}
use Rattle.serde_json.specs.declared.value.Value.{Value}
use Rattle.server_status.specs.StatusRead.{AreOf, listed}

pub listed-items_of : (ds : List Data) → listed (items_of ds) ≡ ds
listed-items_of [] = refl
listed-items_of (d ∷ ds) = ap (λ rest. d ∷ rest) (listed-items_of ds)

-- one more
pushed : {X : Type 0} (Is : Data → X → Type 0) (ds : List Data) (xs : List X) (d : Data) (x : X) → AreOf Is ds xs → Is d x → AreOf Is (ds ++ d ∷ []) (xs ++ x ∷ [])
pushed Is [] [] d x are is = (is, tt)
pushed Is [] (y ∷ ys) d x are is = absurd are
pushed Is (e ∷ es) [] d x are is = absurd are
pushed Is (e ∷ es) (y ∷ ys) d x are is = (are.0, pushed Is es ys d x are.1 is)

-- what was read of the values before one, and of it
pub are_of-more : {X : Type 0} (Is : Data → X → Type 0) (values : List Value) (i : ℕ) (value : Value) (xs more : List X) (x : X)
    → i < length values → value ≡ get_or values i value → AreOf Is (map view (take i values)) xs → Is (view value) x → more ≡ xs ++ x ∷ []
    → AreOf Is (map view (take (i + 1) values)) more
are_of-more Is values i value xs more x within at before is grown =
    rw (grown, take_more values i value within, map-append)
    (pushed Is (map view (take i values)) xs (view (get_or values i value)) x before (subst (λ (v : Value). Is (view v) x) at is))

-- what was made of the elements before one, and of it
pub shown_more : {X : Type 0} (shows : X → Data) (xs : List X) (i : ℕ) (x : X) (old new : List Value) (v : Value)
    → i < length xs → x ≡ get_or xs i x → map view old ≡ map shows (take i xs) → view v ≡ shows x → new ≡ old ++ v ∷ [] → map view new ≡ map shows (take (i + 1) xs)
shown_more shows xs i x old new v within at before is grown =
    let here : view v ≡ shows (get_or xs i x) = is ∙ ap shows at in
    ap (λ vs. map view vs) grown ∙ map-append view old (v ∷ []) ∙ (λ k. before k ++ here k ∷ []) ∙ sym (map_more shows xs i x within)
