-- What a walk has shown its visitor.
use Rattle.std.proofs.Common.{◌≡◌, ℕ, List, [], ◌++◌, length, sym, ap, ◌∙◌, subst, append-nil}
use Rattle.limit_tree.specs.Outline.{leaf_count}
use Rattle.limit_tree.specs.declared.place.Place.{Place}

-- Since so many nodes and leaves were passed the visitor was shown some nodes more, behind which all that it is to be
-- shown has a rest. (Not unfolded, so that no search tries it at each goal of the walk.)
unfoldable pub HasShown : {S : Type 0} → (S → List Place → S → Type 0) → ℕ → ℕ → S → ℕ → ℕ → S → List Place → List Place → Type 0
HasShown {S} saw nodes leaves was next_nodes next_leaves now all rest =
    (start : S) (seen : List Place) → length seen ≡ nodes → leaf_count seen ≡ leaves → saw start seen was →
    (done : List Place) × (length (seen ++ done) ≡ next_nodes) × (leaf_count (seen ++ done) ≡ next_leaves) × saw start (seen ++ done) now × (all ≡ done ++ rest)

-- it was shown all
pub shown-all : {S : Type 0} (saw : S → List Place → S → Type 0) (nodes leaves next_nodes next_leaves : ℕ) (was now : S) (all rest : List Place) → rest ≡ [] → HasShown saw nodes leaves was next_nodes next_leaves now all rest → (start : S) (seen : List Place) → length seen ≡ nodes → leaf_count seen ≡ leaves → saw start seen was → saw start (seen ++ all) now
unfolding HasShown
shown-all saw nodes leaves next_nodes next_leaves was now all rest none shown start seen count leaf before =
    let here = shown start seen count leaf before in
    subst (λ (ps : List Place). saw start (seen ++ ps) now) (sym (here.4 ∙ (ap (λ (ps : List Place). here.0 ++ ps) none ∙ append-nil here.0))) here.3
