-- Posting amounts on lanes.
use Rattle.std.specs.Prelude.{◌≡◌, ℕ, ◌<◌, List, [], ◌∷◌, length, slice_index_or, slice_set, true, ⊤}
use Rattle.line_rates.specs.TickTree.{Asker}
use Rattle.grant_ledger.specs.Books.{NamesNot}
use Rattle.desk_rule.specs.declared.view.TraceView.{TraceView}
use Rattle.desk_rule.specs.Lanes.{untraced, has_posted}
use Rattle.desk_rule.specs.Lanes.{is_due}

-- the round's view of a lane
abbrev pub trace_at : List TraceView → ℕ → TraceView
trace_at ts i = slice_index_or ts i untraced

-- amount i posted on lane i of the list, one after another
abbrev pub posted_all : List ℕ → List ℕ → List TraceView → List TraceView
posted_all [] ns ts = ts
posted_all (l ∷ ls) [] ts = ts
posted_all (l ∷ ls) (n ∷ ns) ts = posted_all ls ns (slice_set ts l (has_posted n (trace_at ts l)))

-- on each of the lanes an ask was collected and not answered, and no lane occurs twice
abbrev pub AreDue : List ℕ → List TraceView → Type 0
AreDue [] ts = ⊤
AreDue (l ∷ ls) ts =
    (l < length ts) × (is_due (trace_at ts l) ≡ true) × NamesNot l ls × AreDue ls ts

-- each ask collected was answered
abbrev pub AllAnswered : List TraceView → Type 0
AllAnswered ts =
    (i : ℕ) → i < length ts → length (trace_at ts i).collected ≡ length (trace_at ts i).posted

-- the amount 0 for an ask
abbrev pub nothing_for : Asker → ℕ
nothing_for a = 0
