-- Trying each of the given lanes once.
use Rattle.std.specs.Prelude.{◌≡◌, ℕ, suc, ◌+◌, List, [], ◌∷◌, length, slice_index_or, Option, Some, None, Bool, true, false, cond}
use Rattle.std.specs.Int.{bit_at}
use Rattle.line_rates.specs.declared.ask.Ask.{Ask}
use Rattle.line_rates.specs.TickTree.{Asker}
use Rattle.desk_rule.specs.declared.view.TraceView.{TraceView}
use Rattle.desk_rule.specs.Lanes.{has_missed, has_collected}

-- whether a lane is given, by a list of what holds of each
abbrev pub is_given : List Bool → ℕ → Bool
is_given given i = slice_index_or given i false

-- all lanes are given
abbrev pub every : ℕ → Bool
every i = true

-- a lane after it was tried if it is given, with the ask found there, if any
abbrev pub tried_by : Bool → Option Ask → TraceView → TraceView
tried_by given None t = cond given (has_missed t) t
tried_by given (Some a) t = has_collected a t

-- the first lanes, each after it was tried if it is given
abbrev pub tried : (ℕ → Bool) → List (Option Ask) → List TraceView → List TraceView
tried given [] ts = ts
tried given (f ∷ fs) [] = []
tried given (f ∷ fs) (t ∷ ts) = tried_by (given 0) f t ∷ tried (λ i. given (suc i)) fs ts

-- asks were found on given lanes only
abbrev pub AreOfGiven : (ℕ → Bool) → List (Option Ask) → Type 0
AreOfGiven given found = (i : ℕ) → given i ≡ false → slice_index_or found i None ≡ None

abbrev pub ask_at : ℕ → Option Ask → List Asker
ask_at k None = []
ask_at k (Some a) = (k, a) ∷ []

-- the asks found on the lanes from k on, with their lanes
abbrev pub asks_from : ℕ → List (Option Ask) → List Asker
asks_from k [] = []
asks_from k (None ∷ fs) = asks_from (k + 1) fs
asks_from k (Some a ∷ fs) = (k, a) ∷ asks_from (k + 1) fs

-- 1 if an ask was found
abbrev pub mark_of : Option Ask → ℕ
mark_of None = 0
mark_of (Some a) = 1

-- the set bits of the number are the lanes on which an ask was found
abbrev pub AreMarks : List (Option Ask) → ℕ → Type 0
AreMarks found n = (i : ℕ) → bit_at n i ≡ mark_of (slice_index_or found i None)

-- each given lane was tried once, with these results, and no other
pub record AreTried (given : ℕ → Bool) (found : List (Option Ask)) (old new : List TraceView)
    (asks : List Asker) (answered : ℕ) : Type 0 where
  pub wide : length found ≡ length old
  pub only : AreOfGiven given found
  pub traces : new ≡ tried given found old
  pub asks_are : asks ≡ asks_from 0 found
  pub marks : AreMarks found answered
