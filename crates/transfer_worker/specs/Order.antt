-- The rule of a board: one list of all pushes, and one of all pops; each entry is a job with the
-- number of the pass that made it.
use Rattle.std.specs.Prelude.{◌≡◌, ℕ, ◌≤◌, ◌==◌, List, [], ◌∷◌, ◌++◌, length, map, if◌then◌else◌}
use mathlib.Core.Option.{some}
use lib.ListN.{get_elem?}
use Rattle.crossbeam_queue.specs.Fifo.{Held}
use Rattle.transfer_worker.specs.declared.order.Hand.{Hand}

module _ {J : Type 0} where
  abbrev pub hand : List J → List J → Hand J
  hand pushed popped = record { pushed = pushed; popped = popped }

  -- the jobs of a list of entries
  abbrev pub jobs : List (ℕ × J) → List J
  jobs entries = map (λ e. e.1) entries

  -- the jobs of one pass
  abbrev pub by : ℕ → List (ℕ × J) → List J
  by pass [] = []
  by pass (e ∷ entries) = if e.0 == pass then e.1 ∷ by pass entries else by pass entries

  -- The jobs pushed are those popped followed by those waiting, in order. Each pass pushed and
  -- popped exactly its own jobs, in order, and nobody else pushed or popped any.
  pub record Kept (items : List J) (views : List (Hand J)) : Type 0 where
    pub made : List (ℕ × J)
    pub given : List (ℕ × J)
    pub in_order : jobs made ≡ jobs given ++ items
    pub each : (pass : ℕ) (v : Hand J) → get_elem? views pass ≡ some v
        → (by pass made ≡ v.pushed) × (by pass given ≡ v.popped)
    pub no_other : (pass : ℕ) → length views ≤ pass → (by pass made ≡ []) × (by pass given ≡ [])

  -- at some moment these jobs wait on the board, and one of its passes has done this
  abbrev pub Shows : Hand J → List J → Type 0
  Shows v items =
      (views : List (Hand J)) × (pass : ℕ) × (get_elem? views pass ≡ some v) × Kept items views

  -- the pass pushes the job after those that wait
  abbrev pub Pushed : Hand J → J → Hand J → Type 0
  Pushed v job w = (w ≡ hand (v.pushed ++ job ∷ []) v.popped)
      × ((items : List J) × Shows v items × Shows w (items ++ job ∷ []))

  -- the pass pops the oldest job
  abbrev pub Popped : Hand J → J → Hand J → Type 0
  Popped v job w = (w ≡ hand v.pushed (v.popped ++ job ∷ []))
      × ((items : List J) × Shows v (job ∷ items) × Shows w items)

  -- at some moment this many jobs wait
  abbrev pub ShowsHeld : ℕ → Hand J → Type 0
  ShowsHeld count v = Held count (Shows v)
