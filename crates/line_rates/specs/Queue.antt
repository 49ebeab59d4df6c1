-- The queue of asks, in which asks with the same name are adjacent.
use Rattle.std.specs.Prelude.{◌≡◌, ◌≢◌, ℕ, ◌+◌, ◌<◌, ◌≤◌, List, map, count_by, length, slice_index_or, Option}
use Rattle.std.specs.List.{All, AllAdjacentBelow}
use Rattle.limit_tree.specs.Sharing.{LimitTree}
use Rattle.limit_tree.specs.declared.node.Node.{Node}
use Rattle.line_rates.specs.declared.ask.Ask.{Ask}
use Rattle.line_rates.specs.declared.ask.Name.{Name}
use Rattle.line_rates.specs.declared.queue.Queued.{Queued}
use Rattle.line_rates.specs.Alike.{Numbered, IsNumberOf, IsOrderedPlan}
use Rattle.line_rates.specs.Grown.{key, AreGrown}
use Rattle.line_rates.specs.Names.{bears}
use Rattle.line_rates.specs.Rates.{Rates}
use Rattle.line_rates.specs.TickTree.{Asker, ask_in, IsPlan}

-- an ask in the queue, with its lane
abbrev pub asker_of : Queued → Asker
asker_of x = x.asker

abbrev pub askers : List Queued → List Asker
askers queue = map asker_of queue

abbrev pub asks_of : List Queued → List Ask
asks_of queue = map ask_in (askers queue)

-- the trees of a queue; `new` is the queue in the order of their leaves
abbrev pub AreGrownOver : {A : Type 0} → Rates → ℕ → ℕ → List Queued → List Queued → List (Node A)
    → Type 0
AreGrownOver r tick level old new kids = AreGrown r tick level (askers old) (askers new) kids

-- the plan for a queue
abbrev pub IsPlanOf : Rates → ℕ → List Queued → LimitTree → List ℕ → Type 0
IsPlanOf r tick queue t lanes = IsPlan r tick (askers queue) t lanes

-- its ask, with the index of that among all asks
abbrev pub numbered_of : Queued → Numbered
numbered_of x = (x.number, x.asker)

abbrev pub numbered : List Queued → List Numbered
numbered queue = map numbered_of queue

-- under each name no more asks count than of all asks
abbrev pub AreAmong : Rates → List Ask → List Ask → Type 0
AreAmong r all asks = (n : Name) → count_by (bears r n) asks ≤ count_by (bears r n) all

-- the plan for a queue, if its asks are those of a list, in their order
abbrev pub IsOrderedPlanOf : Rates → ℕ → List Queued → LimitTree → List ℕ → Type 0
IsOrderedPlanOf r tick queue t lanes =
    All (IsNumberOf (askers queue)) (numbered queue)
    → IsOrderedPlan r tick (askers queue) t lanes

abbrev pub name_of : Queued → Option Name
name_of x = x.name

-- each ask has its name at the level
abbrev pub AreNamedAt : Rates → ℕ → List Queued → Type 0
AreNamedAt r level queue = All (λ x. x.name ≡ key r level x.asker.1) queue

-- adjacent asks with the same name have the same first ask
abbrev pub AreNumbered : List Queued → Type 0
AreNumbered queue =
    AllAdjacentBelow (λ x y. x.name ≡ y.name → x.first ≡ y.first) queue (length queue)

-- an ask that is itself the first with its name
abbrev pub IsOwnFirst : Queued → Type 0
IsOwnFirst x = x.first ≡ x.number

-- such are those with another name than the ask before them
abbrev pub AreOwnFirst : List Queued → Type 0
AreOwnFirst queue = (i : ℕ) (d : Queued) → i < length queue
    → ((j : ℕ) → j + 1 ≡ i
    → (slice_index_or queue j d).name ≢ (slice_index_or queue i d).name)
    → IsOwnFirst (slice_index_or queue i d)

-- any ask between two with the same name has that name
abbrev pub IsContiguous : List Queued → Type 0
IsContiguous queue = (i j k : ℕ) (d : Queued) → i ≤ j → j ≤ k → k < length queue
    → (slice_index_or queue i d).name ≡ (slice_index_or queue k d).name
    → (slice_index_or queue i d).name ≡ (slice_index_or queue j d).name

pub record AreTogether (r : Rates) (level : ℕ) (queue : List Queued) : Type 0 where
  pub named : AreNamedAt r level queue
  pub contiguous : IsContiguous queue

-- the first `count` asks of the queue have the name of the first, and the next has another
pub record IsRun (queue : List Queued) (count : ℕ) : Type 0 where
  pub some : 0 < count
  pub within : count ≤ length queue
  pub same : (i : ℕ) (d : Queued) → i < count
      → (slice_index_or queue i d).name ≡ (slice_index_or queue 0 d).name
  pub next : (d : Queued) → count < length queue
      → (slice_index_or queue count d).name ≢ (slice_index_or queue 0 d).name
