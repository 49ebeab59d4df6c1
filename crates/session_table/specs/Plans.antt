-- The plan of an input: its calls of the store and of the guaranteed rates, and the result of each
-- answer.
use Rattle.std.specs.Prelude.{ℕ, ◌≡◌, ◌⊎◌, Bool, true, List}
use Rattle.rate_floors.specs.Promises.{Promises, admits, after_admit}
use Rattle.virtual_tree.specs.Calls.{Exchange}
use Rattle.session_table.specs.declared.actions.Action.{Action}
use Rattle.session_table.specs.Calls.{AnswerOf, Call, answered, is_look}
use Rattle.session_table.specs.Texts.{Reported, AreReported, IsReported}
use Rattle.session_table.specs.Views.{View}

-- A plan ends with the state of the session and the actions, or asks first. R is the type of the
-- store's sources, K of its sinks, A of allocators.
pub data Plan (A R K : Type 0) : Type 0 where
  Then : View → List (Action A R K) → Plan A R K
  -- a line with this content, such as the time of a file
  WithLine : Reported → (List ℕ → Plan A R K) → Plan A R K
  -- lines with these contents, such as those of a listing
  WithLines : List Reported → (List (List ℕ) → Plan A R K) → Plan A R K
  -- a call of the store
  Ask : (call : Call K) → (AnswerOf R call → Plan A R K) → Plan A R K
  -- asks for admission of one more session of the user with this number; if it is admitted, it is
  -- counted
  AskAdmit : ℕ → (Bool → Plan A R K) → Plan A R K

-- Exactly the calls of the plan were made, in order, with this result.
abbrev pub Ran : {S A R K : Type 0} → (S → Exchange R K → S → Type 0) → Plan A R K
    → S → S → Promises → Promises → View → List (Action A R K) → Type 0
Ran Step (Then view actions) old new promises promises' view' actions' =
    (new ≡ old) × (promises' ≡ promises) × (view' ≡ view) × (actions' ≡ actions)
Ran Step (WithLine reported next) old new promises promises' view' actions' =
    (line : List ℕ) × IsReported reported line
    × Ran Step (next line) old new promises promises' view' actions'
Ran Step (WithLines reported next) old new promises promises' view' actions' =
    (lines : List (List ℕ)) × AreReported reported lines
    × Ran Step (next lines) old new promises promises' view' actions'
Ran {S} {A} {R} Step (Ask call next) old new promises promises' view' actions' =
    (answer : AnswerOf R call) × (mid : S) × Step old (answered call answer) mid
    × Ran Step (next answer) mid new promises promises' view' actions'
Ran Step (AskAdmit user next) old new promises promises' view' actions' =
    Ran Step (next (admits promises user)) old new (after_admit promises user) promises' view'
    actions'

-- a plan that does not ask for admission: the guarantees are unchanged
abbrev pub RanByStore : {S A R K : Type 0} → (S → Exchange R K → S → Type 0) → Plan A R K
    → S → S → View → List (Action A R K) → Type 0
RanByStore Step plan old new view' actions' =
    (promises : Promises) → Ran Step plan old new promises promises view' actions'

-- a plan that makes no call of the store
abbrev pub RanByFloors : {A R K : Type 0} → Plan A R K → Promises → Promises
    → View → List (Action A R K) → Type 0
RanByFloors plan promises promises' view' actions' =
    Ran {S = Unit {0}} (λ old call new. ⊥) plan tt tt promises promises' view' actions'

-- Lack of memory may stop a plan here: before its first call, or after calls that change nothing.
abbrev pub Stops : {S A R K : Type 0} → (S → Exchange R K → S → Type 0) → Plan A R K → S → S
    → Type 0
Stops {S} {A} {R} Step (Ask call next) old new =
    (new ≡ old)
    ⊎ ((is_look call ≡ true) × (answer : AnswerOf R call) × (mid : S)
    × Step old (answered call answer) mid × Stops Step (next answer) mid new)
Stops Step plan old new = new ≡ old
