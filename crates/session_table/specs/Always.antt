-- Facts of each call that a plan makes, of each user for whom it asks admission, and of each of its
-- ends.
use Rattle.std.specs.Prelude.{ℕ, true, false, List, [], ◌∷◌}
use Rattle.session_table.specs.declared.actions.Action.{Action}
use Rattle.session_table.specs.Calls.{AnswerOf, Call}
use Rattle.session_table.specs.Plans.{Plan}
use Rattle.session_table.specs.Plans.Plan.{Then, WithLine, WithLines, Ask, AskAdmit}
use Rattle.session_table.specs.Views.{View}

module _ {A R K : Type 0} where
  -- For all answers, each call of the plan is one of these, each user for whom it asks admission is
  -- one of those, and its end, with the users who were admitted, is one of these ends.
  abbrev pub Always : (Call K → Type 0) → (ℕ → Type 0)
      → (List ℕ → View → List (Action A R K) → Type 0)
      → List ℕ → Plan A R K → Type 0
  Always Calls Users Ends admitted (Then view actions) = Ends admitted view actions
  Always Calls Users Ends admitted (WithLine reported next) =
      (line : List ℕ) → Always Calls Users Ends admitted (next line)
  Always Calls Users Ends admitted (WithLines reported next) =
      (lines : List (List ℕ)) → Always Calls Users Ends admitted (next lines)
  Always Calls Users Ends admitted (Ask call next) =
      Calls call × ((answer : AnswerOf R call) → Always Calls Users Ends admitted (next answer))
  Always Calls Users Ends admitted (AskAdmit user next) =
      Users user × Always Calls Users Ends (user ∷ admitted) (next true)
      × Always Calls Users Ends admitted (next false)

  -- each call is one of these
  abbrev pub EachCall : (Call K → Type 0) → Plan A R K → Type 0
  EachCall Calls plan = Always Calls (λ user. Unit {0}) (λ admitted view actions. Unit {0}) [] plan

  -- admission is asked for these users alone
  abbrev pub EachAdmission : (ℕ → Type 0) → Plan A R K → Type 0
  EachAdmission Users plan =
      Always (λ call. Unit {0}) Users (λ admitted view actions. Unit {0}) [] plan

  -- each end is one of these
  abbrev pub EachEnd : (List ℕ → View → List (Action A R K) → Type 0) → Plan A R K → Type 0
  EachEnd Ends plan = Always (λ call. Unit {0}) (λ user. Unit {0}) Ends [] plan
