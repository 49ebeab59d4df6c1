-- What holds of plans, carried over.
use Rattle.std.proofs.Common.{ℕ, Bool, true, false, cond, List, [], ◌∷◌}
use Rattle.session_table.specs.Always.{Always}
use Rattle.session_table.specs.declared.actions.Action.{Action}
use Rattle.session_table.specs.Calls.{Call}
use Rattle.session_table.specs.Plans.{Plan}
use Rattle.session_table.specs.Plans.Plan.{Then, WithLine, WithLines, Ask, AskAdmit}
use Rattle.session_table.specs.Table.{Taken, then_left}
use Rattle.session_table.specs.Views.{View}

module _ {A R K : Type 0} where
  -- to weaker facts
  pub always_to : (C D : Call K → Type 0) (U V : ℕ → Type 0) (E F : List ℕ → View → List (Action A R K) → Type 0)
      → ((call : Call K) → C call → D call) → ((user : ℕ) → U user → V user)
      → ((admitted : List ℕ) (view : View) (actions : List (Action A R K)) → E admitted view actions → F admitted view actions)
      → (admitted : List ℕ) (plan : Plan A R K) → Always C U E admitted plan → Always D V F admitted plan
  always_to C D U V E F call user end admitted (Then view actions) is = end admitted view actions is
  always_to C D U V E F call user end admitted (WithLine reported next) is = λ line. always_to C D U V E F call user end admitted (next line) (is line)
  always_to C D U V E F call user end admitted (WithLines reported next) is = λ lines. always_to C D U V E F call user end admitted (next lines) (is lines)
  always_to C D U V E F call user end admitted (Ask asked next) is =
      (call asked is.0, λ answer. always_to C D U V E F call user end admitted (next answer) (is.1 answer))
  always_to C D U V E F call user end admitted (AskAdmit number next) is = (
    user number is.0,
    always_to C D U V E F call user end (number ∷ admitted) (next true) is.1,
    always_to C D U V E F call user end admitted (next false) is.2,
  )

  -- behind a change of what the session knows then
  pub always_left : (C : Call K → Type 0) (U : ℕ → Type 0) (E : List ℕ → View → List (Action A R K) → Type 0) (change : View → View)
      → (admitted : List ℕ) (plan : Plan A R K) → Always C U (λ users view actions. E users (change view) actions) admitted plan → Always C U E admitted (then_left change plan)
  always_left C U E change admitted (Then view actions) is = is
  always_left C U E change admitted (WithLine reported next) is = λ line. always_left C U E change admitted (next line) (is line)
  always_left C U E change admitted (WithLines reported next) is = λ lines. always_left C U E change admitted (next lines) (is lines)
  always_left C U E change admitted (Ask asked next) is = (is.0, λ answer. always_left C U E change admitted (next answer) (is.1 answer))
  always_left C U E change admitted (AskAdmit number next) is = (
    is.0,
    always_left C U E change (number ∷ admitted) (next true) is.1,
    always_left C U E change admitted (next false) is.2,
  )

  -- a choice between plans
  pub always_cond : (C : Call K → Type 0) (U : ℕ → Type 0) (E : List ℕ → View → List (Action A R K) → Type 0) (b : Bool) (p q : Plan A R K)
      → Always C U E [] p → Always C U E [] q → Always C U E [] (cond b p q)
  always_cond C U E true p q is also = is
  always_cond C U E false p q is also = also

  pub always_taken : (C : Call K → Type 0) (U : ℕ → Type 0) (E : List ℕ → View → List (Action A R K) → Type 0) (b : Bool) (p q : Taken A R K)
      → Always C U E [] p.plan → Always C U E [] q.plan → Always C U E [] (cond b p q).plan
  always_taken C U E true p q is also = is
  always_taken C U E false p q is also = also

  -- whatever is answered, a fact of each end
  pub ends_all : (E : List ℕ → View → List (Action A R K) → Type 0) → ((users : List ℕ) (view : View) (actions : List (Action A R K)) → E users view actions)
      → (admitted : List ℕ) (plan : Plan A R K) → Always (λ call. Unit {0}) (λ user. Unit {0}) E admitted plan
  ends_all E all admitted (Then view actions) = all admitted view actions
  ends_all E all admitted (WithLine reported next) = λ line. ends_all E all admitted (next line)
  ends_all E all admitted (WithLines reported next) = λ lines. ends_all E all admitted (next lines)
  ends_all E all admitted (Ask asked next) = (tt, λ answer. ends_all E all admitted (next answer))
  ends_all E all admitted (AskAdmit number next) = (tt, ends_all E all (number ∷ admitted) (next true), ends_all E all admitted (next false))
