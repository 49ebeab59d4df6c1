-- Ends whose calls fail once a moment has passed.
use Rattle.std.specs.Prelude.{◌≡◌, ◌≤◌, ◌↔◌, ℕ, Bool, IsTrue, IsErr, IfErr, Result}
use Rattle.std.specs.IoError.{error_kind}
use Rattle.std.specs.declared.io.Error.{Error}
use Rattle.std.specs.declared.io.ErrorKind.TheVariants.{TimedOut}
use Rattle.status_page.specs.declared.timing.Timed.{Timed}

module _ {E C : Type 0} (shows : C → ℕ → C → Type 0) where
  -- the clock was asked, and showed at least the moment or not
  pub record IsLate (old new : Timed E C) (answer : Bool) : Type 0 where
    pub moment : ℕ
    pub shown : shows old.clock moment new.clock
    pub late : IsTrue answer ↔ (old.until ≤ moment)
    pub end : new.end ≡ old.end
    pub until : new.until ≡ old.until

  -- the clock was asked before the call; from the moment on the call fails, and its end is left
  pub record IsTimed {A : Type 0} (old new : Timed E C) (result : Result A Error) : Type 0 where
    pub moment : ℕ
    pub shown : shows old.clock moment new.clock
    pub until : new.until ≡ old.until
    pub failed : old.until ≤ moment → IsErr result
    pub kind : old.until ≤ moment → IfErr result (λ error. error_kind error ≡ TimedOut)
    pub kept : old.until ≤ moment → new.end ≡ old.end
