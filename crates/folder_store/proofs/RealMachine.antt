-- The calls of the real machine, by their results.
use Rattle.std.proofs.Common.{ℤ, ◌≡◌, ◌≢◌, ◌∙◌, List, ℕ, Bool, true, false, Result, Ok, Err, Some, ap, sym, pos, negsuc}
use Rattle.std.proofs.lemmas.Bool.{false≢true}
use Rattle.std.specs.Result.{IfErr, OnErr}
use Rattle.std.specs.IoError.{raw_os_error}
use Rattle.std.specs.declared.io.Error.{Error}
use Rattle.libc.specs.declared.TheConstants.{ENOENT}
use Rattle.folder_store.specs.MachineCalls.{names_read}
use Rattle.folder_store.specs.MachineCalls.MachineCall.{Reads, Closes}
use Rattle.folder_store.specs.RealMachine.{ShowsCall}
use Rattle.folder_store.specs.declared.files_machine.OpenDirectory.{OpenDirectory}

-- a number that passes a test which -1 does not pass
pub is_other : (test : ℤ → Bool) (number : ℤ) → test (negsuc 0) ≡ true → test number ≡ false → number ≢ negsuc 0
is_other test number first passes is = false≢true (sym passes ∙ (ap test is ∙ first))

module _ (F : Type 0) where
  pub closed_shows : (file : F) (code : ℤ) (result : Result (Unit {0}) Error) → IfErr result (λ reason. raw_os_error reason ≡ Some code) → ShowsCall (Closes file result)
  closed_shows file code (Ok done) is = tt
  closed_shows file code (Err error) is = (code, is)

  pub read_shows : (directory : OpenDirectory) (buffer : List ℕ) (code : ℤ) (result : Result ℕ Error) → OnErr result ((code ≢ pos 0) × (code ≢ ENOENT))
      → IfErr result (λ reason. raw_os_error reason ≡ Some code) → ShowsCall {F = F} (Reads directory (names_read buffer result))
  read_shows directory buffer code (Ok count) refused is = tt
  read_shows directory buffer code (Err error) (some, other) is = (code, is, some, other)
