use lib.Signed.{lt_z}
use mir.Syntax.{w32}
use mir.Val.{of_z, to_z}
use Rattle.std.proofs.Common.{ℤ, List, ℕ, pos, refl, subst, sym}
use Rattle.os.specs.Paths.{FitsCString}
use Rattle.folder_store.proofs.RealMachine.{is_other}
use Rattle.folder_store.proofs.files_machine.AnyFolderMachine.enter.Goals as goal

pub returns : goal.returns
returns g c = (
  refl,
  (
    λ invalid. is_other (λ (number : ℤ). lt_z (to_z w32 (of_z w32 number)) (pos 0)) c.open_dir_at-number.result refl c.if-number-lt0.false
        (c.open_dir_at-number.ensures (subst (λ (path : List ℕ). FitsCString path → ⊥) (sym c.as_bytes.ensures.value) invalid)),
    is_other (λ (number : ℤ). lt_z number (pos 0)) (to_z w32 (of_z w32 c.open_dir_at-number.result)) refl c.if-number-lt0.false,
  ),
)
