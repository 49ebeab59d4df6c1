-- The ends of a file: the file, the octets that are left to be read of it, and the calls on it.
use Rattle.std.specs.Prelude.{◌≡◌, ◌⊎◌, ◌<◌, ℕ, Result, MatchResult}
use Rattle.counted_file.specs.Calls.{FileCalls, Fails, Passes}
use Rattle.virtual_tree.specs.declared.fault.StoreFault.{StoreFault}
use Rattle.virtual_tree.specs.declared.fault.StoreFault.TheVariants.{Device}
use Rattle.folder_store.specs.declared.open.Rest.{Rest}
use Rattle.folder_store.specs.declared.open.Rest.TheVariants.{AtLeast, Ended}

-- the least that a file must still deliver
abbrev pub least : Rest → ℕ
least (AtLeast octets) = octets
least Ended = 0

-- a source: its file, the calls on it, and the least that this must still deliver
pub record SourceState (F : Type 0) : Type 0 where
  pub file : F
  pub calls : FileCalls
  pub left : ℕ

-- A read of a source succeeded exactly if one call on its file passed, or if it made none since it
-- was at its end; and it is a fault exactly if one failed, or if one passed by which the file ended
-- before its length.
abbrev pub ReportsRead : {F : Type 0} → Result ℕ StoreFault → SourceState F → SourceState F → Type 0
ReportsRead answer old new = MatchResult answer
    (λ count. Passes old.calls new.calls
    ⊎ ((count ≡ 0) × (old.left ≡ 0) × (new.calls ≡ old.calls)))
    (λ fault. Fails old.calls new.calls
    ⊎ ((fault ≡ Device) × (0 < old.left) × Passes old.calls new.calls))
