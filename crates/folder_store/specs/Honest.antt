-- Properties of a store over a folder of the machine: not the contents of its files, but when it
-- may refuse, and which calls of the machine it makes where it does not.
use Rattle.std.specs.Prelude.{◌≡◌, ◌≢◌, ℕ, ℤ, Bool, List, Option, Some}
use Rattle.virtual_tree.specs.declared.fault.StoreFault.{StoreFault}
use Rattle.virtual_tree.specs.declared.fault.StoreFault.TheVariants.{Device, Full}
use Rattle.virtual_tree.specs.Calls.{Exchange, refusal}
use Rattle.counted_file.specs.Calls.{FileWithCalls}
use Rattle.folder_store.specs.Ends.{SourceState}
use Rattle.folder_store.specs.MachineCalls.{MachineCall}
use Rattle.folder_store.specs.Served.{Serves}
use Rattle.folder_store.specs.Walks.{walker}
use Rattle.folder_store.specs.declared.count.FaultCount.{FaultCount}

-- a store: its machine, whether open directories were found there by their numbers, the folder's
-- path, whether a file that was written is synced before it is closed, and the count of faults
pub record FolderState (M : Type 0) : Type 0 where
  pub machine : M
  pub numbered : Bool
  pub folder : List ℕ
  pub syncs : Bool
  pub faults : FaultCount

-- the count of faults changes exactly if the call was refused for the device; and no call is
-- refused as full
pub record IsHonest (old new : ℕ) (refused : Option StoreFault) : Type 0 where
  pub device : refused ≡ Some Device → new ≢ old
  pub others : refused ≢ Some Device → new ≡ old
  pub never_full : refused ≢ Some Full

-- a call of such a store: it is honest, the folder and the syncing stay the same, and if it was not
-- refused,
-- exactly the calls of the machine were made that it takes
pub record FolderStep {M F D : Type 0} (Does : M → MachineCall F D → M → Type 0)
    (number : D → Option ℤ) (old : FolderState M)
    (exchange : Exchange (SourceState F) (FileWithCalls F)) (new : FolderState M) : Type 0 where
  pub honest : IsHonest old.faults.count new.faults.count (refusal exchange)
  pub folder : new.folder ≡ old.folder
  pub syncs : new.syncs ≡ old.syncs
  pub serves : Serves Does number old.syncs (walker old.machine old.numbered) old.folder
      exchange (walker new.machine new.numbered)
