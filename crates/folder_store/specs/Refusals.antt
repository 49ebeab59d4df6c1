-- The faults of a store for the machine's refusals.
use Rattle.virtual_tree.specs.declared.fault.StoreFault.{StoreFault}
use Rattle.virtual_tree.specs.declared.fault.StoreFault.TheVariants as store
use Rattle.folder_store.specs.declared.fault.MachineFault.{MachineFault}
use Rattle.folder_store.specs.declared.fault.MachineFault.TheVariants.{NotFound, NotDir, IsDir, Exists, NotEmpty, Inside, PastEnd, Device, Memory}

abbrev pub store_fault : MachineFault → StoreFault
store_fault NotFound = store.NotFound
store_fault NotDir = store.NotDir
store_fault IsDir = store.IsDir
store_fault Exists = store.Exists
store_fault NotEmpty = store.NotEmpty
store_fault Inside = store.Inside
store_fault PastEnd = store.PastEnd
store_fault (Device _) = store.Device
store_fault Memory = store.Memory
