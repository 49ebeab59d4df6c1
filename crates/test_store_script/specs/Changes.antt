-- The call of a store that a line asks for.
use Rattle.std.specs.Prelude.{Option, Some, None, Result}
use Rattle.virtual_path.specs.Path.{Path}
use Rattle.virtual_tree.specs.Calls.{Exchange}
use Rattle.virtual_tree.specs.Calls.Exchange.{MakeDir, RemoveDir, RemoveFile, Rename}
use Rattle.virtual_tree.specs.declared.fault.StoreFault.{StoreFault}
use Rattle.test_store_script.specs.declared.calls.Call.{Call}
use Rattle.test_store_script.specs.declared.calls.Call.TheVariants as call

-- the one call that changes the store, with its result; none if the line asks for several calls, or
-- for none that changes it
abbrev pub change_of : {R K : Type 0} → Call → Path → Path → Result (Unit {0}) StoreFault
    → Option (Exchange R K)
change_of call.MakeDirectory path to answer = Some (MakeDir path answer)
change_of call.RemoveDirectory path to answer = Some (RemoveDir path answer)
change_of call.RemoveFile path to answer = Some (RemoveFile path answer)
change_of call.Rename path to answer = Some (Rename path to answer)
change_of _ path to answer = None

abbrev pub done : {X : Type 0} → X → Unit {0}
done _ = tt
