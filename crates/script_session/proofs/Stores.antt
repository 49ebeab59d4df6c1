-- A session over a store in memory.
use Rattle.std.proofs.Common.{◌≡◌, ◌∙◌, ℕ, List, Option, Result, Ok, Err, IfErr, OnOk, inl, sym, subst}
use Rattle.std.specs.declared.alloc.Global.{Global}
use Rattle.authorizer.specs.Users.{Users}
use Rattle.line_rates.specs.Rates.{Rates}
use Rattle.memory_store.specs.InMemory.{Memory}
use Rattle.rate_floors.specs.Promises.{HasNoSessions, Promises}
use Rattle.script_session.specs.ControlFault.{ControlFault}
use Rattle.script_session.specs.Scripts.{IsScript}
use Rattle.session_table.specs.declared.settings.Settings.{Settings}
use Rattle.script_session.specs.Served.{IsBrokenBy, IsServedBy}
use Rattle.script_session.specs.declared.fault.SessionFault.{SessionFault}
use Rattle.script_session.specs.declared.fault.SessionFault.TheVariants.{Control, Folder}

module _ (users : Users) (rates : Rates) (store store' : Memory) (settings : Settings Global) (port : ℕ) (old new out out' : Option (List ℕ)) (promises : Promises)
    (same : promises.rates ≡ rates) (none : HasNoSessions promises) where
  by_result : (result : Result (Unit {0}) ControlFault) → IsScript users settings port promises store store' old new out out' result
      → IsServedBy users rates store settings port old new out out' result
  by_result result script = record { promises = promises; store' = store'; rates_are = same; none = none; script = script }

  pub served_by : (result : Result (Unit {0}) ControlFault) → IsScript users settings port promises store store' old new out out' result
      → OnOk result (IsServedBy users rates store settings port old new out out' (Ok tt))
  served_by (Ok done) script = by_result (Ok done) script
  served_by (Err fault) script = tt

  pub broken_by : (result : Result (Unit {0}) ControlFault) → IsScript users settings port promises store store' old new out out' result
      → IfErr result (IsBrokenBy users rates store settings port old new out out')
  broken_by (Ok done) script = tt
  broken_by (Err fault) script = inl (by_result (Err fault) script)

-- what holds of a session that was served, where that is told
pub on_reported : {X Y : Type 0} (answer : Result (Unit {0}) ControlFault) (reported : Result (Unit {0}) SessionFault) → OnOk reported (answer ≡ Ok tt) → OnOk answer X → (X → Y) → OnOk reported Y
on_reported {X} answer (Ok done) same is more = more (subst (λ (a : Result (Unit {0}) ControlFault). OnOk a X) same is)
on_reported answer (Err fault) same is more = tt

-- what holds of a session that broke off, where that is told
pub on_broken : (X : ControlFault → Type 0) (Y : SessionFault → Type 0) (answer : Result (Unit {0}) ControlFault) (reported : Result (Unit {0}) SessionFault)
    → IfErr reported (λ fault. (why : ControlFault) × (fault ≡ Control why) × (answer ≡ Err why)) → IfErr answer X → ((why : ControlFault) → X why → Y (Control why)) → IfErr reported Y
on_broken X Y answer (Ok done) same is more = tt
on_broken X Y answer (Err fault) same is more = subst Y (sym same.1) (more same.0 (subst (λ (a : Result (Unit {0}) ControlFault). IfErr a X) same.2 is))

-- what is told of a session is no folder
pub no_folder : (X : Type 0) (answer : Result (Unit {0}) ControlFault) (reported : Result (Unit {0}) SessionFault)
    → IfErr reported (λ fault. (why : ControlFault) × (fault ≡ Control why) × (answer ≡ Err why)) → IfErr reported (λ fault. fault ≡ Folder → X)
no_folder X answer (Ok done) same = tt
no_folder X answer (Err fault) same = λ is. let no : Folder ≡ Control same.0 = sym is ∙ same.1 in cc
