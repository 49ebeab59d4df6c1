-- What holds of the parts of a host holds of what they were lent from.
use Rattle.std.proofs.Common.{◌≡◌, sym, subst}
use Rattle.std.specs.declared.alloc.Global.{Global}
use Rattle.memory_store.specs.InMemory.{Memory, Upload}
use Rattle.rate_floors.specs.Promises.{Promises}
use Rattle.session_host.specs.Alone.{Parts}
use Rattle.session_host.specs.declared.silent.Silent.{Silent}
use Rattle.script_session.specs.Scripts.{script_parts}
use Rattle.script_session.specs.declared.side.ScriptSide.{ScriptSide}
use Rattle.script_session.specs.declared.side.ZeroClock.{ZeroClock}

pub ends_as : {R W : Type 0} (Holds : Parts Memory ZeroClock (ScriptSide Global Upload) R W Silent → Type 0) (side : ScriptSide Global Upload)
    (store store' : Memory) (floors floors' : Promises) (reader reader' : R) (writer writer' : W)
    → store' ≡ store → floors' ≡ floors → reader' ≡ reader → writer' ≡ writer
    → Holds (script_parts store floors side reader writer) → Holds (script_parts store' floors' side reader' writer')
ends_as {R} {W} Holds side store store' floors floors' reader reader' writer writer' same same_floors same_reader same_writer holds =
    subst (λ (x : Memory). Holds (script_parts x floors' side reader' writer')) (sym same)
    (subst (λ (x : Promises). Holds (script_parts store x side reader' writer')) (sym same_floors)
    (subst (λ (x : R). Holds (script_parts store floors side x writer')) (sym same_reader)
    (subst (λ (x : W). Holds (script_parts store floors side reader x)) (sym same_writer) holds)))
