-- The faults with which a session of `script` breaks off.
use Rattle.std.proofs.Common.{◌≡◌, Bool, ℕ, List, Option, true, inl, inr, subst}
use Rattle.script_session.specs.Breaks.{MayBreakReading}
use Rattle.script_session.specs.Served.{IsSessionBreak, most_reads}
use Rattle.script_session.specs.ControlFault.TheVariants.{ReadFault, WriteFault, Memory}
use Rattle.script_session.specs.declared.fault.SessionFault.{SessionFault}
use Rattle.script_session.specs.declared.fault.SessionFault.TheVariants.{Folder, Control}
use Rattle.sheets_program.specs.Runs.{Octets}
use Rattle.ftpd_program.specs.Causes.{MayBreakInput}
use Rattle.ftpd_program.specs.Scripting.{IsScriptBreak}
use Rattle.ftpd_program.specs.declared.scripting.ScriptFault.{ScriptFault}
use Rattle.ftpd_program.specs.declared.scripting.ScriptFault.TheVariants.{Session}

of_input : (gives : Octets) (fails writing : Type 0) (may_fail : Bool) (left : Option (List ℕ)) (fault : SessionFault) → gives left → (may_fail ≡ true → fails)
    → IsSessionBreak (MayBreakReading most_reads may_fail left) writing fault → IsSessionBreak (MayBreakInput gives fails) writing fault
of_input gives fails writing may_fail left Folder given failing is = tt
of_input gives fails writing may_fail left (Control ReadFault) given failing (inl may) = inl (failing may)
of_input gives fails writing may_fail left (Control ReadFault) given failing (inr long) = inr (left, given, long)
of_input gives fails writing may_fail left (Control WriteFault) given failing is = is
of_input gives fails writing may_fail left (Control Memory) given failing is = tt

-- what breaks a session off on an end, breaks it off on the file of that end
pub broken : (gives : Octets) (fails writing : Type 0) (may_fail : Bool) (left : Option (List ℕ)) (fault : ScriptFault) (why : SessionFault) → gives left → (may_fail ≡ true → fails)
    → IsScriptBreak (MayBreakReading most_reads may_fail left) writing fault → fault ≡ Session why → IsSessionBreak (MayBreakInput gives fails) writing why
broken gives fails writing may_fail left fault why given failing is same =
    of_input gives fails writing may_fail left why given failing (subst (λ (f : ScriptFault). IsScriptBreak (MayBreakReading most_reads may_fail left) writing f) same is)
