-- A configuration that was read whole.
use Rattle.std.proofs.Common.{◌≡◌, ◌∙◌, ℕ, List, Option, Some, None, Result, Ok, Err, IfErr, IfOk, String, Global, string_bytes, subst, sym}
use Rattle.std.specs.Io.KnownBytes.{Consumes, IsAtEnd}
use Rattle.config_report.specs.Looks.{Shown}
use Rattle.server_config.specs.Configs.{IsConfigText}
use Rattle.server_config.specs.declared.config.Config.{Config}
use Rattle.text_io.specs.Texts.{IsTextOf}
use Rattle.ftpd_program.proofs.WholeTexts.{whole}
use Rattle.ftpd_program.specs.Scripting.{IsConfigOf, IsJudgement, IsUnconfigured, IsWarned, IsWarnedOf}
use Rattle.ftpd_program.specs.declared.scripting.ScriptFault.{ScriptFault}
use Rattle.ftpd_program.specs.declared.scripting.ScriptFault.TheVariants.{Config as Refused, Session, Text}

-- the octets that were read are the text
pub text_read : (left new : Option (List ℕ)) (items read : List ℕ) → Consumes left new items → IsAtEnd new → read ≡ items → IsTextOf read left
text_read None new items read taken end same = tt
text_read (Some text) None items read taken end same = absurd taken
text_read (Some text) (Some rest) items read taken end same = sym (same ∙ whole text rest items taken end)

pub configured : (text : List ℕ) (left : Option (List ℕ)) (answer : Result Config ScriptFault) → IsTextOf text left
    → IfOk answer (IsConfigText text) → IfOk answer (IsConfigOf left)
configured text left (Ok config) of is = (text, of, is)
configured text left (Err fault) of is = tt

pub warned_of : {V : Type 0} (shown : Shown) (path text : List ℕ) (left : Option (List ℕ)) (answer : Result (Config × String Global × V) ScriptFault) → IsTextOf text left
    → IfOk answer (λ read. IsWarned shown path text read.0 (string_bytes read.1)) → IfOk answer (λ read. IsWarnedOf shown path left read.0 (string_bytes read.1))
warned_of shown path text left (Ok read) of is = (text, of, is)
warned_of shown path text left (Err fault) of is = tt

-- the octets that were read are the text of what was there
pub octets_of : {X : Type 0} (items : X → List ℕ) (text : List ℕ) (left : Option (List ℕ)) (answer : Result X ScriptFault) → IsTextOf text left
    → IfOk answer (λ read. items read ≡ text) → IfOk answer (λ read. IsTextOf (items read) left)
octets_of items text left (Ok read) of is = subst (λ (t : List ℕ). IsTextOf t left) (sym is) of
octets_of items text left (Err fault) of is = tt

judged : (text : List ℕ) (left : Option (List ℕ)) (fault : ScriptFault) → IsTextOf text left → IsJudgement text fault → IsUnconfigured left fault
judged text left (Text fault) of is = λ no. cc
judged text left (Refused fault) of is = (text, of, is)
judged text left (Session fault) of is = absurd is

pub unconfigured : {T : Type 0} (text : List ℕ) (left : Option (List ℕ)) (answer : Result T ScriptFault) → IsTextOf text left
    → IfErr answer (IsJudgement text) → IfErr answer (IsUnconfigured left)
unconfigured text left (Ok read) of is = tt
unconfigured text left (Err fault) of is = judged text left fault of is
