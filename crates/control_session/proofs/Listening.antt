-- What was heard, with what was heard more, and why a session breaks off.
use Rattle.std.proofs.Common.{ℕ, ◌≡◌, ◌+◌, List, [], ◌++◌, false, Result, Ok, Err, ap, sym, subst}
use Rattle.std.specs.Prelude.{IsErrAnd, IsErrOf, OnErr}
use Rattle.std.proofs.lemmas.List.{append-nil}
use Rattle.ftp_wire.specs.Items.{Item}
use Rattle.ftp_wire.specs.Reading.{HasRead}
use Rattle.ftp_wire.specs.declared.reader.LineReader.{LineReader}
use Rattle.control_session.specs.Turns.{Heard}
use Rattle.control_session.specs.declared.turn_fault.TurnFault.{TurnFault}
use Rattle.control_session.specs.declared.turn_fault.TurnFault.TheVariants as turn
use Rattle.control_session.specs.Sessions.{fault_of}
use Rattle.control_session.specs.declared.fault.ControlFault.{ControlFault}
use Rattle.control_session.specs.declared.fault.ControlFault.TheVariants.{ReadFault, Memory}

abbrev pub more : Heard → List ℕ → List Item → Heard
more heard octets items = record { octets = heard.octets ++ octets; items = heard.items ++ items; reads = heard.reads + 1; ended = heard.ended; failed = heard.failed; asked = false }

pub nothing_more : {A : Type 0} (heard : Heard) (lines : LineReader A) → HasRead heard.octets heard.items lines → HasRead heard.octets (heard.items ++ []) lines
nothing_more heard lines has = subst (λ (x : List Item). HasRead heard.octets x lines) (sym (append-nil heard.items)) has

module _ {T : Type 0} where
  -- where memory runs out, no read has failed
  pub no_memory_read : (answer : Result T ControlFault) → IsErrAnd answer (λ fault. fault ≡ Memory) → IsErrOf answer ReadFault → ⊥
  no_memory_read (Ok value) is same = absurd is
  no_memory_read (Err fault) is same = absurd (cc)

  -- nor where a turn breaks off
  pub no_turn_read : (answer : Result T ControlFault) (why : TurnFault) → IsErrAnd answer (λ fault. fault ≡ fault_of why) → IsErrOf answer ReadFault → ⊥
  no_turn_read (Ok value) why is same = absurd is
  no_turn_read (Err fault) turn.Write is same = absurd (cc)
  no_turn_read (Err fault) turn.Memory is same = absurd (cc)

  -- a fault that is handed on is the same
  pub same_read : (answer : Result T ControlFault) (why : ControlFault) → IsErrAnd answer (λ fault. fault ≡ why) → IsErrOf answer ReadFault → why ≡ ReadFault
  same_read (Ok value) why is same = absurd is
  same_read (Err fault) why is same = cc

  pub err_memory : (answer : Result T ControlFault) → IsErrAnd answer (λ fault. fault ≡ Memory) → IsErrOf answer Memory
  err_memory (Ok value) is = absurd is
  err_memory (Err fault) is = ap (λ (f : ControlFault). Err f) is

  pub on_err_to : (answer : Result T ControlFault) (P Q : Type 0) → (P → Q) → OnErr answer P → OnErr answer Q
  on_err_to (Ok value) P Q to p = tt
  on_err_to (Err fault) P Q to p = to p
