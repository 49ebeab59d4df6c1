-- The faults of a command that reads one text and writes another, by what is known of the end that it read.
use Rattle.std.proofs.Common.{◌≡◌, ◌≢◌, ◌<◌, ℕ, List, Option, IfSome, length, refl}
use Rattle.sheets_program.specs.Runs.{Octets}
use Rattle.text_io.specs.Texts.{IsTextOf}
use Rattle.text_io.specs.declared.fault.TextFault.{TextFault}
use Rattle.text_io.specs.declared.fault.TextFault.TheVariants.{TooLong, ReadFault, WriteFault, Memory}
use Rattle.text_io.specs.declared.read.TheConstants.{MAX_TEXT}
use Rattle.ftpd_program.specs.Faults.{IsPrintingFaultOf, IsReadingFaultOf}

pub printing : (gives : Octets) (Prints : List ℕ → List ℕ → Type 0) (Refuses : List ℕ → Type 0) (left : Option (List ℕ)) (fault : TextFault) → gives left
    → (fault ≡ TooLong → IfSome left (λ text. MAX_TEXT < length text))
    → (fault ≡ WriteFault → (text printed : List ℕ) × IsTextOf text left × Prints text printed × Refuses printed)
    → IsPrintingFaultOf gives Prints Refuses fault
printing gives Prints Refuses left TooLong given long refused = (left, given, long refl)
printing gives Prints Refuses left ReadFault given long refused = tt
printing gives Prints Refuses left WriteFault given long refused = (left, given, refused refl)
printing gives Prints Refuses left Memory given long refused = tt

pub reading : (gives : Octets) (left : Option (List ℕ)) (fault : TextFault) → gives left → fault ≢ WriteFault
    → (fault ≡ TooLong → IfSome left (λ text. MAX_TEXT < length text)) → IsReadingFaultOf gives fault
reading gives left TooLong given is long = (left, given, long refl)
reading gives left ReadFault given is long = tt
reading gives left WriteFault given is long = absurd (is refl)
reading gives left Memory given is long = tt
