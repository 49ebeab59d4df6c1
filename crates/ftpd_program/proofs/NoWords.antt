-- The ends of words that memory ran out for.
use Rattle.std.proofs.Common.{◌≡◌, ◌∷◌, [], ℕ, Bool, List, Option, inl, inr, map, subst, sym}
use Rattle.std.specs.Borrow.{Bor}
use Rattle.client_patience.specs.declared.patience.Patience.{Patience}
use Rattle.command_line.specs.declared.words.WordsFault.{WordsFault}
use Rattle.command_line.specs.declared.words.WordsFault.TheVariants.{Memory as NoMemory, Refused as NoCommand}
use Rattle.config_report.specs.Looks.{Shown}
use Rattle.sheets_program.specs.Endings.{IsReportedEnd}
use Rattle.sheets_program.specs.Runs.{Octets}
use Rattle.sheets_program.specs.declared.ending.Exit.{Exit}
use Rattle.sheets_program.specs.declared.ending.Exit.TheVariants.{Done, Flawed, Refused, Text, Share, Check}
use Rattle.text_io.specs.declared.fault.TextFault.{TextFault}
use Rattle.ftpd_program.specs.Against.{IsAgainstEnd}
use Rattle.ftpd_program.specs.Faults.{IsPrintingFaultOf, IsReadingFaultOf}
use Rattle.ftpd_program.specs.Printing.{IsPrintOf}
use Rattle.ftpd_program.specs.Runs.{IsPrintEnd, IsTopEnd}
use Rattle.ftpd_program.specs.Serving.{IsServeEnd, Service}
use Rattle.ftpd_program.specs.declared.ending.FtpdExit.TheVariants.{Common}
use Rattle.ftpd_program.specs.declared.printing.Print.{Print}
use Rattle.ftpd_program.specs.declared.printing.Print.TheVariants.{Table}

pub no_serve : (gives : Octets) (shown : Shown) (config : List ℕ) (serves : Service) (path ready : Option (List ℕ)) (p : Patience) (old new : Option (List ℕ)) (fault : WordsFault) (exit : Exit) → fault ≡ NoMemory → IsReportedEnd fault old new exit
    → IsServeEnd gives shown config serves path ready p old new (Common exit)
no_serve gives shown config serves path ready p old new NoMemory (Text why cause) is end = subst (λ (w : TextFault). IsReadingFaultOf gives w) (sym end) tt
no_serve gives shown config serves path ready p old new NoMemory Done is end = absurd end
no_serve gives shown config serves path ready p old new NoMemory Flawed is end = absurd end
no_serve gives shown config serves path ready p old new NoMemory (Refused text) is end = absurd end
no_serve gives shown config serves path ready p old new NoMemory (Share why cause) is end = absurd end
no_serve gives shown config serves path ready p old new NoMemory (Check why cause) is end = absurd end
no_serve gives shown config serves path ready p old new (NoCommand text is_help) exit is end = absurd (cc)

pub no_print : (print : Print) (shown : Shown) (gives : Octets) (Refuses : List ℕ → Type 0) (old new : Option (List ℕ)) (fault : WordsFault) (exit : Exit) → fault ≡ NoMemory → IsReportedEnd fault old new exit
    → IsPrintEnd print shown gives Refuses old new (Common exit)
no_print print shown gives Refuses old new NoMemory (Text why cause) is end = subst (λ (w : TextFault). IsPrintingFaultOf gives (IsPrintOf print shown) Refuses w) (sym end) tt
no_print print shown gives Refuses old new NoMemory Done is end = absurd end
no_print print shown gives Refuses old new NoMemory Flawed is end = absurd end
no_print print shown gives Refuses old new NoMemory (Refused text) is end = absurd end
no_print print shown gives Refuses old new NoMemory (Share why cause) is end = absurd end
no_print print shown gives Refuses old new NoMemory (Check why cause) is end = absurd end
no_print print shown gives Refuses old new (NoCommand text is_help) exit is end = absurd (cc)

pub no_against : (json : Bool) (gives : List ℕ → Octets) (config other : List ℕ) (Refuses : List ℕ → Type 0) (old new : Option (List ℕ)) (fault : WordsFault) (exit : Exit) → fault ≡ NoMemory → IsReportedEnd fault old new exit
    → IsAgainstEnd json gives config other Refuses old new (Common exit)
no_against json gives config other Refuses old new NoMemory (Text why cause) is end =
    inr (inl (inl (subst (λ (w : TextFault). IsReadingFaultOf (gives config) w) (sym end) tt, λ apart. absurd (apart end))))
no_against json gives config other Refuses old new NoMemory Done is end = absurd end
no_against json gives config other Refuses old new NoMemory Flawed is end = absurd end
no_against json gives config other Refuses old new NoMemory (Refused text) is end = absurd end
no_against json gives config other Refuses old new NoMemory (Share why cause) is end = absurd end
no_against json gives config other Refuses old new NoMemory (Check why cause) is end = absurd end
no_against json gives config other Refuses old new (NoCommand text is_help) exit is end = absurd (cc)

pub no_top : (once : Bool) (path : List ℕ) (rows : ℕ) (shown : Shown) (gives : Octets) (Refuses : List ℕ → Type 0) (old new : Option (List ℕ)) (fault : WordsFault) (exit : Exit) → fault ≡ NoMemory → IsReportedEnd fault old new exit
    → IsTopEnd once path rows (IsPrintEnd (Table rows) shown gives Refuses old new) (Common exit)
no_top once path rows shown gives Refuses old new NoMemory (Text why cause) is end = subst (λ (w : TextFault). IsPrintingFaultOf gives (IsPrintOf (Table rows) shown) Refuses w) (sym end) tt
no_top once path rows shown gives Refuses old new NoMemory Done is end = absurd end
no_top once path rows shown gives Refuses old new NoMemory Flawed is end = absurd end
no_top once path rows shown gives Refuses old new NoMemory (Refused text) is end = absurd end
no_top once path rows shown gives Refuses old new NoMemory (Share why cause) is end = absurd end
no_top once path rows shown gives Refuses old new NoMemory (Check why cause) is end = absurd end
no_top once path rows shown gives Refuses old new (NoCommand text is_help) exit is end = absurd (cc)

-- the second word of two
pub second_word : (words : List (Bor (List ℕ))) (first second : List ℕ) → map (λ w. w.now) words ≡ first ∷ second ∷ [] → (word : Bor (List ℕ)) × (word.now ≡ second)
second_word [] first second are = absurd (cc)
second_word (a ∷ []) first second are = absurd (cc)
second_word (a ∷ b ∷ rest) first second are = (b, cc)

-- the second word of three
pub second_of_three : (words : List (Bor (List ℕ))) (first second third : List ℕ) → map (λ w. w.now) words ≡ first ∷ second ∷ third ∷ [] → (word : Bor (List ℕ)) × (word.now ≡ second)
second_of_three [] first second third are = absurd (cc)
second_of_three (a ∷ []) first second third are = absurd (cc)
second_of_three (a ∷ b ∷ []) first second third are = absurd (cc)
second_of_three (a ∷ b ∷ c ∷ rest) first second third are = (b, cc)

-- the third word of three
pub third_word : (words : List (Bor (List ℕ))) (first second third : List ℕ) → map (λ w. w.now) words ≡ first ∷ second ∷ third ∷ [] → (word : Bor (List ℕ)) × (word.now ≡ third)
third_word [] first second third are = absurd (cc)
third_word (a ∷ []) first second third are = absurd (cc)
third_word (a ∷ b ∷ []) first second third are = absurd (cc)
third_word (a ∷ b ∷ c ∷ rest) first second third are = (c, cc)

-- the third word of four
pub third_of_four : (words : List (Bor (List ℕ))) (first second third fourth : List ℕ) → map (λ w. w.now) words ≡ first ∷ second ∷ third ∷ fourth ∷ [] → (word : Bor (List ℕ)) × (word.now ≡ third)
third_of_four [] first second third fourth are = absurd (cc)
third_of_four (a ∷ []) first second third fourth are = absurd (cc)
third_of_four (a ∷ b ∷ []) first second third fourth are = absurd (cc)
third_of_four (a ∷ b ∷ c ∷ rest) first second third fourth are = (c, cc)
