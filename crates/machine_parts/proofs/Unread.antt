-- What is said of a file that cannot be removed, written or examined.
use Rattle.std.proofs.Common.{◌≡◌, ◌<◌, ℕ, ◌++◌, Bool, true, false, List, Option, Some, None, Result, Ok, Err, IfOk, IfSome, MatchResult, arith, codes, nat_eq}
use Rattle.std.specs.Prelude.{String, string_bytes}
use Rattle.line_queue.specs.declared.sink.LogForm.{LogForm}
use Rattle.machine_parts.specs.PlainNotes.{IsQuoted, IsUnseen, IsUnwritten, unseen_text, unwritten_text}
use Rattle.machine_parts.specs.Reasons.{SaysUnremoved}

pub says-unremoved : {Y : Type 0} (path why : List ℕ) (said : Option (String Y)) → IfSome said (λ text. string_bytes text ≡ path ++ (codes ": cannot be removed: " ++ why))
    → IfSome said (λ text. SaysUnremoved path (string_bytes text))
says-unremoved path why None is = tt
says-unremoved path why (Some text) is = (why, is)

pub says-unwritten : {Y E : Type 0} (form : LogForm) (what path named why : List ℕ) (said : Result (String Y) E) → IsQuoted path named
    → IfOk said (λ line. string_bytes line ≡ unwritten_text form what named why) → IfOk said (λ line. IsUnwritten form what path (string_bytes line))
says-unwritten form what path named why (Ok line) is text = (named, why, is, text)
says-unwritten form what path named why (Err error) is text = tt

pub says-unseen : {Y E : Type 0} (form : LogForm) (path named why : List ℕ) (said : Result (String Y) E) → IsQuoted path named
    → IfOk said (λ line. string_bytes line ≡ unseen_text form named why) → IfOk said (λ line. IsUnseen form path (string_bytes line))
says-unseen form path named why (Ok line) is text = (named, why, is, text)
says-unseen form path named why (Err error) is text = tt

-- ---- that a file takes nothing is noted

pub noted-none : {E : Type 0} (answer : Result ℕ E) (count : ℕ) (noted : Bool) → MatchResult answer (λ taken. count ≡ taken) (λ _. count ≡ 0)
    → MatchResult answer (λ _. noted ≡ false) (λ _. noted ≡ true) → IfOk answer (λ taken. 0 < taken) → noted ≡ nat_eq count 0
noted-none (Ok taken) count noted is so some = grind (arith, is, so, some)
noted-none (Err error) count noted is so some = cc
