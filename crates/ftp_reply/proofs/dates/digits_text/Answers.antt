use Rattle.std.proofs.Common.{Result, Ok, Err, MatchResult, IsOk, refl}
use Rattle.std.proofs.lemmas.Str.{IsUtf8-from_ascii}
use Rattle.ftp_reply.proofs.dates.digits_text.Goals as goal

-- the answer is `Ok` where what an error would say does not hold
IsOk-unless : {T E : Type 0} (r : Result T E) (P : T → Type 0) (Q : E → Type 0) → MatchResult r P Q → ((e : E) → Q e → ⊥) → IsOk r
IsOk-unless (Ok x) P Q cases never = refl
IsOk-unless (Err e) P Q cases never = absurd (never e cases)

pub unwrap-requires : goal.unwrap-requires
unwrap-requires c =
    IsOk-unless c.from_utf8.result _ _ c.from_utf8.ensures.cases (λ e q. q.0 (IsUtf8-from_ascii _ c.requires.ascii))
