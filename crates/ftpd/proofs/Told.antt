-- What holds of a value that is handed on.
use Rattle.std.proofs.Common.{◌≡◌, IfOk, Result, Ok, Err, subst}

pub told : {A E : Type 0} (P : A → Type 0) (served result : Result A E) → IfOk result (λ s. served ≡ Ok s) → IfOk served P → IfOk result P
told P served (Ok s) same holds = subst (λ r. IfOk r P) same holds
told P served (Err e) same holds = tt
