-- Answers and refusals, and what is known of them.
use Rattle.std.proofs.Common.{◌≡◌, Result, Ok, Err, IfErr, IfOk, OnOk, IsErrAnd, IsErrOf, subst, sym}

-- a refusal that tells one fault and has another has that one
pub reported_as : {T E : Type 0} (r : Result T E) (e fault : E) → IsErrAnd r (λ f. f ≡ e) → IsErrOf r fault → e ≡ fault
reported_as (Ok value) e fault gives is = absurd (cc)
reported_as (Err f) e fault gives is = cc

-- what a refusal must be, the fault that it has is
pub if_err_of : {T E : Type 0} (r : Result T E) (fault : E) (P : E → Type 0) → IfErr r P → IsErrOf r fault → P fault
if_err_of (Ok value) fault P p is = absurd (cc)
if_err_of {T} {E} (Err f) fault P p is = let same : f ≡ fault = cc in subst P same p

-- a refusal that tells one fault is of each kind that this fault is of
pub if_err : {T E : Type 0} (r : Result T E) (e : E) (P : E → Type 0) → IsErrAnd r (λ f. f ≡ e) → P e → IfErr r P
if_err (Ok value) e P gives p = absurd gives
if_err (Err f) e P gives p = subst P (sym gives) p

-- what follows from what a refusal is
pub if_err_then : {T E : Type 0} (r : Result T E) (P Q : E → Type 0) → ((e : E) → P e → Q e) → IfErr r P → IfErr r Q
if_err_then (Ok value) P Q then p = tt
if_err_then (Err f) P Q then p = then f p

-- what follows from what a value is
pub if_ok_then : {T E : Type 0} (r : Result T E) (P Q : T → Type 0) → ((value : T) → P value → Q value) → IfOk r P → IfOk r Q
if_ok_then (Ok value) P Q then p = then value p
if_ok_then (Err f) P Q then p = tt

-- what follows from what is done
pub on_ok : {T E : Type 0} (r : Result T E) (P Q : Type 0) → OnOk r P → (P → Q) → OnOk r Q
on_ok (Ok value) P Q p then = then p
on_ok (Err fault) P Q p then = tt
