-- What holds of a step holds of a host that was lent the store and the floors for it.
use Rattle.std.proofs.Common.{◌≡◌, Option, Some, None, Result, Ok, Err, sym, subst}
use Rattle.std.specs.Option.{IfSome}
use Rattle.std.specs.Result.{IfErr, IfOk, OnErr}
use Rattle.session_table.specs.declared.inputs.Input.{Input}
use Rattle.control_session.specs.declared.no_step.NoStep.{NoStep}
use Rattle.control_session.specs.declared.no_step.NoStep.TheVariants.{NoMemory}

pub lend : {X T E : Type 0} (input : Option X) (result : Result T E) (P Q : X → T → Type 0) → ((x : X) (v : T) → P x v → Q x v)
    → IfSome input (λ x. IfOk result (λ v. P x v)) → IfSome input (λ x. IfOk result (λ v. Q x v))
lend None result P Q also holds = tt
lend (Some x) (Ok v) P Q also holds = also x v holds
lend (Some x) (Err e) P Q also holds = tt

pub lend_err : {X T E : Type 0} (input : Option X) (result : Result T E) (U : Type 0) (P Q : X → Type 0) → ((x : X) → U → P x → Q x)
    → OnErr result U → IfSome input (λ x. OnErr result (P x)) → IfSome input (λ x. OnErr result (Q x))
lend_err None result U P Q also same holds = tt
lend_err (Some x) (Ok v) U P Q also same holds = tt
lend_err (Some x) (Err e) U P Q also same holds = also x same holds

-- a step for which memory ran out, with the event that is given back
pub lend_refused : {A X T K : Type 0} (input : Option X) (result : Result T (NoStep A K)) (U : Type 0) (P : X → Type 0) (event : X → Option (Input A K)) (Q : X → NoStep A K → Type 0)
    → ((x : X) → U → P x → Q x (NoMemory (event x)))
    → OnErr result U → IfSome input (λ x. OnErr result (P x)) → IfSome input (λ x. IfErr result (λ why. why ≡ NoMemory (event x)))
    → IfSome input (λ x. IfErr result (λ why. Q x why))
lend_refused None result U P event Q also same holds is = tt
lend_refused (Some x) (Ok v) U P event Q also same holds is = tt
lend_refused (Some x) (Err why) U P event Q also same holds is = subst (λ (w : NoStep _ _). Q x w) (sym is) (also x same holds)

pub lend_why : {X T E : Type 0} (input : Option X) (result : Result T E) (P Q : X → E → Type 0) → ((x : X) (e : E) → P x e → Q x e)
    → IfSome input (λ x. IfErr result (λ e. P x e)) → IfSome input (λ x. IfErr result (λ e. Q x e))
lend_why None result P Q also holds = tt
lend_why (Some x) (Ok v) P Q also holds = tt
lend_why (Some x) (Err e) P Q also holds = also x e holds

pub some_to : {X : Type 0} (o : Option X) (P Q : X → Type 0) → ((x : X) → P x → Q x) → IfSome o P → IfSome o Q
some_to None P Q also holds = tt
some_to (Some x) P Q also holds = also x holds

pub lifts : {X : Type 0} (o : Option X) (x : X) (P : X → Type 0) → o ≡ Some x → P x → IfSome o P
lifts {X} o x P is holds = subst (λ (y : Option X). IfSome y P) (sym is) holds
