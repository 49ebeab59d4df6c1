-- Admission of one session more.
use Rattle.std.proofs.Common.{◌≡◌, ◌<◌, ◌+◌, ℕ, zero, suc, Bool, true, false, List, [], ◌∷◌, length, take, get_or, refl, ap, ◌∙◌, sym, arith}
use Rattle.std.specs.Prelude.{◌&&◌}
use Rattle.rate_floors.specs.Promises.{Promises, admits, after_admit}
use Rattle.rate_plan.specs.Admission.{are_admitted}
use Rattle.rate_plan.specs.declared.asks.Transfer.{Transfer}

-- the promises after the sessions of transfers were asked for
abbrev pub after_all : Promises → List Transfer → Promises
after_all p [] = p
after_all p (t ∷ ts) = after_all (after_admit p t.user) ts

and_true : (b : Bool) → (b && true) ≡ b
and_true true = refl
and_true false = refl

and_more : (a b c : Bool) → (a && (b && c)) ≡ ((a && b) && c)
and_more true b c = refl
and_more false b c = refl

pub admit_more : (p : Promises) (ts : List Transfer) (i : ℕ) (d : Transfer) → i < length ts → are_admitted p (take (suc i) ts) ≡ (are_admitted p (take i ts) && admits (after_all p (take i ts)) (get_or ts i d).user)
admit_more p [] i d less = absurd (omega arith)
admit_more p (t ∷ ts) zero d less = and_true (admits p t.user)
admit_more p (t ∷ ts) (suc i) d less =
    ap (λ b. admits p t.user && b) (admit_more (after_admit p t.user) ts i d (omega arith))
    ∙ and_more (admits p t.user) (are_admitted (after_admit p t.user) (take i ts)) (admits (after_all (after_admit p t.user) (take i ts)) (get_or ts i d).user)

pub after_more : (p : Promises) (ts : List Transfer) (i : ℕ) (d : Transfer) → i < length ts → after_all p (take (suc i) ts) ≡ after_admit (after_all p (take i ts)) (get_or ts i d).user
after_more p [] i d less = absurd (omega arith)
after_more p (t ∷ ts) zero d less = refl
after_more p (t ∷ ts) (suc i) d less = after_more (after_admit p t.user) ts i d (omega arith)

-- after the session at a place was asked for
pub admitted_next : (p : Promises) (ts : List Transfer) (i n : ℕ) (d : Transfer) (now : Promises) (b : Bool) → n ≡ i + 1 → i < length ts → are_admitted p (take i ts) ≡ true → now ≡ after_all p (take i ts) → b ≡ admits now (get_or ts i d).user → are_admitted p (take n ts) ≡ b
admitted_next p ts i n d now b next less before at is =
    ap (λ (k : ℕ). are_admitted p (take k ts)) (let e : n ≡ suc i = omega arith in e)
    ∙ (admit_more p ts i d less ∙ (ap (λ x. x && admits (after_all p (take i ts)) (get_or ts i d).user) before ∙ (ap (λ q. admits q (get_or ts i d).user) (sym at) ∙ sym is)))

pub after_next : (p : Promises) (ts : List Transfer) (i n : ℕ) (d : Transfer) (now next : Promises) → n ≡ i + 1 → i < length ts → now ≡ after_all p (take i ts) → next ≡ after_admit now (get_or ts i d).user → next ≡ after_all p (take n ts)
after_next p ts i n d now next step less at is =
    is ∙ (ap (λ q. after_admit q (get_or ts i d).user) at ∙ (sym (after_more p ts i d less) ∙ ap (λ (k : ℕ). after_all p (take k ts)) (let e : suc i ≡ n = omega arith in e)))
