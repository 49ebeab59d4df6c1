-- Screens that were written one after another.
use Rattle.std.proofs.Common.{◌≡◌, ◌∙◌, ℕ, List, [], ◌∷◌, ◌++◌, Option, Some, None, append-nil, append_assoc, ap, sym, subst, Result, IfOk, Ok, Err}
use Rattle.std.specs.Io.KnownBytes.{Appends}
use Rattle.std.proofs.lemmas.List.Concat.{flat_map-append}
use Rattle.ftpd_program.specs.Watching.{AreScreens, IsScreen, one_text}

-- nothing is appended
pub none_appended : (a : Option (List ℕ)) → Appends a a []
none_appended None = tt
none_appended (Some xs) = sym (append-nil xs)

both_appended : (a b c : Option (List ℕ)) (first second : List ℕ) → Appends a b first → Appends b c second → Appends a c (first ++ second)
both_appended None b c first second one two = tt
both_appended (Some xs) None c first second one two = absurd one
both_appended (Some xs) (Some ys) None first second one two = absurd two
both_appended (Some xs) (Some ys) (Some zs) first second one two =
    two ∙ (ap (λ (x : List ℕ). x ++ second) one ∙ append_assoc xs first second)

-- one more screen
pub screens_more : (rows : ℕ) (screens : List (List ℕ)) (text : List ℕ) → AreScreens rows screens → IsScreen rows text → AreScreens rows (screens ++ text ∷ [])
screens_more rows [] text are is = (is, tt)
screens_more rows (screen ∷ screens) text are is = (are.0, screens_more rows screens text are.1 is)

one_more : (screens : List (List ℕ)) (text : List ℕ) → one_text screens ++ text ≡ one_text (screens ++ text ∷ [])
one_more screens text = ap (λ (x : List ℕ). one_text screens ++ x) (sym (append-nil text)) ∙ sym (flat_map-append (λ x. x) screens (text ∷ []))

pub texts_more : (a b c : Option (List ℕ)) (screens : List (List ℕ)) (text : List ℕ) → Appends a b (one_text screens) → Appends b c text → Appends a c (one_text (screens ++ text ∷ []))
texts_more a b c screens text first second = subst (λ (x : List ℕ). Appends a c x) (one_more screens text) (both_appended a b c (one_text screens) text first second)

pub if_ok : {T E : Type 0} (r : Result T E) (P Q : T → Type 0) → ((x : T) → P x → Q x) → IfOk r P → IfOk r Q
if_ok (Ok x) P Q f p = f x p
if_ok (Err e) P Q f p = p
