-- Lines that were written one after another.
use Rattle.std.proofs.Common.{◌≡◌, ◌∙◌, ◌+◌, ◌-◌, ◌<◌, ◌≤◌, false, arith, zero, suc, refl, append-nil, ℕ, List, [], ◌∷◌, ◌++◌, append_assoc, ap, get_or, length, map, sym, Result, OnOk, IfOk, Ok, Err}
use Rattle.std.proofs.lemmas.List.{length-take, map_more, take_more}
use Rattle.std.proofs.Math.Nat.{min-le_left}
use Rattle.std.proofs.lemmas.List.Concat.{flat_map-append}
use Rattle.std.specs.List.{flat_map}
use Rattle.std.specs.Prelude.{◌==◌, nat_lt, take}
use Rattle.server_status.specs.declared.status.Status.{Status}
use Rattle.status_table.specs.Lines.{session_line}
use Rattle.status_table.specs.Rates.{idle_sessions}
use Rattle.status_table.specs.Tables.{headed, session_lines, session_names}

-- lines of the elements before one, and of it
pub line_more : {X : Type 0} (f : X → List ℕ) (xs : List X) (i : ℕ) (x : X) (old before after : List (List ℕ)) (line : List ℕ)
    → i < length xs → x ≡ get_or xs i x → before ≡ old ++ map f (take i xs) → after ≡ before ++ line ∷ [] → line ≡ f x → after ≡ old ++ map f (take (i + 1) xs)
line_more f xs i x old before after line within at was grown is =
    grown ∙ (ap (λ (ls : List (List ℕ)). ls ++ line ∷ []) was ∙ (append_assoc old (map f (take i xs)) (line ∷ [])
    ∙ ap (λ (ls : List (List ℕ)). old ++ ls)
    (ap (λ (l : List ℕ). map f (take i xs) ++ l ∷ []) (is ∙ ap f at) ∙ sym (map_more f xs i x within))))

-- the same of elements with several lines each
pub flat_more : {X : Type 0} (f : X → List (List ℕ)) (xs : List X) (i : ℕ) (x : X) (old before after : List (List ℕ))
    → i < length xs → x ≡ get_or xs i x → before ≡ old ++ flat_map f (take i xs) → after ≡ before ++ f x → after ≡ old ++ flat_map f (take (i + 1) xs)
flat_more {X} f xs i x old before after within at was grown =
    let some = flat_map f (take i xs) in
    let y = get_or xs i x in
    let last : some ++ f x ≡ flat_map f (take (i + 1) xs) =
    ap (λ (l : List (List ℕ)). some ++ l) (ap f at ∙ sym (append-nil (f y)))
    ∙ (sym (flat_map-append f (take i xs) (y ∷ [])) ∙ ap (λ (l : List X). flat_map f l) (sym (take_more xs i x within))) in
    grown ∙ (ap (λ (ls : List (List ℕ)). ls ++ f x) was ∙ (append_assoc old some (f x) ∙ ap (λ (ls : List (List ℕ)). old ++ ls) last))

-- the first elements, and what is made of them
pub map_take : {X Y : Type 0} (f : X → Y) (n : ℕ) (xs : List X) → map f (take n xs) ≡ take n (map f xs)
map_take f zero [] = refl
map_take f (suc n) [] = refl
map_take f zero (x ∷ xs) = refl
map_take f (suc n) (x ∷ xs) = ap (λ rest. f x ∷ rest) (map_take f n xs)

pub map_map : {X Y Z : Type 0} (f : Y → Z) (g : X → Y) (xs : List X) → map f (map g xs) ≡ map (λ x. f (g x)) xs
map_map f g [] = refl
map_map f g (x ∷ xs) = ap (λ rest. f (g x) ∷ rest) (map_map f g xs)

-- names above the lines of some elements
pub headed_map : {X : Type 0} (f : X → List ℕ) (xs : List X) → (length xs == 0) ≡ false → headed (map f xs) ≡ session_names ∷ map f xs
headed_map f [] is = absurd (cc)
headed_map f (x ∷ xs) is = refl

pub fits_two : (now : Status) (space : ℕ) → nat_lt space 2 ≡ false → session_lines now space ≡ headed (map (session_line now) (take (space - 1) (idle_sessions now)))
fits_two now space is = rw is refl

pub first_few : {X : Type 0} (n : ℕ) (xs : List X) → length (take n xs) ≤ n
first_few n xs =
    let are = length-take n xs in
    let few = min-le_left n (length xs) in
    omega (arith, are, few)

-- a claim on success follows from a weaker one
pub on_ok : {E : Type 0} (r : Result (Unit {0}) E) (P Q : Type 0) → (P → Q) → OnOk r P → OnOk r Q
on_ok (Ok u) P Q f p = f p
on_ok (Err e) P Q f p = p

-- three parts, one after another, and four
pub three : {X : Type 0} (t t1 t2 t3 a b c : List X) → t1 ≡ t ++ a → t2 ≡ t1 ++ b → t3 ≡ t2 ++ c → t3 ≡ t ++ ((a ++ b) ++ c)
three {X} t t1 t2 t3 a b c is1 is2 is3 =
    is3 ∙ ap (λ (x : List X). x ++ c) (is2 ∙ ap (λ (x : List X). x ++ b) is1 ∙ append_assoc t a b) ∙ append_assoc t (a ++ b) c

pub four : {X : Type 0} (t t1 t2 t3 t4 a b c d : List X) → t1 ≡ t ++ a → t2 ≡ t1 ++ b → t3 ≡ t2 ++ c → t4 ≡ t3 ++ d → t4 ≡ t ++ (((a ++ b) ++ c) ++ d)
four {X} t t1 t2 t3 t4 a b c d is1 is2 is3 is4 =
    is4 ∙ ap (λ (x : List X). x ++ d) (three t t1 t2 t3 a b c is1 is2 is3) ∙ append_assoc t ((a ++ b) ++ c) d

-- three lines, one after another
pub three_lines : (o o1 o2 o3 : List (List ℕ)) (a b c x y z : List ℕ) → a ≡ x → b ≡ y → c ≡ z → o1 ≡ o ++ a ∷ [] → o2 ≡ o1 ++ b ∷ [] → o3 ≡ o2 ++ c ∷ [] → o3 ≡ o ++ x ∷ y ∷ z ∷ []
three_lines o o1 o2 o3 a b c x y z ax by cz is1 is2 is3 =
    three o o1 o2 o3 (a ∷ []) (b ∷ []) (c ∷ []) is1 is2 is3 ∙ (λ i. o ++ ax i ∷ by i ∷ cz i ∷ [])

pub if_ok : {T E : Type 0} (r : Result T E) (P Q : T → Type 0) → ((x : T) → P x → Q x) → IfOk r P → IfOk r Q
if_ok (Ok x) P Q f p = f x p
if_ok (Err e) P Q f p = p
