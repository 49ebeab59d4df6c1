-- The rates that were set last, and rows of users, after one more.
use Rattle.std.proofs.Common.{◌≡◌, ◌≢◌, ◌⊎◌, ◌+◌, ◌<◌, ◌++◌, ◌∷◌, [], ℕ, Bool, true, false, nat_eq, if◌then◌else◌, List, Option, inl, inr, length, map, take, get_or, refl, ap, ◌∙◌, sym}
use Rattle.std.specs.FinMap as finite
use Rattle.std.proofs.lemmas.Bool.{ne_eqb}
use Rattle.std.proofs.lemmas.Bool.Decides.{eqb_tells}
use Rattle.std.proofs.lemmas.List.{map_more, take_more}
use Rattle.authorizer.specs.Users.{Users}
use Rattle.line_rates.specs.declared.row.UserRate.{UserRate}
use Rattle.ftp_server.specs.Rows.{found_row, last_after, last_set, later, named_rows, no_rates, row_list}
use Rattle.ftp_server.specs.declared.rates.SetRates.{SetRates}
use Rattle.ftp_server.specs.declared.rates.UserRates.{UserRates}

last_push : (found : UserRates) (set : List SetRates) (row : SetRates) (number : ℕ) → last_after found (set ++ row ∷ []) number ≡ later (last_after found set number) row number
last_push found [] row number = refl
last_push found (first ∷ set) row number = last_push (later found first number) set row number

pub last_step : (set : List SetRates) (i : ℕ) (d : SetRates) (number : ℕ) (found result : UserRates) → i < length set → found ≡ last_set (take i set) number → result ≡ later found (get_or set i d) number → result ≡ last_set (take (i + 1) set) number
last_step set i d number found result less was is =
    is ∙ (ap (λ (f : UserRates). later f (get_or set i d) number) was
    ∙ (sym (last_push no_rates (take i set) (get_or set i d) number) ∙ ap (λ (xs : List SetRates). last_set xs number) (sym (take_more set i d less))))

is_same : {n : ℕ} → ((nat_eq n n ≡ true) × (n ≡ n)) ⊎ ((nat_eq n n ≡ false) × (n ≢ n)) → nat_eq n n ≡ true
is_same (inl both) = both.0
is_same (inr both) = absurd (both.1 refl)

later_own : (found : UserRates) (rates : UserRates) (number : ℕ) → later found (record { number = number; rates = rates }) number ≡ rates
later_own found rates number = ap (λ (b : Bool). if b then rates else found) (is_same (eqb_tells number number))

later_other : (found : UserRates) (set : SetRates) (number : ℕ) → number ≢ set.number → later found set number ≡ found
later_other found set number other = ap (λ (b : Bool). if b then set.rates else found) (ne_eqb set.number number (λ is. other (sym is)))

pub last_own : (set : List SetRates) (rates : UserRates) (number : ℕ) → last_set (set ++ record { number = number; rates = rates } ∷ []) number ≡ rates
last_own set rates number = last_push no_rates set (record { number = number; rates = rates }) number ∙ later_own (last_set set number) rates number

pub last_other : (set : List SetRates) (row : SetRates) (number : ℕ) → number ≢ row.number → last_set (set ++ row ∷ []) number ≡ last_set set number
last_other set row number other = last_push no_rates set row number ∙ later_other (last_set set number) row number other

append_assoc : (xs ys zs : List UserRate) → (xs ++ ys) ++ zs ≡ xs ++ (ys ++ zs)
append_assoc [] ys zs = refl
append_assoc (x ∷ xs) ys zs = ap (λ rest. x ∷ rest) (append_assoc xs ys zs)

append_nil : (xs : List UserRate) → xs ++ [] ≡ xs
append_nil [] = refl
append_nil (x ∷ xs) = ap (λ rest. x ∷ rest) (append_nil xs)

named_push : (users : Users) (set : List SetRates) (names : List (List ℕ)) (name : List ℕ) → named_rows users set (names ++ name ∷ []) ≡ named_rows users set names ++ row_list (found_row set (finite.get users name))
named_push users set [] name = append_nil (row_list (found_row set (finite.get users name)))
named_push users set (first ∷ names) name =
    ap (λ rest. row_list (found_row set (finite.get users first)) ++ rest) (named_push users set names name)
    ∙ sym (append_assoc (row_list (found_row set (finite.get users first))) (named_rows users set names) (row_list (found_row set (finite.get users name))))

pub named_step : {X : Type 0} (text_of : X → List ℕ) (users : Users) (set : List SetRates) (names : List X) (i : ℕ) (d : X) (rows new : List UserRate) (text : List ℕ) (row : Option UserRate) → i < length names → rows ≡ named_rows users set (map text_of (take i names)) → text ≡ text_of (get_or names i d)
    → row ≡ found_row set (finite.get users text) → new ≡ rows ++ row_list row → new ≡ named_rows users set (map text_of (take (i + 1) names))
named_step text_of users set names i d rows new text row less was is found added =
    let name : List ℕ = text_of (get_or names i d) in
    added ∙ (ap (λ (r : Option UserRate). rows ++ row_list r) (found ∙ ap (λ (t : List ℕ). found_row set (finite.get users t)) is)
    ∙ (ap (λ (rs : List UserRate). rs ++ row_list (found_row set (finite.get users name))) was
    ∙ (sym (named_push users set (map text_of (take i names)) name) ∙ ap (named_rows users set) (sym (map_more text_of names i d less)))))
