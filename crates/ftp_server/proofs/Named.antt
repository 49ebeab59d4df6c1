-- The user of a name whose number was found, and the rates that are set for that number.
use Rattle.std.proofs.Common.{◌≡◌, ◌≢◌, ℕ, List, [], ◌∷◌, ◌++◌, Option, Some, None, refl, ap, ◌∙◌}
use Rattle.std.specs.Option.{option_map}
use Rattle.authorizer.specs.Users.{User}
use Rattle.ftp_server.proofs.Last.{last_other, last_own}
use Rattle.ftp_server.specs.Rows.{last_set, row_with, user_row}
use Rattle.ftp_server.specs.declared.rates.SetRates.{SetRates}
use Rattle.ftp_server.specs.declared.rates.UserRates.{UserRates}

pub found_user : (found : Option User) (number : ℕ) → Some number ≡ option_map (λ user. user.number) found → (user : User) × (found ≡ Some user) × (number ≡ user.number)
found_user None number is = absurd (cc)
found_user (Some user) number is = (user, refl, cc)

abbrev pub one_more : List SetRates → UserRates → ℕ → List SetRates
one_more before rates number = before ++ record { number = number; rates = rates } ∷ []

pub set_for : (before new : List SetRates) (rates : UserRates) (number other : ℕ) → new ≡ before ++ record { number = number; rates = rates } ∷ [] → number ≡ other
    → new ≡ before ++ record { number = other; rates = rates } ∷ []
set_for before new rates number other is same = is ∙ ap (one_more before rates) same

pub row_for : (before new : List SetRates) (rates : UserRates) (user : User) → new ≡ one_more before rates user.number → user_row new user ≡ row_with user.number user.group rates
row_for before new rates user is = ap (λ (r : UserRates). row_with user.number user.group r) (ap (λ (set : List SetRates). last_set set user.number) is ∙ last_own before rates user.number)

pub others_for : (before new : List SetRates) (rates : UserRates) (own : ℕ) → new ≡ one_more before rates own → (number : ℕ) → number ≢ own → last_set new number ≡ last_set before number
others_for before new rates own is number other = ap (λ (set : List SetRates). last_set set number) is ∙ last_other before (record { number = own; rates = rates }) number other
