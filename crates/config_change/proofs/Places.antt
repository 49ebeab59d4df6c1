-- Places of names, and rows, as loops find them.
use Rattle.std.proofs.Common.{◌≡◌, ℕ, ◌+◌, ◌<◌, true, false, cond, not, List, [], ◌∷◌, ◌++◌, Option, Some, None, map, length, drop, get_or, bytes_eq, refl, ap, ◌∙◌, arith, option_map}
use Rattle.std.specs.List.{filter}
use Rattle.std.proofs.lemmas.List.{at_drop_more}
use Rattle.std.specs.Option.{is_some}
use Rattle.std.specs.Prelude.{String, string_bytes}
use Rattle.authorizer.specs.Users.{Accounts}
use Rattle.line_rates.specs.Rates.{Rates}
use Rattle.line_rates.specs.declared.row.UserRate.{UserRate}
use Rattle.config_change.specs.Named.{place_in, user_after, user_rows, number_named, rates_named}

-- a place so many names further on
abbrev pub shifted : ℕ → Option ℕ → Option ℕ
shifted n place = option_map (λ k. k + n) place

pub shifted-none : (place : Option ℕ) → shifted 0 place ≡ place
shifted-none None = refl
shifted-none (Some k) = let e : k + 0 ≡ k = omega arith in ap Some e

pub shifted-more : (n : ℕ) (place : Option ℕ) → shifted n (option_map (λ k. k + 1) place) ≡ shifted (n + 1) place
shifted-more n None = refl
shifted-more n (Some k) = let e : k + 1 + n ≡ k + (n + 1) = omega arith in ap Some e

pub other-place : (x name : List ℕ) (xs : List (List ℕ)) → bytes_eq x name ≡ false → place_in (x ∷ xs) name ≡ option_map (λ k. k + 1) (place_in xs name)
other-place x name xs other = ap (λ b. cond b (Some 0) (option_map (λ k. k + 1) (place_in xs name))) other

pub first-place : (x name : List ℕ) (xs : List (List ℕ)) → bytes_eq x name ≡ true → place_in (x ∷ xs) name ≡ Some 0
first-place x name xs same = ap (λ b. cond b (Some 0) (option_map (λ k. k + 1) (place_in xs name))) same

pub shifted-first : (n : ℕ) → shifted n (Some 0) ≡ Some n
shifted-first n = let e : 0 + n ≡ n = omega arith in ap Some e

-- the names that are not among the old ones
abbrev pub others : List (List ℕ) → List (List ℕ) → List (List ℕ)
others old names = filter (λ name. not (is_some (place_in old name))) names

pub others-old : (old names : List (List ℕ)) (name : List ℕ) → is_some (place_in old name) ≡ true → others old (name ∷ names) ≡ others old names
others-old old names name is = ap (λ b. cond (not b) (name ∷ others old names) (others old names)) is

pub others-new : (old names : List (List ℕ)) (name : List ℕ) → is_some (place_in old name) ≡ false → others old (name ∷ names) ≡ name ∷ others old names
others-new old names name is = ap (λ b. cond (not b) (name ∷ others old names) (others old names)) is

-- rows of users, from names and the rates of each
abbrev pub rows_by : Accounts → List ℕ → List (List ℕ) → List (Option UserRate) → List UserRate
rows_by users places [] rates = []
rows_by users places (name ∷ names) [] = []
rows_by users places (name ∷ names) (rate ∷ rates) = user_after places (number_named users name) rate ++ rows_by users places names rates

pub rows-by-names : {Y : Type 0} (before users : Accounts) (limits : Rates) (places : List ℕ) (names : List (String Y))
    → rows_by users places (map string_bytes names) (map (λ name. rates_named before limits (string_bytes name)) names) ≡ user_rows before users limits places (map string_bytes names)
rows-by-names before users limits places [] = refl
rows-by-names before users limits places (name ∷ names) =
    ap (λ (rows : List UserRate). user_after places (number_named users (string_bytes name)) (rates_named before limits (string_bytes name)) ++ rows) (rows-by-names before users limits places names)

pub rows-step : {Y : Type 0} (users : Accounts) (places : List ℕ) (names : List (String Y)) (rates : List (Option UserRate)) (i : ℕ) (d : String Y) (e : Option UserRate) → i < length names → i < length rates
    → rows_by users places (map string_bytes (drop i names)) (drop i rates)
    ≡ user_after places (number_named users (string_bytes (get_or names i d))) (get_or rates i e) ++ rows_by users places (map string_bytes (drop (i + 1) names)) (drop (i + 1) rates)
rows-step users places names rates i d e in_names in_rates =
    at_drop_more (λ ns. rows_by users places (map string_bytes ns) (drop i rates)) names i d in_names
    ∙ at_drop_more (λ rs. rows_by users places (string_bytes (get_or names i d) ∷ map string_bytes (drop (i + 1) names)) rs) rates i e in_rates
