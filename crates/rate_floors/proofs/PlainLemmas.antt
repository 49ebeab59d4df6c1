-- Without groups no rate of a group is looked at, and without guarantees each session is admitted.
use Rattle.std.proofs.Common.{◌≡◌, ℕ, suc, ◌+◌, ◌*◌, ◌<◌, Bool, true, false, ◌&&◌, cond, List, [], ◌∷◌, map, sym, refl, ap, ◌∙◌, subst, arith, Option, Some, None}
use Rattle.std.specs.FinMap as finite
use Rattle.std.specs.List.{All, Contains}
use Rattle.std.specs.Prelude.{nat_eq}
use Rattle.std.proofs.lemmas.Bool.{le-leb, lt-ltb}
use Rattle.std.proofs.lemmas.List.Sums.{sum_by-cons}
use Rattle.line_rates.specs.declared.ask.Way.{Way}
use Rattle.line_rates.specs.declared.ask.Way.TheVariants.{Down, Up}
use Rattle.line_rates.specs.Rates.{group_rate}
use Rattle.line_rates.proofs.RowLemmas.{get-by_number, first_contains}
use Rattle.rate_floors.specs.declared.find.UserSessions.{UserSessions}
use Rattle.rate_floors.specs.declared.fits.TheConstants.{MAX_PROMISED}
use Rattle.rate_floors.specs.Plain.{admits_plainly, fits_plainly, HasNoGroups, IsWithoutFloors, HasNoFloors, CanGrow}
use Rattle.rate_floors.specs.Promises.{Promises, admits, counted, fits, user_of, user_key, floor_in, promised_user, promised, promised_group, with_sessions, one_more, is_small, session_fits, user_fits, group_fits, line_fits}
use Rattle.rate_floors.proofs.FitLemmas.{both, keeps_nothing}
use Rattle.rate_floors.proofs.FloorLemmas.{group_within}
use Rattle.rate_floors.proofs.SumLemmas.{entry_with}

stands : (p : Promises) (user : ℕ) (entry : UserSessions) → user_of p user ≡ Some entry → Contains p.users entry
stands p user entry at = (first_contains user_key user p.users entry (sym (get-by_number user_key user p.users) ∙ at)).0

of_entry : (P : UserSessions → Type 0) (p : Promises) (user : ℕ) (entry : UserSessions) → user_of p user ≡ Some entry → All P p.users → P entry
of_entry P p user entry at all = let x = stands p user entry at in subst P x.2 (all x.0 entry x.1)

pub no_groups : (p : Promises) (user : ℕ) → HasNoGroups p → admits p user ≡ admits_plainly p user
no_groups p user none = go (user_of p user) refl
  where
    and_true : (x : Bool) → (x && true) ≡ x
    and_true true = refl
    and_true false = refl

    go : (o : Option UserSessions) → user_of p user ≡ o → fits (counted p user) o ≡ fits_plainly (counted p user) o
    go None at = refl
    go (Some entry) at =
        let group : group_fits (counted p user) entry.row.group ≡ true = ap (group_fits (counted p user)) (of_entry (λ (x : UserSessions). x.row.group ≡ None) p user entry at none) in
        ap (λ b. is_small (counted p user) entry.sessions && (session_fits entry.row && user_fits entry.row (entry.sessions + 1) && b && line_fits (counted p user))) group
        ∙ ap (λ b. is_small (counted p user) entry.sessions && (b && line_fits (counted p user))) (and_true (session_fits entry.row && user_fits entry.row (entry.sessions + 1)))

-- nothing is promised to any number of sessions
nothing : (w : Way) (entry : UserSessions) → IsWithoutFloors entry → (n : ℕ) → n * floor_in entry.row w ≡ 0
nothing Down entry h n = let zeros : n * entry.row.session_down_floor ≡ n * 0 = ap (λ (k : ℕ). n * k) h.0 in omega arith
nothing Up entry h n = let zeros : n * entry.row.session_up_floor ≡ n * 0 = ap (λ (k : ℕ). n * k) h.1 in omega arith

none_after : (w : Way) (user : ℕ) (users : List UserSessions) → All IsWithoutFloors users → promised (map (with_sessions one_more user) users) w ≡ 0
none_after w user [] h = refl
none_after w user (entry ∷ users) h =
    let first : promised_user w (with_sessions one_more user entry) ≡ 0 =
    elim (nat_eq (user_key entry) user) as (λ b. promised_user w (cond b (entry_with one_more entry) entry) ≡ 0) [ true ↦ nothing w entry (h 0 entry (omega arith)) (entry.sessions + 1) | false ↦ nothing w entry (h 0 entry (omega arith)) entry.sessions ] in
    omega (arith, sum_by-cons (promised_user w) (with_sessions one_more user entry) (map (with_sessions one_more user) users), none_after w user users (λ k d lt. h (suc k) d (omega arith)))

pub no_floors : (p : Promises) (user : ℕ) → HasNoFloors p → CanGrow p → admits p user ≡ true
no_floors p user none grow = go (user_of p user) refl
  where
    of_all : (w : Way) → promised (counted p user).users w ≡ 0
    of_all w = none_after w user p.users none

    of_group : (w : Way) (g : ℕ) → promised_group (counted p user).users w g ≡ 0
    of_group w g = let le = group_within (counted p user).users w g in let zeros = of_all w in omega arith

    group : (o : Option ℕ) → group_fits (counted p user) o ≡ true
    group None = refl
    group (Some g) = both _ _ (keeps_nothing (promised_group (counted p user).users Down g) (group_rate (finite.get p.rates.groups g) Down) (of_group Down g)) (keeps_nothing (promised_group (counted p user).users Up g) (group_rate (finite.get p.rates.groups g) Up) (of_group Up g))

    line : line_fits (counted p user) ≡ true
    line = both _ _
        (both _ _ (keeps_nothing (promised (counted p user).users Down) p.rates.down (of_all Down)) (keeps_nothing (promised (counted p user).users Up) p.rates.up (of_all Up)))
        (keeps_nothing (promised (counted p user).users Down + promised (counted p user).users Up) p.rates.server (let down = of_all Down in let up = of_all Up in omega arith))

    go : (o : Option UserSessions) → user_of p user ≡ o → fits (counted p user) o ≡ true
    go None at = refl
    go (Some entry) at =
        let zeros = of_entry IsWithoutFloors p user entry at none in
        let less = of_entry (λ (x : UserSessions). x.sessions < MAX_PROMISED) p user entry at grow in
        let down = of_all Down in
        let up = of_all Up in
        let small : is_small (counted p user) entry.sessions ≡ true = both _ _ (le-leb (promised (counted p user).users Down + promised (counted p user).users Up) MAX_PROMISED (omega arith)) (lt-ltb entry.sessions MAX_PROMISED less) in
        let session : session_fits entry.row ≡ true = both _ _ (keeps_nothing entry.row.session_down_floor entry.row.session_down zeros.0) (keeps_nothing entry.row.session_up_floor entry.row.session_up zeros.1) in
        let of_user : user_fits entry.row (entry.sessions + 1) ≡ true =
        both _ _ (keeps_nothing ((entry.sessions + 1) * entry.row.session_down_floor) entry.row.down (nothing Down entry zeros (entry.sessions + 1))) (keeps_nothing ((entry.sessions + 1) * entry.row.session_up_floor) entry.row.up (nothing Up entry zeros (entry.sessions + 1))) in
        both _ _ small (both _ _ (both _ _ (both _ _ session of_user) (group entry.row.group)) line)
