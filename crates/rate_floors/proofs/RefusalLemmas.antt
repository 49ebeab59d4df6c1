-- Why one more session is refused: the sums of its group, and that there is a reason exactly if it does not fit.
use Rattle.std.proofs.Common.{◌≡◌, ◌↔◌, ℕ, ◌+◌, Bool, true, false, ◌&&◌, cond, List, map, get_or, sym, refl, ap, ◌∙◌, Option, Some, None}
use Rattle.std.specs.FinMap as finite
use Rattle.std.specs.Option.{option_map, option_or}
use Rattle.std.proofs.lemmas.Bool.{and_parts}
use Rattle.line_rates.specs.declared.ask.Name.{Name}
use Rattle.line_rates.specs.declared.ask.Name.TheVariants.{Group}
use Rattle.line_rates.specs.declared.ask.Way.{Way}
use Rattle.line_rates.specs.declared.ask.Way.TheVariants.{Down, Up}
use Rattle.line_rates.specs.declared.row.GroupRate.{GroupRate}
use Rattle.line_rates.specs.Rates.{group_rate}
use Rattle.line_rates.specs.Stated.{by_number, group_number}
use Rattle.rate_floors.specs.declared.carry.CarryFault.{CarryFault}
use Rattle.rate_floors.specs.declared.carry.CarryFault.TheVariants.{TooLarge}
use Rattle.rate_floors.specs.declared.find.GroupPromise.{GroupPromise}
use Rattle.rate_floors.specs.declared.find.UserSessions.{UserSessions}
use Rattle.rate_floors.specs.Carried.{broken, broken_sums}
use Rattle.rate_floors.specs.Refusals.{with_more, broken_in_group, first_above, refused_for, RefusesWhatDoesNotFit}
use Rattle.rate_floors.specs.Promises.{Promises, counted, user_of, user_key, group_row, promised, promised_group, is_small, session_fits, user_fits, group_fits, fits, IsInGroup, HasNone, IsReported}
use Rattle.rate_floors.proofs.CarryLemmas.{both, or_none, none_or, none_keeps, keeps_none, row_fits, fits_row, line_fits_now, fits_line_now}
use Rattle.rate_floors.proofs.FloorLemmas.{in_group, get_row}

-- ---- the sums that the code adds

module _ (p : Promises) (down up : ℕ) (groups : List GroupPromise) (users : List UserSessions) (entry : UserSessions) (same : users ≡ p.users) (reported : IsReported down up groups users) (stands : user_of p (user_key entry) ≡ Some entry) (rates : p.rates.groups ≡ by_number group_number (map group_row groups)) where
  abbrev after : Promises
  after = counted p (user_key entry)

  no_rate : (n : ℕ) (name : Name) (o : Option GroupRate) (w : Way) → o ≡ None → broken name n (group_rate o w) ≡ None
  no_rate n name o w e = ap (λ x. broken name n (group_rate x w)) e

  pub refused_none : HasNone groups entry.row.group → None ≡ broken_in_group after entry.row.group
  refused_none none = go entry.row.group none
    where
      go : (o : Option ℕ) → HasNone groups o → None ≡ broken_in_group after o
      go None h = refl
      go (Some g) h =
          let no : finite.get p.rates.groups g ≡ None = ap (λ m. finite.get m g) rates ∙ get_row p down up groups users entry same reported stands g ∙ ap (option_map group_row) h in
          sym (none_or _ _ (no_rate (promised_group after.users Down g) (Group Down g) (finite.get p.rates.groups g) Down no)
          (no_rate (promised_group after.users Up g) (Group Up g) (finite.get p.rates.groups g) Up no))

  abbrev with_floors_of : GroupPromise → GroupPromise
  with_floors_of x = record { row = x.row; down = x.down + entry.row.session_down_floor; up = x.up + entry.row.session_up_floor }

  pub refused_some : (i : ℕ) (d : GroupPromise) → IsInGroup groups entry.row.group i
      → broken_sums (with_floors_of (get_or groups i d)) ≡ broken_in_group after entry.row.group
  refused_some i d at = go entry.row.group refl at
    where
      go : (o : Option ℕ) → entry.row.group ≡ o → IsInGroup groups o i → broken_sums (with_floors_of (get_or groups i d)) ≡ broken_in_group after o
      go None e h = absurd h
      go (Some g) e h =
          let x = get_or groups i d in
          let is = in_group p down up groups users entry same reported stands rates g i d e h in
          ap (λ (n : ℕ). option_or (broken (Group Down n) (x.down + entry.row.session_down_floor) x.row.down) (broken (Group Up n) (x.up + entry.row.session_up_floor) x.row.up)) is.key_is
          ∙ ap (λ (n : ℕ). option_or (broken (Group Down g) n x.row.down) (broken (Group Up g) (x.up + entry.row.session_up_floor) x.row.up)) (sym is.down_is)
          ∙ ap (λ (n : ℕ). option_or (broken (Group Down g) (promised_group after.users Down g) x.row.down) (broken (Group Up g) n x.row.up)) (sym is.up_is)
          ∙ ap (λ (o : Option GroupRate). option_or (broken (Group Down g) (promised_group after.users Down g) (group_rate o Down)) (broken (Group Up g) (promised_group after.users Up g) (group_rate o Up))) (sym is.row_is)

-- ---- there is a reason exactly if it does not fit

group_holds : (p : Promises) (o : Option ℕ) → broken_in_group p o ≡ None → group_fits p o ≡ true
group_holds p None e = refl
group_holds p (Some g) e =
    let parts = or_none _ _ e in
    both _ _ (none_keeps _ _ parts.0) (none_keeps _ _ parts.1)

holds_group : (p : Promises) (o : Option ℕ) → group_fits p o ≡ true → broken_in_group p o ≡ None
holds_group p None e = refl
holds_group p (Some g) e =
    let parts = and_parts _ _ e in
    none_or _ _ (keeps_none (Group Down g) (promised_group p.users Down g) (group_rate (finite.get p.rates.groups g) Down) parts.0)
    (keeps_none (Group Up g) (promised_group p.users Up g) (group_rate (finite.get p.rates.groups g) Up) parts.1)

large : (b : Bool) (o : Option CarryFault) → cond b o (Some TooLarge) ≡ None → (b ≡ true) × (o ≡ None)
large true o e = (refl, e)
large false o e = absurd (cc)

module _ (p : Promises) (entry : UserSessions) where
  fits_then : refused_for p (Some entry) ≡ None → fits p (Some entry) ≡ true
  fits_then e =
      let parts = large (is_small p entry.sessions) (first_above p entry) e in
      let last = or_none _ _ parts.1 in
      let first = or_none _ _ last.0 in
      let row : (session_fits entry.row && user_fits entry.row (entry.sessions + 1)) ≡ true = row_fits (with_more entry) first.0 in
      both _ _ parts.0 (both _ _ (both _ _ row (group_holds p entry.row.group first.1)) (line_fits_now (promised p.users Down) (promised p.users Up) p.rates.server p.rates.down p.rates.up last.1))

  none_then : fits p (Some entry) ≡ true → refused_for p (Some entry) ≡ None
  none_then e =
      let parts = and_parts _ _ e in
      let last = and_parts _ _ parts.1 in
      let first = and_parts _ _ last.0 in
      ap (λ b. cond b (first_above p entry) (Some TooLarge)) parts.0
      ∙ none_or _ _ (none_or _ _ (fits_row (with_more entry) first.0) (holds_group p entry.row.group first.1)) (fits_line_now (promised p.users Down) (promised p.users Up) p.rates.server p.rates.down p.rates.up last.1)

by_entry : (p : Promises) (o : Option UserSessions) → (refused_for p o ≡ None) ↔ (fits p o ≡ true)
by_entry p None = (λ e. refl, λ e. refl)
by_entry p (Some entry) = (fits_then p entry, none_then p entry)

pub refuses_what_does_not_fit : RefusesWhatDoesNotFit
refuses_what_does_not_fit p user = by_entry (counted p user) (user_of p user)
