-- What a round is handed is what is left in the rows.
use Rattle.std.proofs.Common.{◌≡◌, ℕ, map, ap, sym, ◌∙◌}
use Rattle.std.specs.FinMap as finite
use Rattle.std.specs.Option.{is_some}
use Rattle.line_rates.specs.declared.ask.Way.TheVariants.{Down, Up}
use Rattle.line_rates.specs.Put.{with_line}
use Rattle.line_rates.specs.declared.share_by.ShareBy.{ShareBy}
use Rattle.line_rates.specs.Rates.{Rates, Groups, Users, shared_by}
use Rattle.line_rates.specs.Stated.{by_number, group_number, user_number}
use Rattle.round_pace.specs.Offered.{HandsRowsIn, credit_rate, left_rates, line_parts, offer_all, offer_group, handed_user, put_groups, put_users, with_offered}
use Rattle.round_pace.specs.Paced.{Paced, AreTheUsers}
use Rattle.round_pace.proofs.GroupsIn.{hands_groups_in, other_rates as other_than_groups}
use Rattle.round_pace.proofs.UsersIn.{hands_users_in, other_rates as other_than_users}

rates_of : ℕ → ℕ → ℕ → Groups → Users → ShareBy → Rates
rates_of s d u gs us by = record { server = s; down = d; up = u; groups = gs; users = us; share_by = by }

same_rates : (r : Rates) (s d u : ℕ) (gs : Groups) (us : Users) (by : ShareBy) → r.server ≡ s → r.down ≡ d → r.up ≡ u → r.groups ≡ gs → r.users ≡ us → r.share_by ≡ by → r ≡ rates_of s d u gs us by
unfolding rates_of
same_rates r s d u gs us by a b c e f h =
    λ i. rates_of (a i) (b i) (c i) (e i) (f i) (h i)

pub hands_rows_in : HandsRowsIn
unfolding rates_of
hands_rows_in p groups_up users_up groups users =
    let d : ℕ = line_parts Down p in
    let k : ℕ = line_parts Up p in
    let r0 : Rates = with_line p.offered (credit_rate p.server) (credit_rate p.down) (credit_rate p.up) in
    let r1 : Rates = put_groups r0 p.groups in
    let r2 : Rates = put_users d k p.groups r1 p.users in
    let g = other_than_groups r0 p.groups in
    let u = other_than_users d k p.groups r1 p.users in
    let same_users : r1.users ≡ p.offered.users = g.3 in
    let keys : AreTheUsers r1 p.users = λ q. ap (λ (m : Users). is_some (finite.get m q)) same_users ∙ users q in
    same_rates r2 (credit_rate p.server) (credit_rate p.down) (credit_rate p.up) (by_number group_number (map offer_group p.groups)) (by_number user_number (map (handed_user d k p.groups) p.users)) p.offered.share_by
    (u.0 ∙ g.0) (u.1 ∙ g.1) (u.2 ∙ g.2) (u.3 ∙ hands_groups_in r0 p.groups groups_up groups) (hands_users_in d k p.groups r1 p.users users_up keys) (u.4 ∙ g.4)

-- it is shared among whom it was
pub shares_as_before : (p : Paced) → (offer_all p).share_by ≡ p.offered.share_by
shares_as_before p =
    let r0 : Rates = with_line p.offered (credit_rate p.server) (credit_rate p.down) (credit_rate p.up) in
    (other_than_users (line_parts Down p) (line_parts Up p) p.groups (put_groups r0 p.groups) p.users).4 ∙ (other_than_groups r0 p.groups).4

-- the same rows with the limits that are handed in
pub left_with : (p : Paced) (r : Rates) → r ≡ left_rates p → r ≡ left_rates (with_offered r p)
left_with p r e = e ∙ ap (λ (by : ShareBy). shared_by by (left_rates p)) (ap (λ (x : Rates). x.share_by) (sym e))
