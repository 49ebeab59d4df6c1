-- Rates that are the same as themselves.
use Rattle.std.proofs.Common.{◌≡◌, ℕ, Bool, true, false, ◌&&◌, nat_eq, List, [], ◌∷◌, Option, Some, None, refl, sym}
use Rattle.std.specs.FinMap as finite
use Rattle.std.proofs.lemmas.Bool.{eq-eqb, eqb-true}
use Rattle.line_rates.specs.declared.row.GroupRate.{GroupRate}
use Rattle.line_rates.specs.declared.row.UserRate.{UserRate}
use Rattle.line_rates.specs.declared.share_by.ShareBy.{ShareBy}
use Rattle.line_rates.specs.declared.share_by.ShareBy.TheVariants.{Sessions, Users}
use Rattle.line_rates.specs.Rates.{Rates}
use Rattle.ftp_daemon.specs.SameRates.{same_number, same_group, same_user, same_rows, same_sharing, same_rates}

both : (a b : Bool) → a ≡ true → b ≡ true → (a && b) ≡ true
both true true p q = refl
both true false p q = q
both false b p q = p

first : (a b : Bool) → (a && b) ≡ true → a ≡ true
first true b p = refl
first false b p = p

same_nat : (n : ℕ) → nat_eq n n ≡ true
same_nat n = eq-eqb n n refl

number_same : (n : Option ℕ) → same_number n n ≡ true
number_same None = refl
number_same (Some n) = same_nat n

group_same : (g : GroupRate) → same_group g g ≡ true
group_same g = both _ _ (both _ _ (same_nat g.group) (same_nat g.down)) (same_nat g.up)

user_same : (u : UserRate) → same_user u u ≡ true
user_same u =
    both _ _ (both _ _ (both _ _ (both _ _ (both _ _ (both _ _ (both _ _ (same_nat u.user) (number_same u.group)) (same_nat u.down)) (same_nat u.up))
    (same_nat u.session_down)) (same_nat u.session_up)) (same_nat u.session_down_floor)) (same_nat u.session_up_floor)

rows_same : {X : Type 0} (same : X → X → Bool) → ((x : X) → same x x ≡ true) → (rows : List (ℕ × X)) → same_rows same rows rows ≡ true
rows_same same each [] = refl
rows_same same each (row ∷ rows) = both _ _ (both _ _ (same_nat row.0) (each row.1)) (rows_same same each rows)

sharing_same : (by : ShareBy) → same_sharing by by ≡ true
sharing_same Sessions = refl
sharing_same Users = refl

pub rates_same : (rates : Rates) → same_rates rates rates ≡ true
rates_same rates =
    both _ _ (both _ _ (both _ _ (both _ _ (both _ _ (same_nat rates.server) (same_nat rates.down)) (same_nat rates.up))
    (rows_same same_group group_same (finite.entries rates.groups))) (rows_same same_user user_same (finite.entries rates.users))) (sharing_same rates.share_by)

pub same_server : (limits rates : Rates) → same_rates limits rates ≡ true → rates.server ≡ limits.server
same_server limits rates same = sym (eqb-true limits.server rates.server (first _ _ (first _ _ (first _ _ (first _ _ (first _ _ same))))))
