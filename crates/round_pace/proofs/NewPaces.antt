-- Rows with nothing earned.
use Rattle.std.proofs.Common.{◌≡◌, ℕ, ◌*◌, ◌≤◌, List, refl, arith, ap, ◌∙◌}
use Rattle.line_rates.specs.declared.row.GroupRate.{GroupRate}
use Rattle.line_rates.specs.declared.row.UserRate.{UserRate}
use Rattle.line_rates.specs.Rates.{Rates}
use Rattle.line_rates.specs.Stated.{FitsGroup, FitsUser}
use Rattle.round_pace.specs.declared.paced.GroupPace.{GroupPace}
use Rattle.round_pace.specs.declared.paced.UserPace.{UserPace}
use Rattle.round_pace.specs.Earned.{most_kept}
use Rattle.round_pace.specs.Credits.{IsCredit}
use Rattle.round_pace.specs.Paced.{Paced, IsGroupPace, IsUserPace, no_credit, new_group, new_user}

none : (x : ℕ) → 0 ≤ x
none x = omega arith

pub credit_new : (rate : ℕ) → rate ≤ 1099511627776 → IsCredit (no_credit rate)
credit_new rate h = record { rate_fits = h; left_fits = none (most_kept rate) }

pub group_new : (row : GroupRate) → FitsGroup row → IsGroupPace (new_group row)
group_new row h = record { down = credit_new row.down h.down; up = credit_new row.up h.up }

pub user_new : (row : UserRate) → FitsUser row → IsUserPace (new_user row)
user_new row h =
    record {
      row = h;
      down = credit_new row.down h.down;
      up = credit_new row.up h.up;
      session_down = credit_new row.session_down h.session_down;
      session_up = credit_new row.session_up h.session_up;
      down_rate = refl;
      up_rate = refl;
      session_down_rate = refl;
      session_up_rate = refl;
      down_owed = none (row.session_down_floor * 50);
      up_owed = none (row.session_up_floor * 50);
    }

abbrev paced : ℕ → Rates → ℕ → ℕ → ℕ → List GroupPace → List UserPace → Paced
paced begun r server down up groups users = record { begun = begun; moment = 0; server = no_credit server; down = no_credit down; up = no_credit up; groups = groups; users = users; offered = r }

pub same_paced : (begun : ℕ) (r : Rates) (s d u s' d' u' : ℕ) (gs gs' : List GroupPace) (us us' : List UserPace) → s ≡ s' → d ≡ d' → u ≡ u' → gs ≡ gs' → us ≡ us' → paced begun r s d u gs us ≡ paced begun r s' d' u' gs' us'
same_paced begun r s d u s' d' u' gs gs' us us' a b c e f =
    ap (λ x. paced begun r x d u gs us) a ∙ (ap (λ x. paced begun r s' x u gs us) b ∙ (ap (λ x. paced begun r s' d' x gs us) c ∙ (ap (λ x. paced begun r s' d' u' x us) e ∙ ap (λ x. paced begun r s' d' u' gs' x) f)))
