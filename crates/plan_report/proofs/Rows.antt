-- The rows of a plan as JSON: what holds of their values, and how deep they are.
use Rattle.std.proofs.Common.{◌≡◌, ◌≤◌, ℕ, zero, suc, Bool, cond, true, false, List, [], ◌∷◌, map, max, Some, arith, nat_eq, refl, subst, sym, take}
use Rattle.std.specs.Prelude.{slice_get}
use Rattle.serde_json.specs.Data.{Data, array, depth, items_depth, null, number, unsigned}
use Rattle.serde_json.specs.View.{items_of}
use Rattle.config_file.specs.declared.stated.GroupTable.{GroupTable}
use Rattle.config_file.specs.declared.stated.ServerTable.{ServerTable}
use Rattle.config_file.specs.declared.stated.UserTable.{UserTable}
use Rattle.rate_plan.specs.declared.shares.TransferShare.{TransferShare}
use Rattle.plan_report.specs.PlanData.{AreRows, IsRowOf, plan_data, rate_data, share_data}

same_some : {X : Type 0} (x y : X) → Some x ≡ Some y → x ≡ y
same_some x y e = cc

-- what holds of what each value shows, holds of each that is shown
pub shown_are : {V D : Type 0} (shows : V → D) (P : ℕ → D → Type 0) (values : List V) → ((i : ℕ) (v : V) → slice_get values i ≡ Some v → P i (shows v))
    → (i : ℕ) (d : D) → slice_get (map shows values) i ≡ Some d → P i d
shown_are shows P [] each i d is = absurd (cc)
shown_are shows P (v ∷ vs) each zero d is = subst (P 0) (same_some (shows v) d is) (each 0 v refl)
shown_are shows P (v ∷ vs) each (suc i) d is = shown_are shows (λ j. P (suc j)) vs (λ j w e. each (suc j) w e) i d is

rate_depth : (rate : ℕ) → depth (rate_data rate) ≡ 0
rate_depth rate = go (nat_eq rate 0)
  where
    go : (b : Bool) → depth (cond b null (number (unsigned rate))) ≡ 0
    go true = refl
    go false = refl

row_depth : (groups : List GroupTable) (users : List UserTable) (before : List TransferShare) (s : TransferShare) → depth (share_data groups users before s) ≡ 1
row_depth groups users before s = rw (rate_depth s.floor) refl

of_row : (groups : List GroupTable) (users : List UserTable) (shares : List TransferShare) (i : ℕ) (row : Data) → IsRowOf groups users shares i row → depth row ≤ 1
of_row groups users shares i row is = subst (λ (d : Data). depth d ≤ 1) (sym is.2) (omega (arith, row_depth groups users (take i shares) is.0))

items_shallow : (rows : List Data) → ((i : ℕ) (row : Data) → slice_get rows i ≡ Some row → depth row ≤ 1) → items_depth (items_of rows) ≤ 1
items_shallow [] each = omega arith
items_shallow (row ∷ rows) each =
    let one = each 0 row refl in
    let more = items_shallow rows (λ i d e. each (suc i) d e) in
    omega (arith, one, more)

pub plan_depth : (server : ServerTable) (groups : List GroupTable) (users : List UserTable) (shares : List TransferShare) (rows : List Data) → AreRows groups users shares rows
    → depth (plan_data server shares (array (items_of rows))) ≤ 127
plan_depth server groups users shares rows are =
    let few = items_shallow rows (λ i row e. of_row groups users shares i row (are.each i row e)) in
    omega (arith, few, rate_depth server.rate, rate_depth server.down_rate, rate_depth server.up_rate)
