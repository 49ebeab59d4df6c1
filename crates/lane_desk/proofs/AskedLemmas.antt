-- The asks of a plan's leaves, found by their lanes.
use Rattle.std.proofs.Common.{◌≡◌, ℕ, zero, suc, ◌+◌, ◌<◌, ◌≤◌, cond, nat_eq, eq-eqb, ne_eqb, Bool, false, List, [], ◌∷◌, ◌++◌, map, take, length, get_or, sym, refl, ap, ◌∙◌, subst, arith, Option, Some, None, IsPermutation}
use Rattle.std.specs.List.{All, cons_option}
use Rattle.std.proofs.lemmas.List.{take_more}
use Rattle.std.proofs.lemmas.List.Elements.{filter_map-append}
use Rattle.std.proofs.lemmas.List.Sorted.{All-permutation, IsPermutation-trans}
use Rattle.limit_tree.specs.declared.fault.TreeFault.{TreeFault}
use Rattle.line_rates.specs.Refused.{HasFault}
use Rattle.limit_tree.specs.Sharing.{LimitTree}
use Rattle.line_rates.specs.declared.ask.Ask.{Ask}
use Rattle.line_rates.specs.Rates.{Rates}
use Rattle.line_rates.specs.TickTree.{Asker, ask_in, lane_in, IsPlan}
use Rattle.fair_shares.specs.Asked.{ask_on, asks_on, AreApart, IsAskedPlan}
use Rattle.lane_desk.specs.Tried.{asks_from}
use Rattle.lane_desk.proofs.DueLemmas.{is_at, many, many_sum, many_at, at_most_one, is_same}

apart_many : (xs : List Asker) → AreApart xs → (k : ℕ) → many k xs ≤ 1
unfolding is_at
apart_many xs apart k = subst (λ (n : ℕ). n ≤ 1) (sym (many_sum k xs)) (apart k)

-- the asks found on the lanes are at most one for each
pub found_apart : (fs : List (Option Ask)) (xs : List Asker) → xs ≡ asks_from 0 fs → AreApart xs
unfolding is_at
found_apart fs xs e k =
    subst (λ (n : ℕ). n ≤ 1) (sym (sym (many_sum k xs) ∙ ap (many k) e ∙ many_at fs k)) (at_most_one (get_or fs k None))

-- a plan for the same asks in another order, and a fault of one
pub plan_moved : (rates : Rates) (tick : ℕ) (xs ys : List Asker) (t : LimitTree) (lanes : List ℕ) → IsPermutation xs ys → IsPlan rates tick ys t lanes → IsPlan rates tick xs t lanes
plan_moved rates tick xs ys t lanes moved p = record {
  order = p.order;
  all = IsPermutation-trans xs ys p.order moved p.all;
  tree = p.tree;
  lanes_are = p.lanes_are;
}

pub fault_moved : (A : Type 0) (rates : Rates) (tick : ℕ) (xs ys : List Asker) (fault : TreeFault) → IsPermutation xs ys → HasFault A rates tick ys fault → HasFault A rates tick xs fault
fault_moved A rates tick xs ys fault moved h = record {
  order = h.order;
  root = h.root;
  all = IsPermutation-trans xs ys h.order moved h.all;
  tree = h.tree;
  is = h.is;
}
