-- How a round begins.
use Rattle.std.proofs.Common.{◌≡◌, ℕ, zero, suc, ◌+◌, ◌≤◌, [], ◌∷◌, ◌++◌, get_or, replicate, true, false, cond, sym, refl, ◌∙◌, subst, arith}
use lib.ListN.{length-replicate}
use Rattle.atomic_table.specs.Table.{Me}
use Rattle.desk_rule.specs.declared.view.LaneSlot.{LaneSlot}
use Rattle.desk_rule.specs.declared.view.LaneSlot.TheVariants.{Blank}
use Rattle.desk_rule.specs.declared.view.DeskView.{DeskView}
use Rattle.desk_rule.specs.declared.view.DeskView.TheVariants.{Round}
use Rattle.desk_rule.specs.Lanes.{untraced, is_due, any_due}
use Rattle.lane_desk.specs.Held.{above, round_in, KnowsDesk}
use Rattle.lane_desk.specs.Begun.{dealt_round}
use Rattle.desk_rule.proofs.Keeps.{posted_none}

module _ {N : Type 0} where
  none_above : (i n : ℕ) → above {N = N} (replicate 64 false) i n ≡ []
  none_above i zero = refl
  none_above i (suc n) = λ q. none_above (suc i) n q ++ cond (no_flag 64 i q) ((i, Blank) ∷ []) []
    where
      no_flag : (n i : ℕ) → get_or (replicate n false) i false ≡ false
      no_flag zero i = refl
      no_flag (suc n) zero = refl
      no_flag (suc n) (suc i) = no_flag n i

module _ {N : Type 0} where
  pub starts : (m : (Me (LaneSlot N) DeskView)) (k : ℕ) → m ≡ (Round (dealt_round k k), []) → k ≤ 64 → KnowsDesk m k (replicate 64 false)
  starts m k is few = subst (λ (u : (Me (LaneSlot N) DeskView)). KnowsDesk u k (replicate 64 false)) (sym is)
      record {
        view_is = refl;
        wide = length-replicate k untraced;
        room = few;
        slots_are = sym (none_above 0 k);
        within = (let e = posted_none k in omega arith);
        marks = λ i near. no_mark i k;
      }
    where
      no_flag : (n i : ℕ) → get_or (replicate n false) i false ≡ false
      no_flag zero i = refl
      no_flag (suc n) zero = refl
      no_flag (suc n) (suc i) = no_flag n i

      free : (n i : ℕ) → is_due (get_or (replicate n untraced) i untraced) ≡ false
      free zero i = refl
      free (suc n) zero = refl
      free (suc n) (suc i) = free n i

      no_mark : (i k : ℕ) → get_or (replicate 64 false) i false ≡ is_due (get_or (replicate k untraced) i untraced)
      no_mark i k = no_flag 64 i ∙ sym (free k i)

module _ {N : Type 0} where
  pub begins_quiet : (m : (Me (LaneSlot N) DeskView)) (k : ℕ) → m ≡ (Round (dealt_round k k), []) → (round_in m.0).answering ≡ true → any_due (round_in m.0).traces ≡ true
  begins_quiet m k is = subst (λ (u : (Me (LaneSlot N) DeskView)). (round_in u.0).answering ≡ true → any_due (round_in u.0).traces ≡ true) (sym is) (λ e. absurd (cc))
