-- How the held slots go round.
use Rattle.std.proofs.Common.{◌≡◌, ℕ, zero, suc, ◌+◌, ◌-◌, ◌<◌, ◌≤◌, cond, List, [], ◌∷◌, ◌++◌, length, get_or, set, Bool, true, false, sym, refl, ap, ◌∙◌, arith, append-nil, append_assoc, get_or-set_other, get_or-set_same}
use Rattle.atomic_table.specs.Table.{turned}
use Rattle.desk_rule.specs.declared.view.LaneSlot.{LaneSlot}
use Rattle.desk_rule.specs.declared.view.LaneSlot.TheVariants.{Blank}
use Rattle.lane_desk.specs.Held.{slot_if, below, above, stack}

module _ {N : Type 0} where
  pub is_held : (fs : List Bool) (i : ℕ) → get_or fs i false ≡ true → slot_if {N = N} fs i ≡ (i, Blank) ∷ []
  is_held fs i e = ap (λ b. cond b ((i, Blank) ∷ []) []) e

  pub not_held : (fs : List Bool) (i : ℕ) → get_or fs i false ≡ false → slot_if {N = N} fs i ≡ []
  not_held fs i e = ap (λ b. cond b ((i, Blank) ∷ []) []) e

  -- a turn at a held lane
  pub rotates_by : (fs : List Bool) (i n : ℕ) → get_or fs i false ≡ true → turned (stack {N = N} fs (suc i) n) ≡ stack {N = N} fs i (suc n)
  rotates_by fs i n e =
      ap (λ (x : List (ℕ × (LaneSlot N))). turned ((x ++ below {N = N} fs i) ++ above {N = N} fs (suc i) n)) (is_held fs i e)
      ∙ append_assoc (below {N = N} fs i) (above {N = N} fs (suc i) n) ((i, Blank) ∷ [])
      ∙ ap (λ (x : List (ℕ × (LaneSlot N))). below {N = N} fs i ++ (above {N = N} fs (suc i) n ++ x)) (sym (is_held fs i e))

  -- a lane that is not held
  pub passes_by : (fs : List Bool) (i n : ℕ) → get_or fs i false ≡ false → stack {N = N} fs (suc i) n ≡ stack {N = N} fs i (suc n)
  passes_by fs i n e =
      ap (λ (x : List (ℕ × (LaneSlot N))). (x ++ below {N = N} fs i) ++ above {N = N} fs (suc i) n) (not_held fs i e)
      ∙ ap (λ (x : List (ℕ × (LaneSlot N))). below {N = N} fs i ++ x) (sym (append-nil (above {N = N} fs (suc i) n)) ∙ ap (λ (x : List (ℕ × (LaneSlot N))). above {N = N} fs (suc i) n ++ x) (sym (not_held fs i e)))

  whole_at : (fs : List Bool) (i n : ℕ) → above {N = N} fs i n ++ below {N = N} fs i ≡ above {N = N} fs 0 (i + n)
  whole_at fs zero n = let e : n ≡ 0 + n = omega arith in append-nil (above {N = N} fs 0 n) ∙ ap (above {N = N} fs 0) e
  whole_at fs (suc i) n = let e : i + suc n ≡ suc i + n = omega arith in sym (append_assoc (above {N = N} fs (suc i) n) (slot_if {N = N} fs i) (below {N = N} fs i)) ∙ whole_at fs i (suc n) ∙ ap (above {N = N} fs 0) e

  -- the slots in their order, as they lie at either end of a round trip
  pub whole : (fs : List Bool) (n : ℕ) → stack {N = N} fs n 0 ≡ stack {N = N} fs 0 n
  whole fs n = let e : n + 0 ≡ n = omega arith in append-nil (below {N = N} fs n) ∙ whole_at fs n 0 ∙ ap (above {N = N} fs 0) e

  below_set : (fs : List Bool) (j : ℕ) (b : Bool) (i : ℕ) → i ≤ j → below {N = N} (set fs j b) i ≡ below {N = N} fs i
  below_set fs j b zero h = refl
  below_set fs j b (suc i) h = λ q. cond (get_or-set_other fs j i b false (λ e. omega arith) q) ((i, Blank) ∷ []) [] ++ below_set fs j b i (omega arith) q

  above_set : (fs : List Bool) (j : ℕ) (b : Bool) (i n : ℕ) → j < i → above {N = N} (set fs j b) i n ≡ above {N = N} fs i n
  above_set fs j b i zero h = refl
  above_set fs j b i (suc n) h = λ q. above_set fs j b (suc i) n (omega arith) q ++ cond (get_or-set_other fs j i b false (λ e. omega arith) q) ((i, Blank) ∷ []) []

  -- the slot of a lane joins the others in front
  pub joins_front : (fs : List Bool) (j n : ℕ) → j < length fs → get_or fs j false ≡ false → (j, Blank) ∷ stack {N = N} fs j (suc n) ≡ stack {N = N} (set fs j true) (suc j) n
  joins_front fs j n near e =
      ap (λ (x : List (ℕ × (LaneSlot N))). (j, Blank) ∷ x) (sym (passes_by fs j n e) ∙ ap (λ (x : List (ℕ × (LaneSlot N))). (x ++ below {N = N} fs j) ++ above {N = N} fs (suc j) n) (not_held fs j e))
      ∙ λ q. (sym (is_held (set fs j true) j (get_or-set_same fs j true false near)) q ++ sym (below_set fs j true j (omega arith)) q) ++ sym (above_set fs j true (suc j) n (omega arith)) q

  -- and leaves them
  pub in_front : (fs : List Bool) (j n : ℕ) → get_or fs j false ≡ true → stack {N = N} fs (suc j) n ≡ (j, Blank) ∷ (below {N = N} fs j ++ above {N = N} fs (suc j) n)
  in_front fs j n e = ap (λ (x : List (ℕ × (LaneSlot N))). (x ++ below {N = N} fs j) ++ above {N = N} fs (suc j) n) (is_held fs j e)

  pub leaves_front : (fs : List Bool) (j n : ℕ) → j < length fs → below {N = N} fs j ++ above {N = N} fs (suc j) n ≡ stack {N = N} (set fs j false) j (suc n)
  leaves_front fs j n near =
      (λ q. sym (below_set fs j false j (omega arith)) q ++ sym (above_set fs j false (suc j) n (omega arith)) q)
      ∙ ap (λ (x : List (ℕ × (LaneSlot N))). (x ++ below {N = N} (set fs j false) j) ++ above {N = N} (set fs j false) (suc j) n) (sym (not_held (set fs j false) j (get_or-set_same fs j false false near)))
      ∙ passes_by (set fs j false) j n (get_or-set_same fs j false false near)

  pub rotates_at : (fs : List Bool) (i p n m : ℕ) → i ≡ suc p → m ≡ suc n → get_or fs p false ≡ true → turned (stack {N = N} fs i n) ≡ stack {N = N} fs p m
  rotates_at fs i p n m e f h = ap (λ (z : ℕ). turned (stack {N = N} fs z n)) e ∙ rotates_by fs p n h ∙ ap (stack {N = N} fs p) (sym f)

  pub passes_at : (fs : List Bool) (i p n m : ℕ) → i ≡ suc p → m ≡ suc n → get_or fs p false ≡ false → stack {N = N} fs i n ≡ stack {N = N} fs p m
  passes_at fs i p n m e f h = ap (λ (z : ℕ). stack {N = N} fs z n) e ∙ passes_by fs p n h ∙ ap (stack {N = N} fs p) (sym f)
