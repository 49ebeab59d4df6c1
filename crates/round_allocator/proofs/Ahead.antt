-- In a pass over trees side by side, the earlier of two leaves beside each other is served first.
use Rattle.std.proofs.Common.{◌≡◌, ℕ, zero, suc, ◌+◌, ◌<◌, ◌≤◌, Bool, true, false, List, length, min, max, refl, sym, ap, ◌∙◌, subst, arith, ◌⊎◌, inl, inr, Option, Some, None}
use Rattle.std.specs.Prelude.{slice_get, slice_index, IsTrue}
use Rattle.std.specs.Option.{option_and_then}
use Rattle.std.proofs.lemmas.Bool.{cases_lt, cases_eq, false≢true, and_left, lt-leb, and_right, le-ltb}
use Rattle.limit_tree.specs.Sharing.{Branch as SharedBranch, IsBranch, sum_over}
use Rattle.limit_tree.specs.Outline.{limits, leaf_range, branch_of, absorbed}
use Rattle.limit_tree.specs.Flat.{IsShaped, IsFlat, IsRow, taken_in}
use Rattle.limit_tree.specs.declared.place.NodeKind.{NodeKind}
use Rattle.limit_tree.specs.declared.place.NodeKind.TheVariants.{Branch, Leaf}
use Rattle.limit_tree.specs.declared.place.Place.{Place}
use Rattle.limit_tree.proofs.Hops.{taken-one, same-node}
use Rattle.limit_tree.proofs.Rows.{sum_over-ends, is_branch}
use Rattle.limit_tree.proofs.RangeSums.{leaf_range-inside}
use Rattle.grant_certificate.specs.Equals.{HoldsOne, AreBeside}
use Rattle.round_allocator.specs.Levels.{upto, HasNeck, IsFilled, IsPouring, IsAhead, AreAhead}
use Rattle.round_allocator.specs.Order.{GivesInOrder}
use Rattle.round_allocator.specs.declared.level.LevelShare.{LevelShare}
use Rattle.round_allocator.proofs.Alone.{own_part, HasCap, IsAlone, is_alone}
use Rattle.round_allocator.proofs.Pours.{Agree, upto-same, neck-kept, neck-later, left_of, pouring-more}

-- a branch that ends before a leaf holds leaf i and another
pub record IsWide (outline : List Place) (past i : ℕ) : Type 0 where
  pub number : ℕ
  pub place : Place
  pub limit : Option ℕ
  pub got : slice_get outline number ≡ Some place
  pub kind : place.kind ≡ Branch limit
  pub low : place.first ≤ i
  pub high : i < place.first + place.leaves
  pub ends : place.first + place.leaves ≤ past
  pub two : 2 ≤ place.leaves

-- A leaf that was served: it is met, or below a full branch that has ended, or has an octet above the level, or none is left,
-- or it has its own tree not to itself.
abbrev pub IsServed : List Place → List ℕ → ℕ → ℕ → ℕ → ℕ → Type 0
IsServed outline g past level left i =
    HasNeck outline g past i ⊎ ((level + 1 ≤ slice_index g i) ⊎ ((left ≡ 0) ⊎ IsWide outline past i))

-- the leaves of a row so far
pub record IsInTurn (outline : List Place) (g : List ℕ) (first past level left : ℕ) : Type 0 where
  pub ahead : AreAhead outline g first past
  pub served : (i : ℕ) → first ≤ i → i < past → slice_index g i < slice_index (limits outline).wants i → IsServed outline g past level left i

pub in_turn-start : (outline : List Place) (g : List ℕ) (first level left : ℕ) → IsInTurn outline g first first level left
in_turn-start outline g first level left = record {
  ahead = λ i j low less high. absurd (omega arith);
  served = λ i low high. absurd (omega arith);
}

out_before : (first leaves i : ℕ) → i < first → leaf_range first leaves i ≡ false
out_before first leaves i low = and_left _ _ (lt-leb first i low)

out_after : (first leaves i : ℕ) → first + leaves ≤ i → leaf_range first leaves i ≡ false
out_after first leaves i high = and_right _ _ (le-ltb i (first + leaves) high)

-- leaves that a branch of several tells apart are not beside each other
not_beside : (outline : List Place) (m : ℕ) (q : Place) (limit : Option ℕ) (i j : ℕ) → slice_get outline m ≡ Some q → q.kind ≡ Branch limit → 2 ≤ q.leaves → AreBeside (limits outline) i j
    → (leaf_range q.first q.leaves i ≡ leaf_range q.first q.leaves j → ⊥) → ⊥
not_beside outline m q limit i j got kind two beside apart =
    let b : SharedBranch = record { limit = limit; holds = leaf_range q.first q.leaves } in
    let is : IsBranch (limits outline) m b = ap (option_and_then (λ (x : Place). branch_of x.kind x.first x.leaves)) got ∙ ap (λ (x : NodeKind). branch_of x q.first q.leaves) kind in
    elim (beside m b is) [
      | inl same ↦ apart same
      | inr one ↦
          let e : q.first ≡ q.first + 1 = one q.first (q.first + 1) (leaf_range-inside q.first q.leaves q.first (omega arith) (omega arith)) (leaf_range-inside q.first q.leaves (q.first + 1) (omega arith) (omega arith)) in
          omega (arith, e)
    ]

served-kept : (outline : List Place) (g h : List ℕ) (now past level left rest i : ℕ) → Agree g h now → i < now → now ≤ past → rest ≤ left → IsServed outline g now level left i → IsServed outline h past level rest i
served-kept outline g h now past level left rest i same inside later fewer (inl neck) = inl (neck-later outline h now past i later (neck-kept outline g h now i same neck))
served-kept outline g h now past level left rest i same inside later fewer (inr (inl more)) = inr (inl (omega (arith, same i inside)))
served-kept outline g h now past level left rest i same inside later fewer (inr (inr (inl none))) = inr (inr (inl (omega arith)))
served-kept outline g h now past level left rest i same inside later fewer (inr (inr (inr wide))) = inr (inr (inr (record {
  number = wide.number;
  place = wide.place;
  limit = wide.limit;
  got = wide.got;
  kind = wide.kind;
  low = wide.low;
  high = wide.high;
  ends = omega (arith, wide.ends);
  two = wide.two;
})))

ahead-kept : (outline : List Place) (g h : List ℕ) (n i j : ℕ) → Agree g h n → i < j → j < n → IsAhead outline g i j → IsAhead outline h i j
ahead-kept outline g h n i j same less inside (inl le) = inl (omega (arith, same i (omega arith), same j inside))
ahead-kept outline g h n i j same less inside (inr (inl low)) = inr (inl (omega (arith, same j inside)))
ahead-kept outline g h n i j same less inside (inr (inr neck)) = inr (inr (neck-kept outline g h j i (λ k l. same k (omega arith)) neck))

-- one tree, poured from what is left
abbrev IsOne : List Place → LevelShare → List ℕ → ℕ → Place → ℕ → List ℕ → Type 0
IsOne outline here g node p rest h = IsPouring outline node 1 p.first here g (node + p.nodes) 0 (p.first + p.leaves) rest h

-- its only leaf
abbrev HasGrant : List Place → LevelShare → ℕ → ℕ → ℕ → List ℕ → Type 0
HasGrant outline here node first rest h = slice_index h first + rest ≡ absorbed here.level outline node + here.spare

alone_grant : (outline : List Place) (here : LevelShare) (g : List ℕ) (node : ℕ) (p : Place) (rest : ℕ) (h : List ℕ) → IsShaped outline → slice_get outline node ≡ Some p → p.leaves ≡ 1 → IsOne outline here g node p rest h → HasGrant outline here node p.first rest h
alone_grant outline here g node p rest h shaped got alone one =
    let ends : p.first + p.leaves ≡ suc p.first = omega arith in
    let last : upto h (p.first + p.leaves) ≡ upto h p.first + slice_index h p.first = ap (upto h) ends in
    omega (arith, one.total, last, taken-one here.level outline node p shaped got, upto-same g h p.first p.first one.before (omega arith))

-- an unmet leaf with its tree to itself was served
alone_served : (outline : List Place) (here : LevelShare) (g : List ℕ) (node : ℕ) (p : Place) (rest : ℕ) (h : List ℕ) → IsShaped outline → slice_get outline node ≡ Some p → p.leaves ≡ 1 → IsOne outline here g node p rest h
    → slice_index h p.first < slice_index (limits outline).wants p.first → IsServed outline h (p.first + p.leaves) here.level rest p.first
alone_served outline here g node p rest h shaped got alone one unmet =
    let ends : p.first + p.leaves ≡ suc p.first = omega arith in
    let last : upto h (p.first + p.leaves) ≡ upto h p.first + slice_index h p.first = ap (upto h) ends in
    let before : upto h p.first ≡ upto g p.first = upto-same g h p.first p.first one.before (omega arith) in
    let higher = taken-one (here.level + 1) outline node p shaped got in
    elim one.all [
      | inl none ↦ inr (inr (inl none))
      | inr all ↦
          let took : absorbed (here.level + 1) outline node ≤ slice_index h p.first = omega (arith, all, last, before, higher) in
          elim ((is_alone (here.level + 1) outline node p shaped got).most alone) [
            | inl whole ↦ inr (inl (omega (arith, whole, took, unmet)))
            | inr cap ↦
                let q = cap.place in
                let kept = one.filled.limited cap.number cap.after cap.before q cap.most cap.got cap.kind in
                let q_ends : q.first + q.leaves ≡ suc p.first = omega (arith, cap.first, cap.alone) in
                let all_of : upto h (q.first + q.leaves) ≡ upto h p.first + slice_index h p.first = ap (upto h) q_ends in
                let none_of : upto h q.first ≡ upto h p.first = ap (upto h) cap.first in
                inl (
                  cap.number,
                  cap.most,
                  q,
                  kept.0,
                  record {
                    got = cap.got;
                    kind = cap.kind;
                    full = omega (arith, kept.1, all_of, none_of, cap.fits, took);
                    low = omega (arith, cap.first);
                    high = omega (arith, q_ends);
                    greatest = λ j low high. inl (let same : j ≡ p.first = omega (arith, cap.first, q_ends) in omega (arith, ap (slice_index h) same));
                  },
                )
          ]
    ]

-- a leaf of an earlier tree is ahead of the only leaf of this one
alone_ahead : (outline : List Place) (here : LevelShare) (g : List ℕ) (node : ℕ) (p : Place) (rest : ℕ) (h : List ℕ) (i : ℕ) → IsShaped outline → slice_get outline node ≡ Some p → p.leaves ≡ 1 → IsOne outline here g node p rest h → i < p.first → AreBeside (limits outline) i p.first
    → ((here.level ≤ slice_index h i) ⊎ HasNeck outline h p.first i) → IsServed outline h p.first here.level here.spare i → IsAhead outline h i p.first
alone_ahead outline here g node p rest h i shaped got alone one before beside settled (inl neck) = inr (inr neck)
alone_ahead outline here g node p rest h i shaped got alone one before beside settled (inr (inl more)) = elim (one.filled.even p.first (omega arith) (omega arith)) [
  | inl less ↦ inl (omega arith)
  | inr floored ↦ inr (inl (omega (arith, floored)))
]
alone_ahead outline here g node p rest h i shaped got alone one before beside settled (inr (inr (inl none))) =
    let grant = alone_grant outline here g node p rest h shaped got alone one in
    let least = (is_alone here.level outline node p shaped got).least alone in
    elim settled [
      | inr neck ↦ inr (inr neck)
      | inl level ↦ elim (cases_lt (slice_index (limits outline).floors p.first) (slice_index h p.first)) [
        | inl above ↦ inl (omega (arith, grant, least, none, level, above))
        | inr low ↦ inr (inl low)
      ]
    ]
alone_ahead outline here g node p rest h i shaped got alone one before beside settled (inr (inr (inr wide))) =
    absurd (not_beside outline wide.number wide.place wide.limit i p.first wide.got wide.kind wide.two beside
    (λ same. false≢true (sym (out_after wide.place.first wide.place.leaves p.first wide.ends) ∙ (sym same ∙ leaf_range-inside wide.place.first wide.place.leaves i wide.low wide.high))))

not_leaf : (want floor : ℕ) (limit : Option ℕ) → Leaf want floor ≡ Branch limit → ⊥
not_leaf want floor limit e = cc

-- a node with several leaves is a branch
several : (outline : List Place) (node : ℕ) (p : Place) → IsShaped outline → slice_get outline node ≡ Some p → 2 ≤ p.leaves → (limit : Option ℕ) × (p.kind ≡ Branch limit)
several outline node p shaped got two = go p.kind refl
  where
    go : (kind : NodeKind) → p.kind ≡ kind → (limit : Option ℕ) × (p.kind ≡ Branch limit)
    go (Leaf want floor) is = absurd (omega (arith, ((shaped node p got).leaf want floor is).1))
    go (Branch limit) is = (limit, is)

-- one tree more
pub in_turn-more : (outline : List Place) (at first : ℕ) (level : ℕ) (g : List ℕ) (node now left : ℕ) (p : Place) (rest : ℕ) (h : List ℕ) → IsShaped outline → slice_get outline node ≡ Some p → p.first ≡ now → IsFilled outline g at node first now level
    → IsPouring outline node 1 p.first (record { level = level; spare = left }) g (node + p.nodes) 0 (p.first + p.leaves) rest h → AreAhead outline h p.first (p.first + p.leaves) → IsInTurn outline g first now level left → IsInTurn outline h first (now + p.leaves) level rest
in_turn-more outline at first level g node now left p rest h shaped got begins filled one inner was = record {
  ahead = λ i j low less high beside unmet. elim (cases_lt j now) [
    | inl old ↦ ahead-kept outline g h now i j same less old (was.ahead i j low less old beside (omega (arith, unmet, same i (omega arith))))
    | inr new ↦ elim (cases_lt i now) [
      | inr both ↦ inner i j (omega (arith, begins)) less (omega (arith, begins)) beside unmet
      | inl early ↦ later i j low early (omega (arith, begins)) (omega (arith, begins)) beside unmet
    ]
  ];
  served = λ i low high unmet. elim (cases_lt i now) [
    | inl old ↦ served-kept outline g h now (now + p.leaves) level left rest i same old (omega arith) one.rest (was.served i low old (omega (arith, unmet, same i old)))
    | inr new ↦ subst (λ (n : ℕ). IsServed outline h (n + p.leaves) level rest i) begins (fresh i (omega (arith, begins)) (omega (arith, begins)) unmet)
  ];
}
  where
    same : Agree g h now
    same i l = one.before i (omega (arith, begins))

    fresh : (i : ℕ) → p.first ≤ i → i < p.first + p.leaves → slice_index h i < slice_index (limits outline).wants i → IsServed outline h (p.first + p.leaves) level rest i
    fresh i low high unmet = elim (cases_lt p.leaves 2) [
      | inl one_leaf ↦
          let alone : p.leaves ≡ 1 = omega arith in
          let is : p.first ≡ i = omega arith in
          subst (λ (n : ℕ). IsServed outline h (p.first + p.leaves) level rest n) is
          (alone_served outline (record { level = level; spare = left }) g node p rest h shaped got alone one (omega (arith, unmet, ap (slice_index h) is, ap (slice_index (limits outline).wants) is)))
      | inr two ↦
          let branch = several outline node p shaped got two in
          inr (inr (inr (record { number = node; place = p; limit = branch.0; got = got; kind = branch.1; low = low; high = high; ends = omega arith; two = two })))
    ]

    later : (i j : ℕ) → first ≤ i → i < now → p.first ≤ j → j < p.first + p.leaves → AreBeside (limits outline) i j → slice_index h i < slice_index (limits outline).wants i → IsAhead outline h i j
    later i j low early from till beside unmet = elim (cases_lt p.leaves 2) [
      | inl one_leaf ↦
          let alone : p.leaves ≡ 1 = omega arith in
          let is : p.first ≡ j = omega arith in
          let unmet_before : slice_index g i < slice_index (limits outline).wants i = omega (arith, unmet, same i early) in
          let settled : (level ≤ slice_index h i) ⊎ HasNeck outline h p.first i = elim (filled.settled i low early unmet_before) [
            | inl most ↦ inl (omega (arith, same i early))
            | inr neck ↦ inr (subst (λ (n : ℕ). HasNeck outline h n i) (sym begins) (neck-kept outline g h now i same neck))
          ] in
          let served : IsServed outline h p.first level left i = subst (λ (n : ℕ). IsServed outline h n level left i) (sym begins) (served-kept outline g h now now level left left i same early (omega arith) (omega arith) (was.served i low early unmet_before)) in
          subst (λ (n : ℕ). IsAhead outline h i n) is
          (alone_ahead outline (record { level = level; spare = left }) g node p rest h i shaped got alone one (omega (arith, begins)) (subst (λ (n : ℕ). AreBeside (limits outline) i n) (sym is) beside) settled served)
      | inr two ↦
          let branch = several outline node p shaped got two in
          absurd (not_beside outline node p branch.0 i j got branch.1 two beside
          (λ e. false≢true (sym (out_before p.first p.leaves i (omega (arith, begins))) ∙ (e ∙ leaf_range-inside p.first p.leaves j from till))))
    ]

-- one tree more of a row
pub turn-next : (outline : List Place) (at trees first : ℕ) (share : LevelShare) (old : List ℕ) (node n more now left : ℕ) (g : List ℕ) (p : Place) (rest : ℕ) (h : List ℕ) (last past : ℕ) → IsShaped outline → slice_get outline node ≡ Some p → n ≡ suc more → IsRow outline node now n last past
    → IsPouring outline at trees first share old node n now left g → IsPouring outline node 1 p.first (left_of share left) g (node + p.nodes) 0 (p.first + p.leaves) rest h → IsInTurn outline g first now share.level left → AreAhead outline h p.first (p.first + p.leaves)
    → (next : ℕ) × IsRow outline (node + p.nodes) next more last past × IsPouring outline at trees first share old (node + p.nodes) more next rest h × IsInTurn outline h first next share.level rest
turn-next outline at trees first share old node n more now left g p rest h last past shaped got is row was one turn inner =
    go (subst (λ (k : ℕ). IsRow outline node now k last past) is row) (subst (λ (k : ℕ). IsPouring outline at trees first share old node k now left g) is was)
  where
    go : IsRow outline node now (suc more) last past → IsPouring outline at trees first share old node (suc more) now left g
        → (next : ℕ) × IsRow outline (node + p.nodes) next more last past × IsPouring outline at trees first share old (node + p.nodes) more next rest h × IsInTurn outline h first next share.level rest
    go row was =
        let same : row.0 ≡ p = same-node outline node row.0 p row.1 got in
        let begins : p.first ≡ now = ap (λ (q : Place). q.first) (sym same) ∙ row.2 in (
          now + p.leaves,
          subst (λ (q : Place). IsRow outline (node + q.nodes) (now + q.leaves) more last past) same row.3,
          pouring-more outline at trees first share old node more now left g p rest h shaped got was
              (subst (λ (k : ℕ). IsPouring outline node 1 k (left_of share left) g (node + p.nodes) 0 (k + p.leaves) rest h) begins one),
          in_turn-more outline at first share.level g node now left p rest h shaped got begins was.filled one inner turn,
        )

-- the leaves of a whole row
pub turn-end : (outline : List Place) (first level : ℕ) (node n now left : ℕ) (g : List ℕ) (last past : ℕ) → n ≡ 0 → IsRow outline node now n last past → IsInTurn outline g first now level left → AreAhead outline g first past
turn-end outline first level node n now left g last past is row turn =
    let ends = subst (λ (k : ℕ). IsRow outline node now k last past) is row in
    subst (λ (k : ℕ). AreAhead outline g first k) ends.1 turn.ahead

-- grants of a whole tree
pub in_order : (outline : List Place) (g : List ℕ) → IsFlat outline → length g ≡ length (limits outline).wants → AreAhead outline g 0 (length (limits outline).wants) → GivesInOrder (limits outline) g
in_order outline g flat leaves ahead i j less inside beside unmet = elim (ahead i j (omega arith) less (omega arith) beside unmet) [
  | inl le ↦ inl le
  | inr (inl low) ↦ inr (inl low)
  | inr (inr neck) ↦
      let most = neck.1 in
      let q = neck.2 in
      let at = neck.4 in
      let ends : sum_over (leaf_range q.first q.leaves) g + upto g q.first ≡ upto g (q.first + q.leaves) = sum_over-ends q.first q.leaves g (omega (arith, neck.3, inside)) in
      let sums : most ≡ sum_over (leaf_range q.first q.leaves) g = omega (arith, ends, at.full) in
      inr (inr (
        neck.0,
        record { limit = Some most; holds = leaf_range q.first q.leaves },
        is_branch outline neck.0 q most at.got at.kind,
        leaf_range-inside q.first q.leaves i at.low at.high,
        out_after q.first q.leaves j neck.3,
        ap (λ (n : ℕ). Some n) sums,
      ))
]
