-- Grants tree by tree: a pass over the nodes in preorder.
use Rattle.std.proofs.Common.{◌≡◌, ℕ, suc, ◌+◌, ◌<◌, ◌≤◌, List, ◌++◌, length, take, drop, append-nil, min, refl, sym, ap, ◌∙◌, subst, arith, ◌⊎◌, inl, inr, Option, Some, None, get_or-set_other, get_or-set_same}
use Rattle.std.specs.Prelude.{slice_get, slice_index, unwrap_or, sum}
use Rattle.std.specs.Option.{option_map}
use Rattle.std.proofs.Math.ListN.{set, length-set}
use Rattle.std.proofs.lemmas.Bool.{cases_eq, cases_lt}
use Rattle.std.proofs.lemmas.List.{take_all, drop_all}
use Rattle.limit_tree.specs.Sharing.{IsNotTooGreat}
use Rattle.limit_tree.specs.Outline.{limits, cut}
use Rattle.limit_tree.specs.Flat.{IsRow, IsShaped, IsFlat, taken_in, taken_below}
use Rattle.limit_tree.specs.declared.place.NodeKind.TheVariants.{Branch, Leaf}
use Rattle.limit_tree.specs.declared.place.Place.{Place}
use Rattle.limit_tree.proofs.Sums.{sum_below-same}
use Rattle.limit_tree.proofs.Hops.{absorbed-leaf, absorbed-branch, taken-more, taken-one, taken-wants, taken_below-is, same-node}
use Rattle.limit_tree.proofs.Rows.{leaf_numbers}
use Rattle.round_allocator.specs.Levels.{upto, HasNeck, KeepsLimit, IsFilled, IsPouring, IsOpen, IsRoomy, IsCut, IsPlan, IsLeafGrant}
use Rattle.round_allocator.specs.declared.level.LevelShare.{LevelShare}
use Rattle.round_allocator.specs.declared.level.Split.{Split}

-- the leaves before leaf n have as much
abbrev pub Agree : List ℕ → List ℕ → ℕ → Type 0
Agree g h n = (i : ℕ) → i < n → slice_index h i ≡ slice_index g i

pub upto-same : (g h : List ℕ) (n m : ℕ) → Agree g h n → m ≤ n → upto h m ≡ upto g m
upto-same g h n m same most = sum_below-same m (λ i. slice_index h i) (λ i. slice_index g i) (λ i l. same i (omega arith))

-- what was said of the leaves before leaf n stays
not_too_great-kept : (outline : List Place) (g h : List ℕ) (n i j : ℕ) → Agree g h n → i < n → j < n → IsNotTooGreat (limits outline) g i j → IsNotTooGreat (limits outline) h i j
not_too_great-kept outline g h n i j same li lj (inl less) = inl (omega (arith, same i li, same j lj))
not_too_great-kept outline g h n i j same li lj (inr floored) = inr (same j lj ∙ floored)

pub neck-kept : (outline : List Place) (g h : List ℕ) (n i : ℕ) → Agree g h n → HasNeck outline g n i → HasNeck outline h n i
neck-kept outline g h n i same neck =
    let q = neck.2 in
    let ends = neck.3 in
    let was = neck.4 in (
      neck.0,
      neck.1,
      q,
      ends,
      record {
        got = was.got;
        kind = was.kind;
        full = omega (arith, was.full, upto-same g h n (q.first + q.leaves) same ends, upto-same g h n q.first same (omega (arith, ends)));
        low = was.low;
        high = was.high;
        greatest = λ j low high. not_too_great-kept outline g h n i j same (omega (arith, was.high, ends)) (omega (arith, ends)) (was.greatest j low high);
      },
    )

pub neck-later : (outline : List Place) (g : List ℕ) (n past i : ℕ) → n ≤ past → HasNeck outline g n i → HasNeck outline g past i
neck-later outline g n past i later neck = (neck.0, neck.1, neck.2, (let ends = neck.3 in omega (arith, ends)), neck.4)

filled-kept : (outline : List Place) (g h : List ℕ) (at last first past level : ℕ) → Agree g h past → IsFilled outline g at last first past level → IsFilled outline h at last first past level
filled-kept outline g h at last first past level same was = record {
  wanted = λ i low high. omega (arith, was.wanted i low high, same i high);
  floored = λ i low high. omega (arith, was.floored i low high, same i high);
  even = λ i low high. elim (was.even i low high) [
    | inl less ↦ inl (omega (arith, same i high))
    | inr floored ↦ inr (same i high ∙ floored)
  ];
  limited = λ m low high q most got kind.
      let old = was.limited m low high q most got kind in
      (old.0, omega (arith, old.0, old.1, upto-same g h past (q.first + q.leaves) same old.0, upto-same g h past q.first same (omega (arith, old.0))));
  settled = λ i low high unmet. elim (was.settled i low high (omega (arith, same i high))) [
    | inl most ↦ inl (omega (arith, same i high))
    | inr neck ↦ inr (neck-kept outline g h past i same neck)
  ];
}

-- side by side
filled-join : (outline : List Place) (g : List ℕ) (at mid last first now past level : ℕ) → now ≤ past → IsFilled outline g at mid first now level → IsFilled outline g mid last now past level → IsFilled outline g at last first past level
filled-join outline g at mid last first now past level later one two = record {
  wanted = λ i low high. elim (cases_lt i now) [ inl l ↦ one.wanted i low l | inr r ↦ two.wanted i r high ];
  floored = λ i low high. elim (cases_lt i now) [ inl l ↦ one.floored i low l | inr r ↦ two.floored i r high ];
  even = λ i low high. elim (cases_lt i now) [ inl l ↦ one.even i low l | inr r ↦ two.even i r high ];
  limited = λ m low high q most got kind. elim (cases_lt m mid) [
    | inl l ↦ let old = one.limited m low l q most got kind in (omega (arith, old.0), old.1)
    | inr r ↦ two.limited m r high q most got kind
  ];
  settled = λ i low high unmet. elim (cases_lt i now) [
    | inl l ↦ elim (one.settled i low l unmet) [ inl most ↦ inl most | inr neck ↦ inr (neck-later outline g now past i later neck) ]
    | inr r ↦ two.settled i r high unmet
  ];
}

pub filled-nothing : (outline : List Place) (g : List ℕ) (at first level : ℕ) → IsFilled outline g at at first first level
filled-nothing outline g at first level = record {
  wanted = λ i low high. absurd (omega arith);
  floored = λ i low high. absurd (omega arith);
  even = λ i low high. absurd (omega arith);
  limited = λ m low high. absurd (omega arith);
  settled = λ i low high unmet. absurd (omega arith);
}

-- before the first tree
pub pouring-start : (outline : List Place) (at trees first : ℕ) (share : LevelShare) (g : List ℕ) → IsPouring outline at trees first share g at trees first share.spare g
pouring-start outline at trees first share g = record {
  size = refl;
  order = omega arith;
  before = λ i l. refl;
  filled = filled-nothing outline g at first share.level;
  total = omega arith;
  rest = omega arith;
  all = inr (omega arith);
}

-- with so many octets spare
abbrev pub left_of : LevelShare → ℕ → LevelShare
left_of share left = record { level = share.level; spare = left }

-- one tree more
pub pouring-more : (outline : List Place) (at trees first : ℕ) (share : LevelShare) (old : List ℕ) (node more now left : ℕ) (g : List ℕ) (p : Place) (rest : ℕ) (h : List ℕ) → IsShaped outline → slice_get outline node ≡ Some p
    → IsPouring outline at trees first share old node (suc more) now left g → IsPouring outline node 1 now (left_of share left) g (node + p.nodes) 0 (now + p.leaves) rest h
    → IsPouring outline at trees first share old (node + p.nodes) more (now + p.leaves) rest h
pouring-more outline at trees first share old node more now left g p rest h shaped got was one =
    let tree = taken-one share.level outline node p shaped got in
    let higher = taken-one (share.level + 1) outline node p shaped got in
    let each = taken-more share.level outline node more p shaped got in
    let each_higher = taken-more (share.level + 1) outline node more p shaped got in
    let now_same : upto h now ≡ upto g now = upto-same g h now now one.before (omega arith) in
    record {
      size = one.size ∙ was.size;
      order = omega (arith, was.order);
      before = λ i l. one.before i (omega (arith, was.order)) ∙ was.before i l;
      filled = filled-join outline h at node (node + p.nodes) first now (now + p.leaves) share.level (omega arith) (filled-kept outline g h at node first now share.level one.before was.filled) one.filled;
      total = omega (arith, was.total, one.total, tree, each);
      rest = omega (arith, was.rest, one.rest);
      all = elim one.all [
        | inl none ↦ inl none
        | inr full ↦ elim was.all [
          | inl none ↦ inl (omega (arith, one.rest))
          | inr all ↦ inr (omega (arith, all, full, higher, each_higher))
        ]
      ];
    }

-- one leaf
pub pouring-leaf : (outline : List Place) (share : LevelShare) (g : List ℕ) (node : ℕ) (p : Place) (want floor grant rest : ℕ) → IsShaped outline → slice_get outline node ≡ Some p → p.kind ≡ Leaf want floor → p.first < length g → IsLeafGrant want floor share grant rest
    → IsPouring outline node 1 p.first share g (node + p.nodes) 0 (p.first + p.leaves) rest (set g p.first grant)
pouring-leaf outline share g node p want floor grant rest shaped got kind inside leaf =
    let h = set g p.first grant in
    let one = (shaped node p got).leaf want floor kind in
    let nodes : p.nodes ≡ 1 = one.0 in
    let leaves : p.leaves ≡ 1 = one.1 in
    let numbers = leaf_numbers outline node p want floor shaped got kind in
    let value : slice_index h p.first ≡ grant = get_or-set_same g p.first grant 0 inside in
    let other : (i : ℕ) → i < p.first → slice_index h i ≡ slice_index g i = λ i l. get_or-set_other g p.first i grant 0 (λ e. absurd (omega arith)) in
    let same : upto h p.first ≡ upto g p.first = upto-same g h p.first p.first other (omega arith) in
    let ends : p.first + p.leaves ≡ suc p.first = omega arith in
    let sum : upto h (p.first + p.leaves) ≡ upto g p.first + grant = ap (upto h) ends ∙ omega (arith, same, value) in
    let tree = taken-one share.level outline node p shaped got in
    let higher = taken-one (share.level + 1) outline node p shaped got in
    let low = absorbed-leaf share.level outline node p want floor got kind in
    let high = absorbed-leaf (share.level + 1) outline node p want floor got kind in
    record {
      size = length-set g p.first grant;
      order = omega arith;
      before = other;
      filled = record {
        wanted = λ i l r. at_leaf h (λ x. slice_index h x ≤ slice_index (limits outline).wants x) i l r leaves (omega (arith, numbers.0, value, leaf.wanted));
        floored = λ i l r. at_leaf h (λ x. slice_index (limits outline).floors x ≤ slice_index h x) i l r leaves (omega (arith, numbers.1, value, leaf.floored));
        even = λ i l r. at_leaf h (λ x. (slice_index h x < share.level + 2) ⊎ (slice_index h x ≡ slice_index (limits outline).floors x)) i l r leaves (elim leaf.even [ inl less ↦ inl (omega (arith, value)) | inr floored ↦ inr (value ∙ (floored ∙ sym numbers.1)) ]);
        limited = λ m l r q most found branch. absurd (not_branch most (sym kind ∙ (ap (λ (x : Place). x.kind) (same-node outline node p q got (subst (λ (x : ℕ). slice_get outline x ≡ Some q) (let e : m ≡ node = omega arith in e) found)) ∙ branch)));
        settled = λ i l r. at_leaf h (λ x. slice_index h x < slice_index (limits outline).wants x → (share.level ≤ slice_index h x) ⊎ HasNeck outline h (p.first + p.leaves) x) i l r leaves (λ unmet. inl (omega (arith, value, leaf.unmet (omega (arith, value, numbers.0)))));
      };
      total = omega (arith, sum, leaf.total, tree, low);
      rest = leaf.left;
      all = elim leaf.all [ inl none ↦ inl none | inr all ↦ inr (omega (arith, sum, higher, high)) ];
    }
  where
    at_leaf : (h : List ℕ) (P : ℕ → Type 0) (i : ℕ) → p.first ≤ i → i < p.first + p.leaves → p.leaves ≡ 1 → P p.first → P i
    at_leaf h P i l r leaves here = let e : p.first ≡ i = omega arith in subst P e here

    not_branch : (most : ℕ) → Leaf want floor ≡ Branch (Some most) → ⊥
    not_branch most e = cc

-- What a branch adds to its kids: its own limit, and a neck for those at its own level.
abbrev IsKidsOf : List Place → Place → ℕ → LevelShare → List ℕ → ℕ → List ℕ → Type 0
IsKidsOf outline p node share g rest h = IsPouring outline (node + 1) p.kids p.first share g (node + p.nodes) 0 (p.first + p.leaves) rest h

kind_limit : (limit : Option ℕ) (most : ℕ) (p q : Place) → p ≡ q → p.kind ≡ Branch limit → q.kind ≡ Branch (Some most) → limit ≡ Some most
kind_limit limit most p q same in_p in_q = go (sym in_p ∙ (ap (λ (x : Place). x.kind) same ∙ in_q))
  where
    go : Branch limit ≡ Branch (Some most) → limit ≡ Some most
    go e = cc

-- the branch keeps its limit
own_limit : (outline : List Place) (h : List ℕ) (node : ℕ) (p : Place) (limit : Option ℕ) → slice_get outline node ≡ Some p → p.kind ≡ Branch limit → ((most : ℕ) → limit ≡ Some most → upto h (p.first + p.leaves) ≤ upto h p.first + most) → KeepsLimit outline h (p.first + p.leaves) node
own_limit outline h node p limit got kind keeps q most found branch =
    let same = same-node outline node p q got found in
    subst (λ (x : Place). (x.first + x.leaves ≤ p.first + p.leaves) × (upto h (x.first + x.leaves) ≤ upto h x.first + most)) same (omega arith, keeps most (kind_limit limit most p q same kind branch))

-- the branch and the nodes below it, at the level of its kids
filled-branch : (outline : List Place) (h : List ℕ) (node : ℕ) (p : Place) (limit : Option ℕ) (level : ℕ) → slice_get outline node ≡ Some p → p.kind ≡ Branch limit → ((most : ℕ) → limit ≡ Some most → upto h (p.first + p.leaves) ≤ upto h p.first + most) → IsFilled outline h (node + 1) (node + p.nodes) p.first (p.first + p.leaves) level → IsFilled outline h node (node + p.nodes) p.first (p.first + p.leaves) level
filled-branch outline h node p limit level got kind keeps below = record {
  wanted = below.wanted;
  floored = below.floored;
  even = below.even;
  limited = λ m low high. elim (cases_eq m node) [
    | inl e ↦ subst (KeepsLimit outline h (p.first + p.leaves)) (sym e) (own_limit outline h node p limit got kind keeps)
    | inr ne ↦ below.limited m (omega arith) high
  ];
  settled = below.settled;
}

-- a full branch is a neck of each unmet leaf at its level, so that the level above does not matter
filled-full : (outline : List Place) (h : List ℕ) (node : ℕ) (p : Place) (most level higher : ℕ) → slice_get outline node ≡ Some p → p.kind ≡ Branch (Some most) → level < higher → upto h (p.first + p.leaves) ≡ upto h p.first + most → IsFilled outline h node (node + p.nodes) p.first (p.first + p.leaves) level → IsFilled outline h node (node + p.nodes) p.first (p.first + p.leaves) higher
filled-full outline h node p most level higher got kind lower full below = record {
  wanted = below.wanted;
  floored = below.floored;
  even = λ i low high. elim (below.even i low high) [ inl less ↦ inl (omega arith) | inr floored ↦ inr floored ];
  limited = below.limited;
  settled = λ i low high unmet. elim (below.settled i low high unmet) [
    | inr neck ↦ inr neck
    | inl least ↦ inr (
      node,
      most,
      p,
      omega arith,
      record {
        got = got;
        kind = kind;
        full = full;
        low = low;
        high = high;
        greatest = λ j l r. elim (below.even j l r) [ inl less ↦ inl (omega arith) | inr floored ↦ inr floored ];
      },
    )
  ];
}

some_same : (a b : ℕ) → Some a ≡ Some b → a ≡ b
some_same a b e = cc

none_some : (limit : Option ℕ) (most : ℕ) → limit ≡ None → limit ≡ Some most → ⊥
none_some limit most none some = go (sym none ∙ some)
  where
    go : None ≡ Some most → ⊥
    go e = cc

branch-open : (outline : List Place) (share : LevelShare) (g : List ℕ) (node : ℕ) (p : Place) (limit : Option ℕ) (plan : Split) (rest : ℕ) (h : List ℕ) → IsShaped outline → slice_get outline node ≡ Some p → p.kind ≡ Branch limit → IsOpen limit share plan → IsKidsOf outline p node plan.share g rest h
    → IsPouring outline node 1 p.first share g (node + p.nodes) 0 (p.first + p.leaves) (plan.kept + rest) h
branch-open outline share g node p limit plan rest h shaped got kind free kids =
    let level = free.level in
    let low : taken_in share.level outline node 1 ≡ taken_in plan.share.level outline (node + 1) p.kids =
    taken-one share.level outline node p shaped got ∙ (absorbed-branch share.level outline node p limit got kind ∙ (ap (λ (o : Option ℕ). cut o (taken_in share.level outline (node + 1) p.kids)) free.none ∙ ap (λ (l : ℕ). taken_in l outline (node + 1) p.kids) (sym level))) in
    let high : taken_in (share.level + 1) outline node 1 ≡ taken_in (plan.share.level + 1) outline (node + 1) p.kids =
    taken-one (share.level + 1) outline node p shaped got ∙ (absorbed-branch (share.level + 1) outline node p limit got kind ∙ (ap (λ (o : Option ℕ). cut o (taken_in (share.level + 1) outline (node + 1) p.kids)) free.none ∙ ap (λ (l : ℕ). taken_in (l + 1) outline (node + 1) p.kids) (sym level))) in
    record {
      size = kids.size;
      order = kids.order;
      before = kids.before;
      filled = filled-branch outline h node p limit share.level got kind (λ most some. absurd (none_some limit most free.none some)) (subst (λ (l : ℕ). IsFilled outline h (node + 1) (node + p.nodes) p.first (p.first + p.leaves) l) level kids.filled);
      total = omega (arith, kids.total, low, free.spare, free.kept);
      rest = omega (arith, kids.rest, free.spare, free.kept);
      all = elim kids.all [ inl none ↦ inl (omega (arith, free.kept)) | inr all ↦ inr (omega (arith, all, high)) ];
    }

branch-roomy : (outline : List Place) (share : LevelShare) (g : List ℕ) (node : ℕ) (p : Place) (limit : Option ℕ) (plan : Split) (rest : ℕ) (h : List ℕ) → IsShaped outline → slice_get outline node ≡ Some p → p.kind ≡ Branch limit → IsRoomy outline node limit share plan → IsKidsOf outline p node plan.share g rest h
    → IsPouring outline node 1 p.first share g (node + p.nodes) 0 (p.first + p.leaves) (plan.kept + rest) h
branch-roomy outline share g node p limit plan rest h shaped got kind roomy kids =
    let most = roomy.most in
    let level = roomy.level in
    let below = taken_below-is share.level outline node p got in
    let at : taken_in plan.share.level outline (node + 1) p.kids ≡ taken_in share.level outline (node + 1) p.kids = ap (λ (l : ℕ). taken_in l outline (node + 1) p.kids) level in
    let above : taken_in (plan.share.level + 1) outline (node + 1) p.kids ≡ taken_in (share.level + 1) outline (node + 1) p.kids = ap (λ (l : ℕ). taken_in (l + 1) outline (node + 1) p.kids) level in
    let low : taken_in share.level outline node 1 ≡ min (taken_in share.level outline (node + 1) p.kids) most =
    taken-one share.level outline node p shaped got ∙ (absorbed-branch share.level outline node p limit got kind ∙ ap (λ (o : Option ℕ). cut o (taken_in share.level outline (node + 1) p.kids)) roomy.some) in
    let high : taken_in (share.level + 1) outline node 1 ≡ min (taken_in (share.level + 1) outline (node + 1) p.kids) most =
    taken-one (share.level + 1) outline node p shaped got ∙ (absorbed-branch (share.level + 1) outline node p limit got kind ∙ ap (λ (o : Option ℕ). cut o (taken_in (share.level + 1) outline (node + 1) p.kids)) roomy.some) in
    let same : upto h p.first ≡ upto g p.first = upto-same g h p.first p.first kids.before (omega arith) in
    let keeps : upto h (p.first + p.leaves) ≤ upto h p.first + most = omega (arith, kids.total, at, below, roomy.fits, same) in
    record {
      size = kids.size;
      order = kids.order;
      before = kids.before;
      filled = filled-branch outline h node p limit share.level got kind (λ other some. (let e : most ≡ other = some_same most other (sym roomy.some ∙ some) in omega (arith, keeps))) (subst (λ (l : ℕ). IsFilled outline h (node + 1) (node + p.nodes) p.first (p.first + p.leaves) l) level kids.filled);
      total = omega (arith, kids.total, at, below, low, roomy.fits, roomy.spare);
      rest = omega (arith, kids.rest, roomy.spare);
      all = elim kids.all [
        | inr all ↦ inr (omega (arith, all, above, high))
        | inl none ↦ elim roomy.least [
          | inl kept ↦ inl (omega arith)
          | inr full ↦ inr (omega (arith, kids.total, at, below, high, none))
        ]
      ];
    }

branch-cut : (outline : List Place) (share : LevelShare) (g : List ℕ) (node : ℕ) (p : Place) (limit : Option ℕ) (plan : Split) (rest : ℕ) (h : List ℕ) → IsShaped outline → slice_get outline node ≡ Some p → p.kind ≡ Branch limit → IsCut outline node limit share plan → IsKidsOf outline p node plan.share g rest h
    → IsPouring outline node 1 p.first share g (node + p.nodes) 0 (p.first + p.leaves) (plan.kept + rest) h
branch-cut outline share g node p limit plan rest h shaped got kind less kids =
    let most = less.most in
    let at = taken_below-is plan.share.level outline node p got in
    let above = taken_below-is (plan.share.level + 1) outline node p got in
    let top = taken_below-is share.level outline node p got in
    let low : taken_in share.level outline node 1 ≡ min (taken_in share.level outline (node + 1) p.kids) most =
    taken-one share.level outline node p shaped got ∙ (absorbed-branch share.level outline node p limit got kind ∙ ap (λ (o : Option ℕ). cut o (taken_in share.level outline (node + 1) p.kids)) less.some) in
    let high : taken_in (share.level + 1) outline node 1 ≡ min (taken_in (share.level + 1) outline (node + 1) p.kids) most =
    taken-one (share.level + 1) outline node p shaped got ∙ (absorbed-branch (share.level + 1) outline node p limit got kind ∙ ap (λ (o : Option ℕ). cut o (taken_in (share.level + 1) outline (node + 1) p.kids)) less.some) in
    let same : upto h p.first ≡ upto g p.first = upto-same g h p.first p.first kids.before (omega arith) in
    let whole : upto h (p.first + p.leaves) + rest ≡ upto g p.first + most = omega (arith, kids.total, at, less.found.fits) in
    let nothing : rest ≡ 0 = elim kids.all [
      | inl none ↦ none
      | inr all ↦ absurd (omega (arith, all, above, less.found.greatest, whole))
    ] in
    let full : upto h (p.first + p.leaves) ≡ upto h p.first + most = omega (arith, whole, nothing, same) in
    let own : p.kind ≡ Branch (Some most) = kind ∙ ap (λ (o : Option ℕ). Branch o) less.some in
    record {
      size = kids.size;
      order = kids.order;
      before = kids.before;
      filled = filled-full outline h node p most plan.share.level share.level got own less.lower full
          (filled-branch outline h node p limit plan.share.level got kind (λ other some. (let e : most ≡ other = some_same most other (sym less.some ∙ some) in omega (arith, full))) kids.filled);
      total = omega (arith, whole, nothing, low, top, less.above, less.kept);
      rest = omega (arith, nothing, less.kept);
      all = inr (omega (arith, full, same, high));
    }

-- one branch
pub pouring-branch : (outline : List Place) (share : LevelShare) (g : List ℕ) (node : ℕ) (p : Place) (limit : Option ℕ) (plan : Split) (rest : ℕ) (h : List ℕ) → IsShaped outline → slice_get outline node ≡ Some p → p.kind ≡ Branch limit → IsPlan outline node limit share plan → IsKidsOf outline p node plan.share g rest h
    → IsPouring outline node 1 p.first share g (node + p.nodes) 0 (p.first + p.leaves) (plan.kept + rest) h
pouring-branch outline share g node p limit plan rest h shaped got kind (inl free) kids = branch-open outline share g node p limit plan rest h shaped got kind free kids
pouring-branch outline share g node p limit plan rest h shaped got kind (inr (inl roomy)) kids = branch-roomy outline share g node p limit plan rest h shaped got kind roomy kids
pouring-branch outline share g node p limit plan rest h shaped got kind (inr (inr less)) kids = branch-cut outline share g node p limit plan rest h shaped got kind less kids

-- one tree more of a row
pub pouring-next : (outline : List Place) (at trees first : ℕ) (share : LevelShare) (old : List ℕ) (node n more now left : ℕ) (g : List ℕ) (p : Place) (rest : ℕ) (h : List ℕ) (last past : ℕ) → IsShaped outline → slice_get outline node ≡ Some p → n ≡ suc more → IsRow outline node now n last past
    → IsPouring outline at trees first share old node n now left g → IsPouring outline node 1 p.first (left_of share left) g (node + p.nodes) 0 (p.first + p.leaves) rest h
    → (next : ℕ) × IsRow outline (node + p.nodes) next more last past × IsPouring outline at trees first share old (node + p.nodes) more next rest h
pouring-next outline at trees first share old node n more now left g p rest h last past shaped got is row was one =
    go (subst (λ (k : ℕ). IsRow outline node now k last past) is row) (subst (λ (k : ℕ). IsPouring outline at trees first share old node k now left g) is was)
  where
    go : IsRow outline node now (suc more) last past → IsPouring outline at trees first share old node (suc more) now left g → (next : ℕ) × IsRow outline (node + p.nodes) next more last past × IsPouring outline at trees first share old (node + p.nodes) more next rest h
    go row was =
        let same : row.0 ≡ p = same-node outline node row.0 p row.1 got in
        let begins : p.first ≡ now = ap (λ (q : Place). q.first) (sym same) ∙ row.2 in (
          now + p.leaves,
          subst (λ (q : Place). IsRow outline (node + q.nodes) (now + q.leaves) more last past) same row.3,
          pouring-more outline at trees first share old node more now left g p rest h shaped got was
              (subst (λ (k : ℕ). IsPouring outline node 1 k (left_of share left) g (node + p.nodes) 0 (k + p.leaves) rest h) begins one),
        )

-- behind the last tree
pub pouring-end : (outline : List Place) (at trees first : ℕ) (share : LevelShare) (old : List ℕ) (node n now left : ℕ) (g : List ℕ) (last past : ℕ) → n ≡ 0 → IsRow outline node now n last past → IsPouring outline at trees first share old node n now left g → (node ≡ last) × IsPouring outline at trees first share old last 0 past left g
pouring-end outline at trees first share old node n now left g last past is row was =
    let ends = subst (λ (k : ℕ). IsRow outline node now k last past) is row in
    let done = subst (λ (k : ℕ). IsPouring outline at trees first share old node k now left g) is was in
    (ends.0, subst (λ (k : ℕ). IsPouring outline at trees first share old last 0 k left g) ends.1 (subst (λ (k : ℕ). IsPouring outline at trees first share old k 0 now left g) ends.0 done))

taken_below-wants : (level : ℕ) (outline : List Place) (node : ℕ) → taken_below level outline node ≤ sum (limits outline).wants
taken_below-wants level outline node = taken-wants level outline (node + 1) (unwrap_or (option_map (λ (p : Place). p.kids) (slice_get outline node)) 0)

-- a plan passes on no higher level
pub plan-level : (outline : List Place) (node : ℕ) (limit : Option ℕ) (share : LevelShare) (plan : Split) → IsPlan outline node limit share plan → plan.share.level ≤ share.level
plan-level outline node limit share plan (inl free) = omega (arith, free.level)
plan-level outline node limit share plan (inr (inl roomy)) = omega (arith, roomy.level)
plan-level outline node limit share plan (inr (inr less)) = omega (arith, less.lower)

-- and no more spare octets than are wanted
pub plan-spare : (outline : List Place) (node : ℕ) (limit : Option ℕ) (share : LevelShare) (plan : Split) → IsPlan outline node limit share plan → share.spare ≤ sum (limits outline).wants → plan.share.spare ≤ sum (limits outline).wants
plan-spare outline node limit share plan (inl free) few = omega (arith, free.spare)
plan-spare outline node limit share plan (inr (inl roomy)) few = omega (arith, roomy.spare)
plan-spare outline node limit share plan (inr (inr less)) few = omega (arith, less.found.fits, less.found.greatest, taken_below-wants (plan.share.level + 1) outline node)

-- a leaf's floor is at most its want
pub leaf-floored : (outline : List Place) (node : ℕ) (p : Place) (want floor : ℕ) → IsFlat outline → slice_get outline node ≡ Some p → p.kind ≡ Leaf want floor → floor ≤ want
leaf-floored outline node p want floor flat got kind =
    let numbers = leaf_numbers outline node p want floor flat.shaped got kind in
    let one = (flat.shaped node p got).leaf want floor kind in
    let within = flat.limit_tree.floors.wanted in
    omega (arith, numbers.0, numbers.1, within.wants p.first (omega (arith, within.leaves, flat.bounded node p got, one.1)))

-- a list that was written back whole
pub back : {X : Type 0} (n : ℕ) (xs ys : List X) → length xs ≡ length ys → n ≡ length ys → take n (xs ++ drop (length xs) ys) ≡ xs
back {X} n xs ys same size =
    ap (λ (zs : List X). take n (xs ++ zs)) (drop_all (length xs) ys (omega arith)) ∙
    (ap (take n) (append-nil xs) ∙ take_all n xs (omega arith))
