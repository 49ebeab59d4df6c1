-- Shares of leaves, sorted by the places of their asks, are those of the asks.
use Rattle.std.proofs.Common.{◌≡◌, ◌<◌, ◌≤◌, ◌+◌, ℕ, zero, suc, List, [], ◌∷◌, length, map, get_or, refl, ap, ◌∙◌, sym, subst, arith, Option, Some, None}
use Rattle.std.specs.Prelude.{IsPermutation, slice_get, sum_by, if◌then◌else◌}
use Rattle.std.specs.List.{All}
use Rattle.std.specs.List.Sorted.{IsNonDecreasingBy}
use Rattle.std.proofs.lemmas.List.{get_or-map}
use Rattle.std.proofs.lemmas.List.Sorted.{All-permutation, IsPermutation-map, IsPermutation-trans, length_permutation, sum_by-IsPermutation}
use Rattle.std.proofs.lemmas.Option.{get_or_from_slice_get, slice_get-get_or, slice_get_within}
use Rattle.limit_tree.specs.Sharing.{LimitTree, IsWithin}
use Rattle.fair_terms.specs.Fair.{IsFair, fair_within}
use Rattle.line_rates.specs.Granted.{Granted, GrantsKeepNames, granted_ask, granted_octets, granted_under}
use Rattle.line_rates.specs.Names.{bears, floor_of}
use Rattle.line_rates.specs.Rates.{Rates}
use Rattle.line_rates.specs.TickTree.{Asker, IsTickTree, ask_in, lane_in}
use Rattle.line_rates.specs.declared.ask.Ask.{Ask}
use Rattle.line_rates.specs.declared.ask.Name.{Name}
use Rattle.round_tally.specs.Held.{IsHeldBy}
use Rattle.ask_shares.specs.Leaves.{AreBestLeaves, AreLeafShares, AreNumbered, IsLeafShare, share_place}
use Rattle.ask_shares.specs.Shares.{AreAskShares, AreTreeShares, KeepNames, share_ask, share_floor, share_grant, share_granted}
use Rattle.ask_shares.specs.declared.share.AskShare.{AskShare}
use Rattle.ask_shares.proofs.Placed.{placed}
use Rattle.ask_shares.proofs.Places.{IsInPlace, all_at, in_place}

abbrev pub share_asker : AskShare → Asker
share_asker s = (s.place, s.ask)

pub mapped_is : {X Y : Type 0} (f : X → Y) (xs : List X) (ys : List Y) → length xs ≡ length ys → ((i : ℕ) (x : X) → slice_get xs i ≡ Some x → slice_get ys i ≡ Some (f x)) → map f xs ≡ ys
mapped_is f [] [] same each = refl
mapped_is f [] (y ∷ ys) same each = absurd (omega arith)
mapped_is f (x ∷ xs) [] same each = absurd (omega arith)
mapped_is f (x ∷ xs) (y ∷ ys) same each =
    let first : Some y ≡ Some (f x) = each 0 x refl in
    let one : f x ≡ y = cc in
    ap (λ z. z ∷ map f xs) one ∙ ap (λ zs. y ∷ zs) (mapped_is f xs ys (omega arith) (λ i z e. each (suc i) z e))

some_same : {X : Type 0} (x y : X) → Some x ≡ Some y → x ≡ y
some_same x y e = cc

pair_at : (order : List Asker) (i p : ℕ) (a : Ask) → slice_get (map lane_in order) i ≡ Some p → slice_get (map ask_in order) i ≡ Some a → slice_get order i ≡ Some (p, a)
pair_at [] i p a lane ask = absurd (cc)
pair_at (x ∷ order) zero p a lane ask =
    let first : x.0 ≡ p = some_same x.0 p lane in
    let next : x.1 ≡ a = some_same x.1 a ask in
    ap (λ (q : ℕ). Some (q, x.1)) first ∙ ap (λ (b : Ask). Some (p, b)) next
pair_at (x ∷ order) (suc i) p a lane ask = pair_at order i p a lane ask

asks_are : (xs : List AskShare) → map ask_in (map share_asker xs) ≡ map share_ask xs
asks_are [] = refl
asks_are (x ∷ xs) = ap (λ rest. x.ask ∷ rest) (asks_are xs)

places_are : (xs : List AskShare) → map lane_in (map share_asker xs) ≡ map share_place xs
places_are [] = refl
places_are (x ∷ xs) = ap (λ rest. share_place x ∷ rest) (places_are xs)

granted_asks : (xs : List AskShare) → map granted_ask (map share_granted xs) ≡ map share_ask xs
granted_asks [] = refl
granted_asks (x ∷ xs) = ap (λ rest. x.ask ∷ rest) (granted_asks xs)

granted_grants : (xs : List AskShare) → map granted_octets (map share_granted xs) ≡ map share_grant xs
granted_grants [] = refl
granted_grants (x ∷ xs) = ap (λ rest. share_grant x ∷ rest) (granted_grants xs)

mapped_length : {X Y : Type 0} (f : X → Y) (xs : List X) → length (map f xs) ≡ length xs
mapped_length f [] = refl
mapped_length f (x ∷ xs) = ap (λ n. suc n) (mapped_length f xs)

floors_are : (rates : Rates) (xs : List AskShare) → ((i : ℕ) (s : AskShare) → slice_get xs i ≡ Some s → s.floor ≡ floor_of rates s.ask) → map (floor_of rates) (map share_ask xs) ≡ map share_floor xs
floors_are rates [] each = refl
floors_are rates (x ∷ xs) each =
    ap (λ (f : ℕ). f ∷ map (floor_of rates) (map share_ask xs)) (sym (each 0 x refl)) ∙ ap (λ fs. x.floor ∷ fs) (floors_are rates xs (λ i s e. each (suc i) s e))

-- the shares of leaves are those of their tree
pub tree_shares : (rates : Rates) (tick : ℕ) (order : List Ask) (lanes : List ℕ) (t : LimitTree) (leaves : List AskShare) → IsTickTree rates tick order t → AreBestLeaves rates tick order lanes t leaves → AreTreeShares rates tick leaves
tree_shares rates tick order lanes t leaves tree best =
    let are = best.are in
    let asks : map share_ask leaves ≡ order = mapped_is share_ask leaves order are.count (λ i s e. (are.each i s e).ask) in
    let grants : map share_grant leaves ≡ best.grants = mapped_is share_grant leaves best.grants (are.count ∙ best.count) (λ i s e. (are.each i s e).grant) in
    let here : IsTickTree rates tick (map share_ask leaves) t = subst (λ x. IsTickTree rates tick x t) (sym asks) tree in
    record {
      tree = t;
      of_tick = here;
      floors = here.floors ∙ floors_are rates leaves (λ i s e. (are.each i s e).floor);
      best = subst (λ x. IsFair rates.share_by x t (map share_grant leaves)) (sym asks) (subst (λ x. IsFair rates.share_by order t x) (sym grants) best.best);
      held = λ i s e. subst (λ x. IsHeldBy rates tick x t (map share_grant leaves) i s.held) (sym asks) (subst (λ x. IsHeldBy rates tick order t x i s.held) (sym grants) (are.each i s e).held);
    }

numbers_at : (asks : List Ask) (numbered : List Asker) → AreNumbered asks numbered → (i d : ℕ) → i < length (map lane_in numbered) → get_or (map lane_in numbered) i d ≡ i
numbers_at asks numbered are i d less =
    let within : i < length numbered = omega (arith, less, mapped_length lane_in numbered) in
    let some : Asker = go numbered within in
    get_or-map lane_in numbered i some d within ∙ (are.each i (get_or numbered i some) (slice_get-get_or numbered i some within)).0
  where
    go : (xs : List Asker) → i < length xs → Asker
    go [] less = absurd (omega arith)
    go (x ∷ xs) less = x

places_rise : (shares : List AskShare) → IsNonDecreasingBy share_place shares → (i j d : ℕ) → i ≤ j → j < length (map share_place shares) → get_or (map share_place shares) i d ≤ get_or (map share_place shares) j d
places_rise [] rises i j d le less = absurd (omega arith)
places_rise (x ∷ xs) rises i j d le less =
    let within : j < length (x ∷ xs) = omega (arith, less, mapped_length share_place (x ∷ xs)) in
    let one = get_or-map share_place (x ∷ xs) i x d (omega (arith, le, within)) in
    let other = get_or-map share_place (x ∷ xs) j x d within in
    omega (arith, one, other, rises i j x le within)

places_within : (n : ℕ) (shares : List AskShare) → All (λ s. share_place s < n) shares → (k d : ℕ) → k < length (map share_place shares) → get_or (map share_place shares) k d < n
places_within n [] all k d less = absurd (omega arith)
places_within n (x ∷ xs) all k d less =
    let within : k < length (x ∷ xs) = omega (arith, less, mapped_length share_place (x ∷ xs)) in
    omega (arith, get_or-map share_place (x ∷ xs) k x d within, all k x within)

askers_are : (rates : Rates) (tick : ℕ) (order : List Asker) (lanes : List ℕ) (t : LimitTree) (leaves : List AskShare) → lanes ≡ map lane_in order → AreBestLeaves rates tick (map ask_in order) lanes t leaves → map share_asker leaves ≡ order
askers_are rates tick order lanes t leaves same best =
    mapped_is share_asker leaves order (best.are.count ∙ mapped_length ask_in order)
    (λ i s e. let is = best.are.each i s e in pair_at order i s.place s.ask (subst (λ (x : List ℕ). slice_get x i ≡ Some s.place) same is.place) is.ask)

-- sorted by their places, they are those of the asks
pub ask_shares : (rates : Rates) (tick : ℕ) (asks : List Ask) (numbered order : List Asker) (lanes : List ℕ) (t : LimitTree) (leaves shares : List AskShare) → AreNumbered asks numbered → IsPermutation numbered order → lanes ≡ map lane_in order → IsTickTree rates tick (map ask_in order) t
    → AreBestLeaves rates tick (map ask_in order) lanes t leaves → IsPermutation leaves shares → IsNonDecreasingBy share_place shares → AreAskShares rates tick asks shares
ask_shares rates tick asks numbered order lanes t leaves shares are p same tree best moved sorted =
    let askers = askers_are rates tick order lanes t leaves same best in
    let all : IsPermutation numbered (map share_asker shares) = IsPermutation-trans numbered order (map share_asker shares) p (subst (λ x. IsPermutation x (map share_asker shares)) askers (IsPermutation-map share_asker leaves shares moved)) in
    let placed_all : All (IsInPlace asks) (map share_asker shares) = in_place asks numbered (map share_asker shares) are all in
    let count : length shares ≡ length asks = sym (mapped_length share_asker shares) ∙ (length_permutation numbered (map share_asker shares) all ∙ are.count) in
    let in_asks : (i : ℕ) (s : AskShare) → slice_get shares i ≡ Some s → slice_get asks s.place ≡ Some s.ask = λ i s e. all_at (IsInPlace asks) (map share_asker shares) i (share_asker s) placed_all (mapped_at shares i s e) in
    let places : IsPermutation (map lane_in numbered) (map share_place shares) = subst (IsPermutation (map lane_in numbered)) (places_are shares) (IsPermutation-map lane_in numbered (map share_asker shares) all) in
    let within : (k d : ℕ) → k < length (map share_place shares) → get_or (map share_place shares) k d < length (map share_place shares) =
    λ k d less. omega (arith, mapped_length share_place shares, count, places_within (length asks) shares (λ j e l. slice_get_within asks (get_or shares j e).place (get_or shares j e).ask (in_asks j (get_or shares j e) (slice_get-get_or shares j e l))) k d less) in
    let at : (i : ℕ) (s : AskShare) → slice_get shares i ≡ Some s → s.place ≡ i = λ i s e.
    let less : i < length shares = slice_get_within shares i s e in
    let less_too : i < length (map share_place shares) = omega (arith, less, mapped_length share_place shares) in
    ap share_place (sym (get_or_from_slice_get shares i s s e)) ∙ (sym (get_or-map share_place shares i s 0 less) ∙ placed (map lane_in numbered) (map share_place shares) (numbers_at asks numbered are) places (places_rise shares sorted) within i less_too) in
    record {
      asked = mapped_is share_ask shares asks count (λ i s e. subst (λ (k : ℕ). slice_get asks k ≡ Some s.ask) (at i s e) (in_asks i s e));
      places = at;
      leaves = leaves;
      same = moved;
      shared = tree_shares rates tick (map ask_in order) lanes t leaves tree best;
    }
  where
    mapped_at : (xs : List AskShare) (i : ℕ) (s : AskShare) → slice_get xs i ≡ Some s → slice_get (map share_asker xs) i ≡ Some (share_asker s)
    mapped_at [] i s e = absurd (cc)
    mapped_at (x ∷ xs) zero s e = ap (λ (o : AskShare). Some (share_asker o)) (some_same x s e)
    mapped_at (x ∷ xs) (suc i) s e = mapped_at xs i s e

-- and they keep each name's limit
pub names_are_kept : (rates : Rates) (tick : ℕ) (leaves shares : List AskShare) → GrantsKeepNames → AreTreeShares rates tick leaves → IsPermutation leaves shares → KeepNames rates tick shares
names_are_kept rates tick leaves shares law are moved = λ n most limit.
    let tree : IsTickTree rates tick (map granted_ask (map share_granted leaves)) are.tree = subst (λ x. IsTickTree rates tick x are.tree) (sym (granted_asks leaves)) are.of_tick in
    let within = subst (λ x. IsWithin are.tree x) (sym (granted_grants leaves)) (fair_within rates.share_by (map share_ask leaves) are.tree (map share_grant leaves) are.best) in
    let kept = law rates tick are.tree (map share_granted leaves) tree within n most limit in
    let sum = sum_by-IsPermutation (λ g. if bears rates n g.ask then g.octets else 0) (map share_granted leaves) (map share_granted shares) (IsPermutation-map share_granted leaves shares moved) in
    omega (arith, kept, sum)
