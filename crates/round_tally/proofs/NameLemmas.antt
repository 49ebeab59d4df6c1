-- The names of the branches that hold leaves back.
use Rattle.std.proofs.Common.{◌≡◌, ◌≤◌, ◌<◌, ◌+◌, ℕ, inl, inr, Bool, true, false, List, length, get_or, refl, ap, ◌∙◌, sym, subst, arith, Option, Some, None}
use Rattle.std.specs.Prelude.{◌⊎◌, IsTrue, nat_eq, nat_lt, slice_get, slice_index}
use Rattle.std.specs.Option.{option_and_then}
use Rattle.std.proofs.lemmas.Bool.{and_from, and_parts, cases_lt, eq-eqb, eqb-true, lt-ltb}
use Rattle.std.proofs.lemmas.List.{get_or-map, length-map}
use Rattle.line_rates.specs.Names.{want_of}
use Rattle.std.proofs.lemmas.Option.{slice_get-get_or, slice_get_past}
use Rattle.limit_tree.specs.Outline.{branch_of, leaf_range, limits}
use Rattle.limit_tree.specs.Sharing.{Branch, LimitTree, IsBranch, IsUnmet}
use Rattle.fair_terms.specs.Fair.{IsBackedFair, IsFairNeck}
use Rattle.fair_terms.specs.Owners.{AreOwners}
use Rattle.grant_certificate.specs.Users.{IsInnerNeck, IsOuterNeck}
use Rattle.line_rates.specs.declared.share_by.ShareBy.{ShareBy}
use Rattle.line_rates.specs.declared.share_by.ShareBy.TheVariants as share
use Rattle.limit_tree.specs.declared.place.NodeKind.TheVariants.{Branch as Split}
use Rattle.limit_tree.specs.declared.place.Place.{Place}
use Rattle.line_rates.specs.declared.ask.Ask.{Ask}
use Rattle.line_rates.specs.declared.ask.Name.{Name}
use Rattle.line_rates.specs.declared.ask.Name.TheVariants.{Server, Direction, Group, User, Session}
use Rattle.line_rates.specs.declared.ask.Way.{Way}
use Rattle.line_rates.specs.declared.ask.Way.TheVariants.{Down, Up}
use Rattle.line_rates.specs.Names.{bears, is_number, same_way}
use Rattle.line_rates.specs.Rates.{Rates, group_of, rate_of}
use Rattle.line_rates.specs.Ticks.{rate_limit}
use Rattle.line_rates.specs.TickTree.{AreNamed, IsNamed, IsTickTree, bears_at, bears_in}
use Rattle.line_rates.proofs.MarkLemmas.{bool_same}
use Rattle.round_tally.specs.Named.{HasNameOf, IsNameOf}

pub alike_at : (r : Rates) (n : Name) (asks : List Ask) (i : ℕ) (d : Ask) → i < length asks → bears_at r n asks i ≡ bears r n (get_or asks i d)
alike_at r n asks i d less = ap (bears_in r n) (slice_get-get_or asks i d less)

pub branch_is : (outline : List Place) (k : ℕ) (p : Place) (limit : Option ℕ) → slice_get outline k ≡ Some p → p.kind ≡ Split limit → (limits outline).branch k ≡ Some (record { limit = limit; holds = leaf_range p.first p.leaves })
branch_is outline k p limit at kind = ap (option_and_then (λ q. branch_of q.kind q.first q.leaves)) at ∙ ap (λ q. branch_of q p.first p.leaves) kind

past_range : (first leaves i : ℕ) → first + leaves ≤ i → leaf_range first leaves i ≡ false
past_range first leaves i past = grind arith

past_bears : (r : Rates) (n : Name) (asks : List Ask) (i : ℕ) → length asks ≤ i → bears_at r n asks i ≡ false
past_bears r n asks i past = ap (bears_in r n) (slice_get_past asks i past)

some_same : {X : Type 0} (x y : X) → Some x ≡ Some y → x ≡ y
some_same x y e = cc

pub same_branch : (t : LimitTree) (k : ℕ) (a b : Branch) → IsBranch t k a → IsBranch t k b → a ≡ b
same_branch t k a b ea eb = some_same a b (sym ea ∙ eb)

-- a node's branch is that of a name, from what is compared
pub is_name : (r : Rates) (tick : ℕ) (asks : List Ask) (outline : List Place) (k : ℕ) (p : Place) (limit : Option ℕ) (n : Name) → slice_get outline k ≡ Some p → p.kind ≡ Split limit → p.first + p.leaves ≤ length (limits outline).wants
    → length (limits outline).wants ≡ length asks → limit ≡ rate_limit (rate_of r n) tick → ((i : ℕ) → i < length asks → leaf_range p.first p.leaves i ≡ bears_at r n asks i) → IsNameOf r tick asks (limits outline) k n
is_name r tick asks outline k p limit n at kind inside leaves same alike b is =
    subst (λ x. IsNamed r tick asks n x) (same_branch (limits outline) k (record { limit = limit; holds = leaf_range p.first p.leaves }) b (branch_is outline k p limit at kind) is) (record {
      limit = same;
      holds = λ i. elim (cases_lt i (length asks)) [
        | inl less ↦ alike i less
        | inr past ↦ past_range p.first p.leaves i (omega arith) ∙ sym (past_bears r n asks i (omega arith))
      ];
    })

pub not_name : (r : Rates) (tick : ℕ) (asks : List Ask) (outline : List Place) (k : ℕ) (p : Place) (limit : Option ℕ) (n : Name) → slice_get outline k ≡ Some p → p.kind ≡ Split limit → IsNameOf r tick asks (limits outline) k n
    → (limit ≡ rate_limit (rate_of r n) tick) × ((i : ℕ) → i < length asks → leaf_range p.first p.leaves i ≡ bears_at r n asks i)
not_name r tick asks outline k p limit n at kind is =
    let named = is (record { limit = limit; holds = leaf_range p.first p.leaves }) (branch_is outline k p limit at kind) in
    (named.limit, λ i less. named.holds i)

way_is : (v w : Way) → same_way v w ≡ true → w ≡ v
way_is Down Down e = refl
way_is Up Up e = refl
way_is Down Up e = absurd (cc)
way_is Up Down e = absurd (cc)

number_is : (o : Option ℕ) (g : ℕ) → is_number o g ≡ true → o ≡ Some g
number_is None g e = absurd (cc)
number_is (Some m) g e = ap (λ (n : ℕ). Some n) (eqb-true m g e)

-- the names under which an ask counts
abbrev pub IsCandidate : Rates → Ask → Name → Type 0
IsCandidate r a n = (n ≡ Server) ⊎ ((n ≡ Direction a.way) ⊎ (((g : ℕ) × (group_of r a.user ≡ Some g) × (n ≡ Group a.way g)) ⊎ ((n ≡ User a.way a.user) ⊎ (n ≡ Session a.way a.user a.session))))

candidate_by : (r : Rates) (a : Ask) (n : Name) → bears r n a ≡ true → IsCandidate r a n
candidate_by r a Server is = inl refl
candidate_by r a (Direction w) is = inr (inl (ap (λ v. Direction v) (way_is a.way w is)))
candidate_by r a (Group w g) is =
    let parts = and_parts _ _ is in
    inr (inr (inl (g, number_is (group_of r a.user) g parts.1, ap (λ v. Group v g) (way_is a.way w parts.0))))
candidate_by r a (User w u) is =
    let parts = and_parts _ _ is in
    let way = way_is a.way w parts.0 in
    let user = eqb-true a.user u parts.1 in
    inr (inr (inr (inl (cc))))
candidate_by r a (Session w u s) is =
    let parts = and_parts _ _ is in
    let more = and_parts _ _ parts.1 in
    let way = way_is a.way w parts.0 in
    let user = eqb-true a.user u more.0 in
    let session = eqb-true a.session s more.1 in
    inr (inr (inr (inr (cc))))

pub candidate : (r : Rates) (a : Ask) (n : Name) → IsTrue (bears r n a) → IsCandidate r a n
candidate r a n is = candidate_by r a n is

-- the entry of an unmet leaf is the number of a branch that holds it, and holds it back
abbrev pub IsEntry : ShareBy → List Ask → LimitTree → List ℕ → List (Option ℕ) → ℕ → Type 0
IsEntry by asks t g c i = (k : ℕ) × (b : Branch) × (slice_get c i ≡ Some (Some k)) × IsBranch t k b × IsTrue (b.holds i) × IsFairNeck by asks t b g i

pub entries_each : (by : ShareBy) (asks : List Ask) (t : LimitTree) (g : List ℕ) (c : List (Option ℕ)) → IsBackedFair by asks t g c → length c ≡ length t.wants
entries_each share.Sessions asks t g c backed = backed.leaves
entries_each share.Users asks t g c backed = backed.3.leaves

-- a bottleneck of a leaf of a user, or of the user, holds the leaf
neck_holds : (asks : List Ask) (t : LimitTree) (b : Branch) (users : ℕ) (owners g : List ℕ) (i : ℕ) → AreOwners asks users owners → i < length asks → IsInnerNeck t owners b g i ⊎ IsOuterNeck t owners b g i → IsTrue (b.holds i)
neck_holds asks t b users owners g i own less (inl inner) = inner.holds
neck_holds asks t b users owners g i own less (inr outer) = outer.all i (and_from (nat_lt i (length owners)) (nat_eq (slice_index owners i) (slice_index owners i)) (lt-ltb i (length owners) (omega (arith, own.each))) (eq-eqb (slice_index owners i) (slice_index owners i) refl))

entry_of : (by : ShareBy) (asks : List Ask) (t : LimitTree) (g : List ℕ) (c : List (Option ℕ)) (i : ℕ) → IsBackedFair by asks t g c → i < length asks → i < length g → IsUnmet t g i → IsEntry by asks t g c i
entry_of share.Sessions asks t g c i backed within less unmet =
    let found = backed.backed i less unmet in
    (found.0, found.1, found.2, found.3, found.4.holds, found.4)
entry_of share.Users asks t g c i backed within less unmet =
    let found = backed.3.backed i less unmet in
    (found.0, found.1, found.2, found.3, neck_holds asks t found.1 backed.0 backed.1 g i backed.2 within found.4, (backed.0, backed.1, backed.2, found.4))

pub entry_neck : (by : ShareBy) (asks : List Ask) (t : LimitTree) (g : List ℕ) (c : List (Option ℕ)) (leaf node : ℕ) → IsBackedFair by asks t g c → leaf < length asks → leaf < length g → IsUnmet t g leaf → slice_get c leaf ≡ Some (Some node) → (b : Branch) × IsBranch t node b × IsTrue (b.holds leaf) × IsFairNeck by asks t b g leaf
entry_neck by asks t g c leaf node backed within less unmet is =
    let found = entry_of by asks t g c leaf backed within less unmet in
    let at = found.2 in
    let same : found.0 ≡ node = cc in
    (found.1, subst (λ (k : ℕ). IsBranch t k found.1) same found.3, found.4, found.5)

pub entry_some : (by : ShareBy) (asks : List Ask) (t : LimitTree) (g : List ℕ) (c : List (Option ℕ)) (leaf : ℕ) → IsBackedFair by asks t g c → leaf < length asks → leaf < length g → IsUnmet t g leaf → slice_get c leaf ≡ Some None → ⊥
entry_some by asks t g c leaf backed within less unmet is =
    let found = entry_of by asks t g c leaf backed within less unmet in
    let at = found.2 in
    absurd (cc)

name_by : (r : Rates) (tick : ℕ) (asks : List Ask) (o : Option Name) (b : Option Branch) (x : Branch) → AreNamed r tick asks o b → b ≡ Some x → (n : Name) × IsNamed r tick asks n x
name_by r tick asks None None x is e = absurd (cc)
name_by r tick asks (Some n) (Some b) x is e = (n, subst (λ y. IsNamed r tick asks n y) (some_same b x e) is)
name_by r tick asks None (Some b) x is e = absurd is
name_by r tick asks (Some n) None x is e = absurd is

pub has_name : (r : Rates) (tick : ℕ) (asks : List Ask) (t : LimitTree) (k i : ℕ) (b : Branch) (d : Ask) → IsTickTree r tick asks t → IsBranch t k b → IsTrue (b.holds i) → i < length asks → HasNameOf r tick asks t k (get_or asks i d)
has_name r tick asks t k i b d tree is holds less =
    let named = name_by r tick asks (tree.name k) (t.branch k) b (tree.named k) is in (
      named.0,
      subst IsTrue (named.1.holds i ∙ alike_at r named.0 asks i d less) holds,
      λ x isx. subst (λ y. IsNamed r tick asks named.0 y) (same_branch t k b x is isx) named.1,
    )

pub leaves_are : (r : Rates) (tick : ℕ) (asks : List Ask) (t : LimitTree) → IsTickTree r tick asks t → length t.wants ≡ length asks
leaves_are r tick asks t tree = ap length tree.wants ∙ length-map asks want_of

-- a name that is no other is that of the server
pub server_name : (r : Rates) (tick : ℕ) (a : Ask) (asks : List Ask) (t : LimitTree) (k : ℕ) (n : Name) → IsCandidate r a n → IsNameOf r tick asks t k n → ¬ IsNameOf r tick asks t k (Direction a.way)
    → ((g : ℕ) → group_of r a.user ≡ Some g → ¬ IsNameOf r tick asks t k (Group a.way g)) → ¬ IsNameOf r tick asks t k (User a.way a.user) → ¬ IsNameOf r tick asks t k (Session a.way a.user a.session) → IsNameOf r tick asks t k Server
server_name r tick a asks t k n (inl e) is d g u x = subst (IsNameOf r tick asks t k) e is
server_name r tick a asks t k n (inr (inl e)) is d g u x = absurd (d (subst (IsNameOf r tick asks t k) e is))
server_name r tick a asks t k n (inr (inr (inl e))) is d g u x = absurd (g e.0 e.1 (subst (IsNameOf r tick asks t k) e.2 is))
server_name r tick a asks t k n (inr (inr (inr (inl e)))) is d g u x = absurd (u (subst (IsNameOf r tick asks t k) e is))
server_name r tick a asks t k n (inr (inr (inr (inr e)))) is d g u x = absurd (x (subst (IsNameOf r tick asks t k) e is))

pub entry_at : (c : List (Option ℕ)) (leaf count : ℕ) (o : Option ℕ) → length c ≡ count → leaf < count → get_or c leaf None ≡ o → slice_get c leaf ≡ Some o
entry_at c leaf count o same less is = slice_get-get_or c leaf None (omega arith) ∙ ap (λ (x : Option ℕ). Some x) is

-- a leaf whose grant is below the want of its ask
pub leaf_unmet : (r : Rates) (tick : ℕ) (asks : List Ask) (t : LimitTree) (g : List ℕ) (i : ℕ) (d : Ask) → IsTickTree r tick asks t → i < length asks → get_or g i 0 < (get_or asks i d).want → (length t.wants ≡ length asks) × IsUnmet t g i
leaf_unmet r tick asks t g i d tree less under =
    (leaves_are r tick asks t tree, subst (λ (w : ℕ). get_or g i 0 < w) (sym (ap (λ (ws : List ℕ). get_or ws i 0) tree.wants ∙ get_or-map want_of asks i d 0 less)) under)

pub leaf_met : (r : Rates) (tick : ℕ) (asks : List Ask) (t : LimitTree) (g : List ℕ) (i : ℕ) (d : Ask) → IsTickTree r tick asks t → i < length asks → (get_or asks i d).want ≤ get_or g i 0 → slice_index t.wants i ≤ slice_index g i
leaf_met r tick asks t g i d tree less over =
    subst (λ (w : ℕ). w ≤ get_or g i 0) (sym (ap (λ (ws : List ℕ). get_or ws i 0) tree.wants ∙ get_or-map want_of asks i d 0 less)) over
