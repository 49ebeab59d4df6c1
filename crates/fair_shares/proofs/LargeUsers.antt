-- A user can have no more than its asks want together.
use Rattle.std.proofs.Common.{◌≡◌, ℕ, zero, suc, ◌+◌, ◌≤◌, Bool, true, false, [], ◌∷◌, List, length, map, refl, sym, ap, subst, ◌∙◌, arith, Option, Some, None, IsPermutation, sum_by}
use Rattle.std.specs.Prelude.{IsTrue, if◌then◌else◌, slice_get, slice_index}
use Rattle.std.proofs.lemmas.List.Sums.{sum_by-cons}
use Rattle.std.proofs.lemmas.List.Sorted.{sum_by-IsPermutation}
use Rattle.std.proofs.lemmas.Option.{slice_get_within}
use Rattle.limit_tree.specs.Sharing.{LimitTree, sum_below}
use Rattle.line_rates.specs.declared.ask.Ask.{Ask}
use Rattle.line_rates.specs.declared.share_by.ShareBy.{ShareBy}
use Rattle.line_rates.specs.declared.share_by.ShareBy.TheVariants as share
use Rattle.line_rates.specs.Names.{want_of}
use Rattle.line_rates.specs.TickTree.{Asker, ask_in}
use Rattle.grant_certificate.specs.Users.{leaves_of}
use Rattle.grant_certificate.proofs.UserSums.{leaf_inside, leaf_owner}
use Rattle.fair_terms.specs.Owners.{AreOwners}
use Rattle.fair_terms.specs.Wants.{HasLargeUser, is_same_user, user_want}
use Rattle.user_shares.specs.Faults.{IsTooLarge, IsUserFault}
use Rattle.user_shares.specs.declared.fault.UserShareFault.{UserShareFault}
use Rattle.user_shares.specs.declared.fault.UserShareFault.TheVariants as user
use Rattle.fair_shares.specs.declared.fault.FairFault.{FairFault}
use Rattle.fair_shares.specs.declared.fault.FairFault.TheVariants.{Memory, Unshared}
use Rattle.fair_shares.specs.Faults.{IsFairFault}
use Rattle.fair_shares.specs.Unshared.{fault_of}
use Rattle.fair_shares.specs.Users.{IsTreeOf}
use Rattle.fair_shares.proofs.SameUsers.{ask_at, same-from}

sum_front : (n : ℕ) (f : ℕ → ℕ) → sum_below (suc n) f ≡ f 0 + sum_below n (λ i. f (suc i))
sum_front zero f = omega arith
sum_front (suc n) f = omega (arith, sum_front n f)

-- a sum over places, each of which has at most the term of its ask
sum_of_asks : (asks : List Ask) (f : ℕ → ℕ) (F : Ask → ℕ) → ((i : ℕ) (a : Ask) → slice_get asks i ≡ Some a → f i ≤ F a) → sum_below (length asks) f ≤ sum_by F asks
sum_of_asks [] f F le = omega arith
sum_of_asks (a ∷ asks) f F le =
    let first : f 0 ≤ F a = le 0 a refl in
    let rest = sum_of_asks asks (λ i. f (suc i)) F (λ i b at. le (suc i) b at) in
    omega (arith, first, rest, sum_front (length asks) f, sum_by-cons F a asks)

length-wants : (asks : List Ask) → length (map want_of asks) ≡ length asks
length-wants [] = refl
length-wants (a ∷ asks) = ap suc (length-wants asks)

want_at : (asks : List Ask) (i : ℕ) (a : Ask) → slice_get asks i ≡ Some a → slice_index (map want_of asks) i ≡ a.want
want_at [] i a at = absurd (omega (arith, slice_get_within [] i a at))
want_at (b ∷ asks) zero a at = ap want_in at
  where
    want_in : Option Ask → ℕ
    want_in None = 0
    want_in (Some c) = c.want
want_at (b ∷ asks) (suc i) a at = want_at asks i a at

abbrev one_user : Ask → Ask → ℕ
one_user a b = if is_same_user a b then b.want else 0

-- a user that can have more than a leaf may want is that of asks which want as much
pub large_user : (asks : List Ask) (t : LimitTree) (users : ℕ) (owners : List ℕ) (user : ℕ) → IsTreeOf asks t → AreOwners asks users owners → IsTooLarge t users owners user → HasLargeUser share.Users asks
large_user asks t users owners user tree own large = record { among = refl; ask = a.0; large = omega (arith, large.large, bound) }
  where
    leaf : (i : ℕ) × IsTrue (leaves_of owners user i)
    leaf = own.some user large.less

    a : (b : Ask) × (slice_get asks leaf.0 ≡ Some b)
    a = ask_at asks leaf.0 (omega (arith, own.each, leaf_inside owners user leaf.0 leaf.1))

    h : List ℕ
    h = large.is_most.some.0

    each : length h ≡ length asks
    each = large.is_most.some.1.leaves ∙ (ap (λ (xs : List ℕ). length xs) tree.2.wants ∙ length-wants asks)

    term : (i : ℕ) (b : Ask) → slice_get asks i ≡ Some b → (if leaves_of owners user i then slice_index h i else 0) ≤ one_user a.0 b
    term i b at = go (leaves_of owners user i) refl
      where
        go : (c : Bool) → leaves_of owners user i ≡ c → (if c then slice_index h i else 0) ≤ one_user a.0 b
        go false e = omega arith
        go true e =
            let same = (own.same leaf.0 i a.0 b a.1 at).0 (leaf_owner owners user leaf.0 leaf.1 ∙ sym (leaf_owner owners user i e)) in
            let value : one_user a.0 b ≡ b.want = ap (λ (c : Bool). if c then b.want else 0) (same-from a.0 b (sym same.0) (sym same.1)) in
            let wants : slice_index t.wants i ≡ b.want = ap (λ (xs : List ℕ). slice_index xs i) tree.2.wants ∙ want_at asks i b at in
            let most = large.is_most.some.1.wants i (omega (arith, each, slice_get_within asks i b at)) in
            omega (arith, value, wants, most)

    bound : large.most ≤ user_want a.0 asks
    bound =
        subst (λ (n : ℕ). n ≤ user_want a.0 asks) large.is_most.some.2
        (subst (λ (n : ℕ). sum_below n (λ i. if leaves_of owners user i then slice_index h i else 0) ≤ user_want a.0 asks) (sym own.each)
        (sum_of_asks asks (λ i. if leaves_of owners user i then slice_index h i else 0) (one_user a.0) term))

sum_map : (F : Ask → ℕ) (xs : List Asker) → sum_by F (map ask_in xs) ≡ sum_by (λ x. F (ask_in x)) xs
sum_map F [] = refl
sum_map F (x ∷ xs) =
    sum_by-cons F (ask_in x) (map ask_in xs)
    ∙ (ap (λ (n : ℕ). F (ask_in x) + n) (sum_map F xs) ∙ sym (sum_by-cons (λ x. F (ask_in x)) x xs))

-- the order of the asks does not count
pub large_moved : (by : ShareBy) (xs ys : List Asker) → IsPermutation xs ys → HasLargeUser by (map ask_in ys) → HasLargeUser by (map ask_in xs)
large_moved by xs ys moved large = record { among = large.among; ask = large.ask; large = omega (arith, large.large, same) }
  where
    same : user_want large.ask (map ask_in ys) ≡ user_want large.ask (map ask_in xs)
    same =
        sum_map (one_user large.ask) ys
        ∙ (sum_by-IsPermutation (λ (x : Asker). one_user large.ask (ask_in x)) xs ys moved ∙ sym (sum_map (one_user large.ask) xs))

-- the fault of grants among the users of asks
pub user_fault : (asks : List Ask) (t : LimitTree) (users : ℕ) (owners : List ℕ) (e : UserShareFault) → IsTreeOf asks t → AreOwners asks users owners → IsUserFault t users owners e → IsFairFault share.Users asks (fault_of e)
user_fault asks t users owners user.Memory tree own h = tt
user_fault asks t users owners (user.WantTooLarge u) tree own h = large_user asks t users owners u tree own h

-- the same for the asks in another order
pub fault_moved : (by : ShareBy) (xs ys : List Asker) (fault : FairFault) → IsPermutation xs ys → IsFairFault by (map ask_in ys) fault → IsFairFault by (map ask_in xs) fault
fault_moved by xs ys Memory moved h = tt
fault_moved by xs ys Unshared moved h = large_moved by xs ys moved h
