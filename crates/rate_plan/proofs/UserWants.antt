-- The asks of one user, in one way, want no more octets together than one leaf may.
use Rattle.std.proofs.Common.{◌≡◌, ◌≤◌, ◌+◌, ◌*◌, ◌/◌, ℕ, zero, suc, max, Bool, true, false, cond, count_by, sum_by, List, [], ◌∷◌, length, map, refl, ap, ◌∙◌, sym, subst, arith, Some}
use Rattle.std.proofs.Math.Nat.{mul-div-le}
use Rattle.std.proofs.lemmas.List.Sums.{sum_by-cons}
use Rattle.std.proofs.lemmas.Option.{same_Some}
use Rattle.std.specs.Prelude.{IsPermutation, if◌then◌else◌, slice_get}
use Rattle.fair_shares.proofs.LargeUsers.{large_moved}
use Rattle.fair_shares.proofs.SameUsers.{same-parts, same-self}
use Rattle.fair_terms.specs.Wants.{HasLargeUser, is_same_user as is_of_user, user_want}
use Rattle.limit_tree.specs.declared.bounds.TheConstants.{MAX_WANT}
use Rattle.line_rates.specs.TickTree.{Asker, ask_in}
use Rattle.line_rates.specs.declared.ask.Ask.{Ask}
use Rattle.line_rates.specs.declared.ask.Way.{Way}
use Rattle.line_rates.specs.declared.share_by.ShareBy.{ShareBy}
use Rattle.line_rates.specs.declared.share_by.ShareBy.TheVariants as share
use Rattle.rate_plan.specs.Asked.{AreAsked, ask_at, is_same_user}
use Rattle.rate_plan.specs.declared.asks.Transfer.{Transfer}

counted : (b : Bool) (w n : ℕ) → cond b w 0 + n * w ≡ (cond b 1 0 + n) * w
counted true w n = omega arith
counted false w n = omega arith

-- a sum over asks, each with its transfer, is at most `w` for each transfer that is counted, if a term is at most `w`, and 0 for a transfer that is not counted
sum_counted : (w : ℕ) (f : Ask → ℕ) (p : Transfer → Bool) (ts : List Transfer) (xs : List Asker) → length xs ≡ length ts → ((i : ℕ) (x : Asker) → slice_get xs i ≡ Some x → (t : Transfer) × (slice_get ts i ≡ Some t) × (f (ask_in x) ≤ cond (p t) w 0))
    → sum_by f (map ask_in xs) ≤ count_by p ts * w
sum_counted w f p [] [] same each = omega arith
sum_counted w f p [] (x ∷ xs) same each = absurd (omega arith)
sum_counted w f p (t ∷ ts) [] same each = absurd (omega arith)
sum_counted w f p (t ∷ ts) (x ∷ xs) same each =
    let first = each 0 x refl in
    let one : f (ask_in x) ≤ cond (p t) w 0 = subst (λ u. f (ask_in x) ≤ cond (p u) w 0) (sym (same_Some t first.0 first.1)) first.2 in
    let rest : sum_by f (map ask_in xs) ≤ count_by p ts * w = sum_counted w f p ts xs (omega arith) (λ i y at. each (suc i) y at) in
    subst (λ n. sum_by f (map ask_in (x ∷ xs)) ≤ n * w) (sym (sum_by-cons (λ u. cond (p u) 1 0) t ts))
    (omega (arith, one, rest, counted (p t) w (count_by p ts), sum_by-cons f (ask_in x) (map ask_in xs)))

parts_of_most : (n : ℕ) → n * (MAX_WANT / max 1 n) ≤ MAX_WANT
parts_of_most zero = omega arith
parts_of_most (suc n) =
    let most : suc n ≡ max 1 (suc n) = omega arith in
    subst (λ m. suc n * (MAX_WANT / m) ≤ MAX_WANT) most (mul-div-le MAX_WANT (suc n))

abbrev of_ask : Ask → Transfer
of_ask a = record { user = a.user; way = a.way }

-- what each transfer of a user wants, among these
abbrev part : List Transfer → Transfer → ℕ
part ts t = MAX_WANT / max 1 (count_by (is_same_user t) ts)

part_of : (ts : List Transfer) (a b : Ask) (is : Bool) → is_of_user a b ≡ is → (if is then part ts (of_ask b) else 0) ≤ cond (is_same_user (of_ask a) (of_ask b)) (part ts (of_ask a)) 0
part_of ts a b false e = omega arith
part_of ts a b true e =
    let both = same-parts a b e in
    let same : of_ask b ≡ of_ask a = ap (λ (user : ℕ). record { user = user; way = b.way }) both.1 ∙ ap (λ (way : Way). record { user = a.user; way = way }) both.0 in
    subst (λ t. part ts t ≤ cond (is_same_user (of_ask a) t) (part ts (of_ask a)) 0) (sym same)
    (subst (λ c. part ts (of_ask a) ≤ cond c (part ts (of_ask a)) 0) (sym (same-self a)) (omega arith))

abbrev one_user : Ask → Ask → ℕ
one_user a b = if is_of_user a b then b.want else 0

most_of_user : (ts : List Transfer) (asks : List Asker) (a : Ask) → AreAsked share.Users ts asks → user_want a (map ask_in asks) ≤ MAX_WANT
most_of_user ts asks a asked =
    omega (arith, sum_counted (part ts (of_ask a)) (one_user a) (is_same_user (of_ask a)) ts asks asked.count term, parts_of_most (count_by (is_same_user (of_ask a)) ts))
  where
    term : (i : ℕ) (x : Asker) → slice_get asks i ≡ Some x → (t : Transfer) × (slice_get ts i ≡ Some t) × (one_user a (ask_in x) ≤ cond (is_same_user (of_ask a) t) (part ts (of_ask a)) 0)
    term i x at =
        let of = asked.each i x at in
        let made : Ask = ask_in (ask_at share.Users ts i of.0) in
        (of.0, of.1, subst (λ (y : Asker). one_user a (ask_in y) ≤ cond (is_same_user (of_ask a) of.0) (part ts (of_ask a)) 0) (sym of.2) (part_of ts a made (is_of_user a made) refl))

-- no user of a plan is too large, whatever the order of the asks
pub none_large : (by : ShareBy) (ts : List Transfer) (asks order : List Asker) → AreAsked by ts asks → IsPermutation asks order → HasLargeUser by (map ask_in order) → ⊥
none_large by ts asks order asked moved large =
    let here : HasLargeUser by (map ask_in asks) = large_moved by asks order moved large in
    omega (arith, here.large, most_of_user ts asks here.ask (subst (λ (b : ShareBy). AreAsked b ts asks) here.among asked))
