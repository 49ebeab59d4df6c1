-- What a port that is given back leaves.
use Rattle.std.proofs.Common.{◌≡◌, ℕ, zero, suc, ◌+◌, ◌-◌, ◌<◌, ◌≤◌, Bool, true, false, not, ◌&&◌, List, [], ◌∷◌, ◌++◌, length, drop, sym, refl, ap, ◌∙◌, subst, arith}
use Rattle.std.specs.Prelude.{slice_index_or}
use Rattle.std.specs.FinSet as set
use Rattle.std.specs.FinSet.{FinSet}
use Rattle.std.specs.Ordering.{nat_cmp}
use Rattle.std.proofs.lemmas.List.{length-append}
use Rattle.passive_ports.specs.Ports.{Ports}
use Rattle.passive_ports.specs.Resting.{unleased, kept_ports, rests, rested, keep_last, AllRest, IsKept}
use Rattle.passive_ports.proofs.Unleased.{unleased_has, unleased_more, all_with, same_range}
use Rattle.passive_ports.proofs.Leasing.{resting, none_and}

none_not : (c r : Bool) → r ≡ true → (c && not r) ≡ false
none_not true true e = refl
none_not false true e = refl
none_not c false e = absurd (let f : false ≡ true = e in cc)

both : (c r : Bool) → c ≡ true → r ≡ false → (c && not r) ≡ true
both true false c r = refl
both true true c r = absurd (let f : true ≡ false = r in cc)
both false r c e = absurd (let f : false ≡ true = c in cc)

pub not_leased : (pool : Ports) (ks : List ℕ) (port : ℕ) → set.contains pool.leased port ≡ false → set.contains (unleased pool ks).leased port ≡ false
not_leased pool ks port e = unleased_has pool ks port ∙ none_and (set.contains pool.leased port) (not (rests ks port)) e

pub is_resting : (pool : Ports) (ks : List ℕ) (port : ℕ) → rests ks port ≡ true → set.contains (unleased pool ks).leased port ≡ false
is_resting pool ks port e = unleased_has pool ks port ∙ none_not (set.contains pool.leased port) (rests ks port) e

pub is_used : (pool : Ports) (ks : List ℕ) (port : ℕ) → set.contains pool.leased port ≡ true → rests ks port ≡ false → set.contains (unleased pool ks).leased port ≡ true
is_used pool ks port c r = unleased_has pool ks port ∙ both (set.contains pool.leased port) (rests ks port) c r

-- the first and what stands behind it
pub split_first : (xs : List ℕ) (x : ℕ) → 0 < length xs → x ≡ slice_index_or xs 0 x → xs ≡ x ∷ drop 1 xs
split_first [] x some e = absurd (omega arith)
split_first (y ∷ ys) x some e = ap (λ (z : ℕ). z ∷ ys) (sym e)

drop-with : (n : ℕ) (xs : List ℕ) (x : ℕ) → n ≤ length xs → drop n (xs ++ x ∷ []) ≡ drop n xs ++ x ∷ []
drop-with zero xs x h = refl
drop-with (suc n) [] x h = absurd (omega arith)
drop-with (suc n) (y ∷ ys) x h = drop-with n ys x (omega arith)

keep-with : (ks : List ℕ) (most port : ℕ) → 0 < most → keep_last (most - 1) ks ++ port ∷ [] ≡ keep_last most (ks ++ port ∷ [])
keep-with ks most port some =
    let long : length (ks ++ port ∷ []) ≡ length ks + 1 = length-append ks (port ∷ []) in
    let e : length (ks ++ port ∷ []) - most ≡ length ks - (most - 1) = omega arith in
    let f : length ks - (most - 1) ≤ length ks = omega arith in
    sym (ap (λ (n : ℕ). drop n (ks ++ port ∷ [])) e ∙ drop-with (length ks - (most - 1)) ks port f)

-- one more rests, where there is room
pub rests_more : (pool next : Ports) (ks left new : List ℕ) (most port : ℕ) → 0 < most → unleased next left ≡ unleased pool ks → left ≡ keep_last (most - 1) ks → new ≡ left ++ port ∷ []
    → kept_ports next new most ≡ rested (kept_ports pool ks most) port
rests_more pool next ks left new most port some same are is =
    let range : ((next.first ≡ pool.first) × (next.last ≡ pool.last)) =
    (sym (same_range next left).0 ∙ (ap (λ (p : Ports). p.first) same ∙ (same_range pool ks).0), sym (same_range next left).1 ∙ (ap (λ (p : Ports). p.last) same ∙ (same_range pool ks).1)) in
    let used : (unleased next new).leased ≡ set.remove (unleased pool ks).leased port =
    ap (λ (xs : List ℕ). (unleased next xs).leased) is ∙ (ap (λ (p : Ports). p.leased) (unleased_more next left port) ∙ ap (λ (p : Ports). set.remove p.leased port) same) in
    let rest : new ≡ keep_last most (ks ++ port ∷ []) = is ∙ (ap (λ (xs : List ℕ). xs ++ port ∷ []) are ∙ keep-with ks most port some) in
    ap (λ (n : ℕ). resting n next.last (unleased next new).leased new most) range.0
    ∙ (ap (λ (n : ℕ). resting pool.first n (unleased next new).leased new most) range.1
    ∙ (ap (λ (s : FinSet nat_cmp). resting pool.first pool.last s new most) used
    ∙ ap (λ (xs : List ℕ). resting pool.first pool.last (set.remove (unleased pool ks).leased port) xs most) rest))

pub keeps_more : (next : Ports) (left new : List ℕ) (most room port : ℕ) → length left < most → most ≤ room → new ≡ left ++ port ∷ [] → AllRest next.leased left → set.contains (unleased next left).leased port ≡ true → IsKept next.leased new most room
keeps_more next left new most room port few has is all used =
    let long : length (left ++ port ∷ []) ≡ length left + 1 = length-append left (port ∷ []) in
    record {
      all_rest = subst (AllRest next.leased) (sym is) (all_with next left port all used);
      few = let e : length new ≡ length (left ++ port ∷ []) = ap length is in omega arith;
      has_room = has;
    }
