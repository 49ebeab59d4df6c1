-- What grants of a round take from sessions, leaf by leaf.
use Rattle.std.proofs.Common.{◌≡◌, ℕ, ◌+◌, ◌<◌, cond, List, [], ◌∷◌, ◌++◌, length, take, drop, get_or, sym, refl, ap, ◌∙◌, arith}
use Rattle.std.specs.Prelude.{nat_eq, max, ◌&&◌}
use Rattle.std.proofs.lemmas.List.{take_more, length-take-le}
use Rattle.std.proofs.lemmas.List.Sums.{sum_by-cons, sum_by-append}
use Rattle.lane_desk.proofs.PostedLemmas.{drops}
use Rattle.line_rates.specs.declared.ask.Ask.{Ask}
use Rattle.line_rates.specs.declared.ask.Way.{Way}
use Rattle.line_rates.specs.Granted.{Granted}
use Rattle.line_rates.specs.Names.{same_way}
use Rattle.round_pace.specs.Histories.{take_more as take_rest}
use Rattle.round_pace.specs.OwnParts.{session_octets, most_to, own_part}
use Rattle.round_pace.specs.Paced.{Paced}
use Rattle.round_pace.specs.Taken.{take_octets}
use Rattle.paced_rounds.specs.History.{granted, leaves}

leaves_append : (xs ys : List Ask) (ns ms : List ℕ) → length xs ≡ length ns → leaves (xs ++ ys) (ns ++ ms) ≡ leaves xs ns ++ leaves ys ms
leaves_append [] ys [] ms e = refl
leaves_append [] ys (n ∷ ns) ms e = absurd (omega (arith, e))
leaves_append (x ∷ xs) ys [] ms e = absurd (omega (arith, e))
leaves_append (x ∷ xs) ys (n ∷ ns) ms e = ap (λ (l : List Granted). granted x n ∷ l) (leaves_append xs ys ns ms (omega (arith, e)))

-- one leaf more
pub leaves_more : (xs : List Ask) (ns : List ℕ) (d : Ask) (i : ℕ) → i < length xs → length xs ≡ length ns → leaves (take (i + 1) xs) (take (i + 1) ns) ≡ leaves (take i xs) (take i ns) ++ granted (get_or xs i d) (get_or ns i 0) ∷ []
leaves_more xs ns d i h e =
    let short : length (take i xs) ≡ length (take i ns) = length-take-le i xs (omega arith) ∙ sym (length-take-le i ns (omega (arith, h, e))) in
    (λ k. leaves (take_more xs i d h k) (take_more ns i 0 (omega (arith, h, e)) k))
    ∙ leaves_append (take i xs) (get_or xs i d ∷ []) (take i ns) (get_or ns i 0 ∷ []) short

pub session_more : (way : Way) (user session : ℕ) (xs : List Ask) (ns : List ℕ) (d : Ask) (i octets part new : ℕ) → i < length xs → length xs ≡ length ns → octets ≡ session_octets way user session (leaves (take i xs) (take i ns))
    → part ≡ cond (same_way (get_or xs i d).way way && (nat_eq (get_or xs i d).user user && nat_eq (get_or xs i d).session session)) (get_or ns i 0) 0 → new ≡ octets + part → new ≡ session_octets way user session (leaves (take (i + 1) xs) (take (i + 1) ns))
session_more way user session xs ns d i octets part new h e is same sum =
    let f : Granted → ℕ = λ g. cond (same_way g.ask.way way && (nat_eq g.ask.user user && nat_eq g.ask.session session)) g.octets 0 in
    let g : Granted = granted (get_or xs i d) (get_or ns i 0) in
    last new octets part (session_octets way user session (leaves (take i xs) (take i ns))) (session_octets way user session (g ∷ [])) (f g) sum is same (sum_by-cons f g [])
    ∙ sym (ap (session_octets way user session) (leaves_more xs ns d i h e) ∙ sum_by-append f (leaves (take i xs) (take i ns)) (g ∷ []))
  where
    last : (n o p a b c : ℕ) → n ≡ o + p → o ≡ a → p ≡ c → b ≡ c + 0 → n ≡ a + b
    last n o p a b c w x y z = omega (arith, w, x, y, z)

most_append : (way : Way) (user : ℕ) (all gs : List Granted) (g : Granted) → most_to way user all (gs ++ g ∷ []) ≡ max (most_to way user all gs) (cond (same_way g.ask.way way && nat_eq g.ask.user user) (session_octets way user g.ask.session all) 0)
most_append way user all [] g = turned (cond (same_way g.ask.way way && nat_eq g.ask.user user) (session_octets way user g.ask.session all) 0)
  where
    turned : (x : ℕ) → max x 0 ≡ max 0 x
    turned x = omega arith
most_append way user all (x ∷ gs) g =
    let first : ℕ = cond (same_way x.ask.way way && nat_eq x.ask.user user) (session_octets way user x.ask.session all) 0 in
    ap (max first) (most_append way user all gs g) ∙ grouped first (most_to way user all gs) (cond (same_way g.ask.way way && nat_eq g.ask.user user) (session_octets way user g.ask.session all) 0)
  where
    grouped : (a b c : ℕ) → max a (max b c) ≡ max (max a b) c
    grouped a b c = omega arith

pub most_more : (way : Way) (user : ℕ) (all : List Granted) (xs : List Ask) (ns : List ℕ) (d : Ask) (i most part new : ℕ) → i < length xs → length xs ≡ length ns → most ≡ most_to way user all (leaves (take i xs) (take i ns))
    → part ≡ cond (same_way (get_or xs i d).way way && nat_eq (get_or xs i d).user user) (session_octets way user (get_or xs i d).session all) 0 → new ≡ max most part → new ≡ most_to way user all (leaves (take (i + 1) xs) (take (i + 1) ns))
most_more way user all xs ns d i most part new h e is same sum =
    sum ∙ (λ k. max (is k) (same k))
    ∙ sym (ap (most_to way user all) (leaves_more xs ns d i h e) ∙ most_append way user all (leaves (take i xs) (take i ns)) (granted (get_or xs i d) (get_or ns i 0)))

-- one grant more is taken
pub take_next : (xs : List Ask) (ns : List ℕ) (d : Ask) (i own : ℕ) (p q : Paced) → i < length xs → length xs ≡ length ns → own ≡ own_part (leaves (take i xs) (take i ns)) (granted (get_or xs i d) (get_or ns i 0))
    → q ≡ take_octets (get_or xs i d).way (get_or xs i d).user (get_or ns i 0) own p
    → take_rest (leaves (take (i + 1) xs) (take (i + 1) ns)) (leaves (drop (i + 1) xs) (drop (i + 1) ns)) q ≡ take_rest (leaves (take i xs) (take i ns)) (leaves (drop i xs) (drop i ns)) p
take_next xs ns d i own p q h e part is =
    (λ k. take_rest (leaves_more xs ns d i h e k) (leaves (drop (i + 1) xs) (drop (i + 1) ns)) ((is ∙ ap (λ (n : ℕ). take_octets (get_or xs i d).way (get_or xs i d).user (get_or ns i 0) n p) part) k))
    ∙ (λ k. take_rest (leaves (take i xs) (take i ns)) (leaves (sym (drops xs d i h) k) (sym (drops ns 0 i (omega (arith, h, e))) k)) p)
