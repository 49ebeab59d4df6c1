-- The steps of rounds, read from the front.
use Rattle.std.proofs.Common.{◌≡◌, ◌≢◌, ℕ, ◌<◌, List, [], ◌∷◌, ◌++◌, flat_map, map, length, zip, sym, refl, ap, ◌∙◌, arith, append-nil, append_assoc}
use Rattle.line_rates.specs.TickTree.{Asker, lane_in}
use Rattle.lane_desk.specs.Posted.{nothing_for}
use Rattle.round_events.specs.Results.{RoundResult, RoundStep, answer_of, answers, answers_to, find_of, nothing_to, steps_of}

head_find : (x y : Asker) (us vs : List RoundStep) → find_of x ∷ us ≡ find_of y ∷ vs → (x ≡ y) × (us ≡ vs)
head_find x y us vs e =
    let lanes : x.0 ≡ y.0 = cc in
    let asks : x.1 ≡ y.1 = cc in
    (λ q. (lanes q, asks q), cc)

-- finds, and then an answer: the same finds, and the same answer
pub cut : (had found : List Asker) (i n j m : ℕ) (us vs : List RoundStep) → map find_of had ++ answers i n ∷ us ≡ map find_of found ++ answers j m ∷ vs → (had ≡ found) × (answers i n ∷ us ≡ answers j m ∷ vs)
cut [] [] i n j m us vs e = (refl, e)
cut [] (y ∷ found) i n j m us vs e = absurd (cc)
cut (x ∷ had) [] i n j m us vs e = absurd (cc)
cut (x ∷ had) (y ∷ found) i n j m us vs e =
    let h = head_find x y (map find_of had ++ answers i n ∷ us) (map find_of found ++ answers j m ∷ vs) e in
    let k = cut had found i n j m us vs h.1 in
    (λ q. h.0 q ∷ k.0 q, k.1)

-- finds alone have no answer
pub no_answer : (had found : List Asker) (i n : ℕ) (us : List RoundStep) → map find_of had ++ answers i n ∷ us ≡ map find_of found → ⊥
no_answer [] [] i n us e = cc
no_answer [] (y ∷ found) i n us e = cc
no_answer (x ∷ had) [] i n us e = cc
no_answer (x ∷ had) (y ∷ found) i n us e = no_answer had found i n us (head_find x y (map find_of had ++ answers i n ∷ us) (map find_of found) e).1

-- an answer is the first of those that are due
pub head_answer : (i n j m : ℕ) (us vs : List RoundStep) → answers i n ∷ us ≡ answers j m ∷ vs → (i ≡ j) × (n ≡ m) × (us ≡ vs)
head_answer i n j m us vs e = (cc, cc, cc)

apart : (xs bs cs ds : List RoundStep) → ((xs ++ bs) ++ cs) ++ ds ≡ xs ++ (bs ++ (cs ++ ds))
apart xs bs cs ds = append_assoc (xs ++ bs) cs ds ∙ append_assoc xs bs (cs ++ ds)

-- the answers of the round whose finds they follow
pub first_result : (had found : List Asker) (i n : ℕ) (us : List RoundStep) (lanes amounts : List ℕ) (bs cs ds : List RoundStep) → bs ≡ map answer_of (zip lanes amounts) → 0 < length lanes → length lanes ≡ length amounts
    → map find_of had ++ answers i n ∷ us ≡ ((map find_of found ++ bs) ++ cs) ++ ds → (had ≡ found) × (answers i n ∷ us ≡ map answer_of (zip lanes amounts) ++ (cs ++ ds))
first_result had found i n us [] amounts bs cs ds is some even e = absurd (omega (arith, some))
first_result had found i n us (l ∷ ls) [] bs cs ds is some even e = absurd (omega (arith, even))
first_result had found i n us (l ∷ ls) (m ∷ ms) bs cs ds is some even e =
    cut had found i n l m us (map answer_of (zip ls ms) ++ (cs ++ ds)) (e ∙ apart (map find_of found) bs cs ds ∙ ap (λ (xs : List RoundStep). map find_of found ++ (xs ++ (cs ++ ds))) is)

-- finds that no answer follows are of no round that is over
pub no_result : (had found : List Asker) (lanes amounts : List ℕ) (bs cs ds : List RoundStep) → bs ≡ map answer_of (zip lanes amounts) → 0 < length lanes → length lanes ≡ length amounts → map find_of had ++ [] ≡ ((map find_of found ++ bs) ++ cs) ++ ds → ⊥
no_result had found [] amounts bs cs ds is some even e = omega (arith, some)
no_result had found (l ∷ ls) [] bs cs ds is some even e = omega (arith, even)
no_result had found (l ∷ ls) (m ∷ ms) bs cs ds is some even e =
    no_answer found had l m (map answer_of (zip ls ms) ++ (cs ++ ds))
    (sym (sym (append-nil (map find_of had)) ∙ e ∙ apart (map find_of found) bs cs ds ∙ ap (λ (xs : List RoundStep). map find_of found ++ (xs ++ (cs ++ ds))) is))

-- each round found an ask
abbrev pub AllFound : List RoundResult → Type 0
AllFound [] = Unit {0}
AllFound (r ∷ rs) = (r.found ≢ []) × AllFound rs

answer_no_find : (left : List (ℕ × ℕ)) (found : List Asker) (bs cs ds : List RoundStep) → found ≢ [] → map answer_of left ≡ ((map find_of found ++ bs) ++ cs) ++ ds → ⊥
answer_no_find left [] bs cs ds ne e = ne refl
answer_no_find [] (x ∷ found) bs cs ds ne e = cc
answer_no_find (p ∷ left) (x ∷ found) bs cs ds ne e = cc

-- answers alone are those of one round
pub only_answers : (left zs : List (ℕ × ℕ)) (rs : List RoundResult) (begun : List Asker) → AllFound rs → map answer_of left ≡ map answer_of zs ++ (flat_map steps_of rs ++ map find_of begun) → rs ≡ []
only_answers left [] [] begun h e = refl
only_answers left [] (r ∷ rs) begun h e = absurd (answer_no_find left r.found (answers_to r.found r.decision) (flat_map steps_of rs) (map find_of begun) h.0 e)
only_answers [] (z ∷ zs) rs begun h e = absurd (cc)
only_answers (p ∷ left) (z ∷ zs) rs begun h e = only_answers left zs rs begun h (head_answer p.0 p.1 z.0 z.1 (map answer_of left) (map answer_of zs ++ (flat_map steps_of rs ++ map find_of begun)) e).2

-- a refused round answers each ask found with 0
pub nothing_answers : (found : List Asker) → map nothing_to found ≡ map answer_of (zip (map lane_in found) (map nothing_for found))
nothing_answers [] = refl
nothing_answers (x ∷ found) = ap (λ (xs : List RoundStep). nothing_to x ∷ xs) (nothing_answers found)

-- the last round, if these answers are left
pub last_result : (had found : List Asker) (left : List (ℕ × ℕ)) (lanes amounts : List ℕ) (bs cs ds : List RoundStep) → bs ≡ map answer_of (zip lanes amounts) → 0 < length lanes → length lanes ≡ length amounts
    → map find_of had ++ map answer_of left ≡ ((map find_of found ++ bs) ++ cs) ++ ds → (had ≡ found) × (map answer_of left ≡ map answer_of (zip lanes amounts) ++ (cs ++ ds))
last_result had found [] lanes amounts bs cs ds is some even e = absurd (no_result had found lanes amounts bs cs ds is some even e)
last_result had found (p ∷ left) lanes amounts bs cs ds is some even e = first_result had found p.0 p.1 (map answer_of left) lanes amounts bs cs ds is some even e
