-- Amounts that were posted.
use Rattle.std.proofs.Common.{◌≡◌, ◌≢◌, ℕ, zero, suc, ◌+◌, ◌<◌, List, [], ◌∷◌, map, length, get_or, set, drop, drop-cons, sum, sym, refl, ap, ◌∙◌, subst, arith, length-set, get_or-set_other, get_or-set_same}
use Rattle.std.proofs.lemmas.List.Sums.{sum_by-cons, sum_by-drop_more}
use Rattle.line_rates.specs.TickTree.{Asker, lane_in}
use Rattle.grant_ledger.specs.Books.{NamesNot}
use Rattle.desk_rule.specs.declared.view.TraceView.{TraceView}
use Rattle.desk_rule.specs.Lanes.{untraced, has_posted, posted_in}
use Rattle.desk_rule.specs.Lanes.{is_due}
use Rattle.desk_rule.proofs.Keeps.{posted_set, sum_more}
use Rattle.lane_desk.specs.Posted.{trace_at, posted_all, AreDue, nothing_for}

pub names_other : (l : ℕ) (ls : List ℕ) (j : ℕ) → NamesNot l ls → j < length ls → get_or ls j 0 ≢ l
names_other l [] j n h = absurd (omega (arith, h))
names_other l (k ∷ ks) zero n h = λ e. n.0 (sym e)
names_other l (k ∷ ks) (suc j) n h = names_other l ks j n.1 (omega (arith, h))

-- a lane that is not named stays due
pub due_after : (l : ℕ) (ls : List ℕ) (ts : List TraceView) (t : TraceView) → NamesNot l ls → AreDue ls ts → AreDue ls (set ts l t)
due_after l [] ts t n d = tt
due_after l (k ∷ ks) ts t n d =
    (omega (arith, d.0, length-set ts l t), ap is_due (get_or-set_other ts l k t untraced (λ e. n.0 (sym e))) ∙ d.1, d.2, due_after l ks ts t n.1 d.3)

pub post_else : (ls ns : List ℕ) (ts : List TraceView) (k : ℕ) → NamesNot k ls → trace_at (posted_all ls ns ts) k ≡ trace_at ts k
post_else [] ns ts k n = refl
post_else (l ∷ ls) [] ts k n = refl
post_else (l ∷ ls) (m ∷ ns) ts k n = post_else ls ns (set ts l (has_posted m (trace_at ts l))) k n.1 ∙ get_or-set_other ts l k (has_posted m (trace_at ts l)) untraced n.0

pub post_at : (ls ns : List ℕ) (ts : List TraceView) (j : ℕ) → AreDue ls ts → length ls ≡ length ns → j < length ls → trace_at (posted_all ls ns ts) (get_or ls j 0) ≡ has_posted (get_or ns j 0) (trace_at ts (get_or ls j 0))
post_at [] ns ts j d e h = absurd (omega (arith, h))
post_at (l ∷ ls) [] ts j d e h = absurd (omega (arith, e))
post_at (l ∷ ls) (m ∷ ns) ts zero d e h = post_else ls ns (set ts l (has_posted m (trace_at ts l))) l d.2 ∙ get_or-set_same ts l (has_posted m (trace_at ts l)) untraced d.0
post_at (l ∷ ls) (m ∷ ns) ts (suc j) d e h =
    let k : ℕ = get_or ls j 0 in
    let x : TraceView = has_posted m (trace_at ts l) in
    post_at ls ns (set ts l x) j (due_after l ls ts x d.2 d.3) (omega (arith, e)) (omega (arith, h))
    ∙ ap (has_posted (get_or ns j 0)) (get_or-set_other ts l k x untraced (names_other l ls j d.2 (omega (arith, h))))

pub length-posted_all : (ls ns : List ℕ) (ts : List TraceView) → length (posted_all ls ns ts) ≡ length ts
length-posted_all [] ns ts = refl
length-posted_all (l ∷ ls) [] ts = refl
length-posted_all (l ∷ ls) (m ∷ ns) ts = length-posted_all ls ns (set ts l (has_posted m (trace_at ts l))) ∙ length-set ts l (has_posted m (trace_at ts l))

-- one amount more
pub posted_one : (ts : List TraceView) (l n : ℕ) → l < length ts → posted_in (set ts l (has_posted n (trace_at ts l))) ≡ posted_in ts + n
posted_one ts l n h = omega (arith, posted_set ts l (has_posted n (trace_at ts l)) h, sum_more (trace_at ts l).posted n)

pub posted_sum : (ls ns : List ℕ) (ts : List TraceView) → AreDue ls ts → length ls ≡ length ns → posted_in (posted_all ls ns ts) ≡ posted_in ts + sum ns
posted_sum [] [] ts d e = omega arith
posted_sum [] (n ∷ ns) ts d e = absurd (omega (arith, e))
posted_sum (l ∷ ls) [] ts d e = absurd (omega (arith, e))
posted_sum (l ∷ ls) (m ∷ ns) ts d e =
    let x : TraceView = has_posted m (trace_at ts l) in
    omega (arith, posted_sum ls ns (set ts l x) (due_after l ls ts x d.2 d.3) (omega (arith, e)), posted_one ts l m d.0, sum_by-cons (λ (n : ℕ). n) m ns)

pub zero_at : (xs : List Asker) (j : ℕ) → get_or (map nothing_for xs) j 0 ≡ 0
zero_at [] zero = refl
zero_at [] (suc j) = refl
zero_at (x ∷ xs) zero = refl
zero_at (x ∷ xs) (suc j) = zero_at xs j

pub zero_sum : (xs : List Asker) → sum (map nothing_for xs) ≡ 0
zero_sum [] = refl
zero_sum (x ∷ xs) = omega (arith, sum_by-cons (λ (n : ℕ). n) 0 (map nothing_for xs), zero_sum xs)

-- the first of the rest
pub drops : {A : Type 0} (xs : List A) (d : A) (i : ℕ) → i < length xs → drop i xs ≡ get_or xs i d ∷ drop (i + 1) xs
drops xs d i h = let e : suc i ≡ i + 1 = omega arith in drop-cons xs i d h ∙ ap (λ (k : ℕ). get_or xs i d ∷ drop k xs) e

pub due_here : (ls : List ℕ) (ts : List TraceView) (i : ℕ) → i < length ls → AreDue (drop i ls) ts → AreDue (get_or ls i 0 ∷ drop (i + 1) ls) ts
due_here ls ts i h d = subst (λ (xs : List ℕ). AreDue xs ts) (drops ls 0 i h) d

pub due_next : (ls : List ℕ) (ts us : List TraceView) (t : TraceView) (i : ℕ) → i < length ls → AreDue (drop i ls) ts → us ≡ set ts (get_or ls i 0) t → AreDue (drop (i + 1) ls) us
due_next ls ts us t i h d is =
    let k = due_here ls ts i h d in
    subst (λ (xs : List TraceView). AreDue (drop (i + 1) ls) xs) (sym is) (due_after (get_or ls i 0) (drop (i + 1) ls) ts t k.2 k.3)

pub rest_next : (ls ns : List ℕ) (ts us : List TraceView) (i : ℕ) → i < length ls → length ls ≡ length ns → us ≡ set ts (get_or ls i 0) (has_posted (get_or ns i 0) (trace_at ts (get_or ls i 0))) → posted_all (drop (i + 1) ls) (drop (i + 1) ns) us ≡ posted_all (drop i ls) (drop i ns) ts
rest_next ls ns ts us i h e is =
    ap (posted_all (drop (i + 1) ls) (drop (i + 1) ns)) is ∙ (λ q. posted_all (sym (drops ls 0 i h) q) (sym (drops ns 0 i (omega (arith, h, e))) q) ts)

pub sum_next : (ns : List ℕ) (i : ℕ) → i < length ns → sum (drop i ns) ≡ get_or ns i 0 + sum (drop (i + 1) ns)
sum_next ns i h = sum_by-drop_more (λ (n : ℕ). n) ns i 0 h

pub posted_next : (ts us : List TraceView) (l n : ℕ) → l < length ts → us ≡ set ts l (has_posted n (trace_at ts l)) → posted_in us ≡ posted_in ts + n
posted_next ts us l n h is = ap posted_in is ∙ posted_one ts l n h

-- an ask is refused
pub refuse_step : (xs : List Asker) (d : Asker) (ts us : List TraceView) (i n : ℕ) → i < length xs → AreDue (map lane_in (drop i xs)) ts → us ≡ set ts (lane_in (get_or xs i d)) (has_posted n (trace_at ts (lane_in (get_or xs i d)))) → n ≡ 0
    → (posted_in us ≡ posted_in ts) × AreDue (map lane_in (drop (i + 1) xs)) us × (posted_all (map lane_in (drop (i + 1) xs)) (map nothing_for (drop (i + 1) xs)) us ≡ posted_all (map lane_in (drop i xs)) (map nothing_for (drop i xs)) ts)
refuse_step xs d ts us i n h due reported none =
    let l : ℕ = lane_in (get_or xs i d) in
    let e = drops xs d i h in
    let here : AreDue (l ∷ map lane_in (drop (i + 1) xs)) ts = subst (λ (ys : List Asker). AreDue (map lane_in ys) ts) e due in
    let is : us ≡ set ts l (has_posted 0 (trace_at ts l)) = reported ∙ ap (λ (m : ℕ). set ts l (has_posted m (trace_at ts l))) none in (
      omega (arith, posted_next ts us l 0 here.0 is),
      subst (λ (vs : List TraceView). AreDue (map lane_in (drop (i + 1) xs)) vs) (sym is) (due_after l (map lane_in (drop (i + 1) xs)) ts (has_posted 0 (trace_at ts l)) here.2 here.3),
      ap (posted_all (map lane_in (drop (i + 1) xs)) (map nothing_for (drop (i + 1) xs))) is ∙ (λ q. posted_all (map lane_in (sym e q)) (map nothing_for (sym e q)) ts),
    )
