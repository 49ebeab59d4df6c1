-- Each line offered is in what is written, or counted.
use Rattle.std.proofs.Common.{◌≡◌, ℕ, zero, suc, ◌+◌, ◌-◌, ◌<◌, ◌≤◌, Bool, true, false, cond, List, [], ◌∷◌, ◌++◌, length, take, drop, min, sym, refl, ap, ◌∙◌, subst, arith, append_assoc, append-nil, length-append, length-drop}
use Rattle.std.proofs.lemmas.List.{drop-append-le, take-append-drop, take_all, take_min, length-take}
use Rattle.std.proofs.lemmas.Bool.{eqb-true, ltb-true, ltb-false}
use Rattle.std.proofs.Math.Seq.{drop-nil}
use Rattle.std.proofs.Math.Nat.{min-le_left, min-le_right}
use Rattle.std.specs.Prelude.{nat_eq, nat_lt, ◌&&◌}
use Rattle.line_queue.specs.declared.queue.TheConstants.{MAX_WRITE}
use Rattle.line_queue.specs.Queues.{Queue, empty, has_report_room, has_room, with_line, one_dropped, offered, reported, written, written_of, count_text, next_of, next_octets}
use Rattle.line_queue.specs.Laws.{Deed, Offered, Reported, Written, Entry, Line, Count, Accounts, LinesAreAccounted, after_all, all_out, entry_text, joined, offers_of, rest, texts}

texts-append : (entries : List Entry) (entry : Entry) → texts (entries ++ entry ∷ []) ≡ texts entries ++ entry_text entry
texts-append [] entry = append-nil (entry_text entry)
texts-append (first ∷ entries) entry = ap (λ (more : List ℕ). entry_text first ++ more) (texts-append entries entry) ∙ sym (append_assoc (entry_text first) (texts entries) (entry_text entry))

joined-append : (lines : List (List ℕ)) (line : List ℕ) → joined (lines ++ line ∷ []) ≡ joined lines ++ line
joined-append [] line = append-nil line
joined-append (first ∷ lines) line = ap (λ (more : List ℕ). first ++ more) (joined-append lines line) ∙ sym (append_assoc first (joined lines) line)

-- one more line that is kept
kept : (lines : List (List ℕ)) (entries : List Entry) (dropped : ℕ) (line : List ℕ) → dropped ≡ 0 → Accounts lines entries dropped → Accounts (lines ++ line ∷ []) (entries ++ Line line ∷ []) 0
kept [] [] dropped line none is = (refl, refl)
kept (first ∷ lines) [] dropped line none is = absurd (omega (arith, is, none))
kept [] (Line k ∷ entries) dropped line none is = absurd is
kept (first ∷ lines) (Line k ∷ entries) dropped line none is = (is.0, kept lines entries dropped line none is.1)
kept lines (Count head count ∷ entries) dropped line none is =
    let longer : count ≤ length (lines ++ line ∷ []) = omega (arith, is.0, length-append lines (line ∷ [])) in
    (longer, subst (λ (ls : List (List ℕ)). Accounts ls (entries ++ Line line ∷ []) 0) (sym (drop-append-le count lines (line ∷ []) is.0)) (kept (drop count lines) entries dropped line none is.1))

-- one more line that is dropped
lost : (lines : List (List ℕ)) (entries : List Entry) (dropped : ℕ) (line : List ℕ) → Accounts lines entries dropped → Accounts (lines ++ line ∷ []) entries (dropped + 1)
lost lines [] dropped line is = length-append lines (line ∷ []) ∙ ap (λ (n : ℕ). n + 1) is
lost [] (Line k ∷ entries) dropped line is = absurd is
lost (first ∷ lines) (Line k ∷ entries) dropped line is = (is.0, lost lines entries dropped line is.1)
lost lines (Count head count ∷ entries) dropped line is =
    let longer : count ≤ length (lines ++ line ∷ []) = omega (arith, is.0, length-append lines (line ∷ [])) in
    (longer, subst (λ (ls : List (List ℕ)). Accounts ls entries (dropped + 1)) (sym (drop-append-le count lines (line ∷ []) is.0)) (lost (drop count lines) entries dropped line is.1))

-- the count of those that were dropped
counted : (lines : List (List ℕ)) (entries : List Entry) (dropped : ℕ) (head : List ℕ) → Accounts lines entries dropped → Accounts lines (entries ++ Count head dropped ∷ []) 0
counted lines [] dropped head is =
    let all : dropped ≤ length lines = omega (arith, is) in
    (all, length-drop dropped lines ∙ omega (arith, is))
counted [] (Line k ∷ entries) dropped head is = absurd is
counted (first ∷ lines) (Line k ∷ entries) dropped head is = (is.0, counted lines entries dropped head is.1)
counted lines (Count other count ∷ entries) dropped head is = (is.0, counted (drop count lines) entries dropped head is.1)

-- the first line has begun within its length
abbrev IsBegun : List (List ℕ) → ℕ → Type 0
IsBegun [] begun = begun ≡ 0
IsBegun (line ∷ lines) begun = begun ≤ length line

begun-within : (lines : List (List ℕ)) (begun : ℕ) → IsBegun lines begun → begun ≤ length (joined lines)
begun-within [] begun is = omega (arith, is)
begun-within (line ∷ lines) begun is = omega (arith, is, length-append line (joined lines))

begun-longer : (lines : List (List ℕ)) (line : List ℕ) (begun : ℕ) → IsBegun lines begun → IsBegun (lines ++ line ∷ []) begun
begun-longer [] line begun is = omega (arith, is)
begun-longer (first ∷ lines) line begun is = is

-- what is known of a queue: the octets written so far and those that are left are the texts of the
-- entries, and the first line has begun within its length
record Known (out : List ℕ) (lines : List (List ℕ)) (entries : List Entry) (queue : Queue) : Type 0 where
  whole : out ++ rest queue ≡ texts entries
  accounts : Accounts lines entries queue.dropped
  begun : IsBegun queue.lines queue.begun

-- an entry more at the end
taken : (out : List ℕ) (before lines : List (List ℕ)) (entries : List Entry) (queue : Queue) (entry : Entry) → Known out before entries queue → Accounts lines (entries ++ entry ∷ []) 0 → Known out lines (entries ++ entry ∷ []) (with_line queue (entry_text entry))
taken out before lines entries queue entry known is = record {
  whole = ap (λ (more : List ℕ). out ++ drop queue.begun more) (joined-append queue.lines (entry_text entry))
      ∙ (ap (λ (more : List ℕ). out ++ more) (drop-append-le queue.begun (joined queue.lines) (entry_text entry) (begun-within queue.lines queue.begun known.begun))
      ∙ (sym (append_assoc out (rest queue) (entry_text entry))
      ∙ (ap (λ (more : List ℕ). more ++ entry_text entry) known.whole ∙ sym (texts-append entries entry))));
  accounts = is;
  begun = begun-longer queue.lines (entry_text entry) queue.begun known.begun;
}

abbrev After : List ℕ → List (List ℕ) → Queue → Type 0
After out lines queue = (entries : List Entry) × Known out lines entries queue

and-left : (a b : Bool) → (a && b) ≡ true → a ≡ true
and-left true b e = refl
and-left false b e = e

offered-known : (out : List ℕ) (lines : List (List ℕ)) (entries : List Entry) (queue : Queue) (line : List ℕ) → Known out lines entries queue → After out (lines ++ line ∷ []) (offered queue line)
offered-known out lines entries queue line known = go (nat_eq queue.dropped 0 && has_room queue line) refl
  where
    go : (b : Bool) → (nat_eq queue.dropped 0 && has_room queue line) ≡ b → After out (lines ++ line ∷ []) (cond b (with_line queue line) (one_dropped queue))
    go true e =
        let none : queue.dropped ≡ 0 = eqb-true queue.dropped 0 (and-left (nat_eq queue.dropped 0) (has_room queue line) e) in
        (entries ++ Line line ∷ [], taken out lines (lines ++ line ∷ []) entries queue (Line line) known (kept lines entries queue.dropped line none known.accounts))
    go false e = (entries, record { whole = known.whole; accounts = lost lines entries queue.dropped line known.accounts; begun = known.begun })

reported-known : (out : List ℕ) (lines : List (List ℕ)) (entries : List Entry) (queue : Queue) (head : List ℕ) → Known out lines entries queue → After out lines (reported queue head)
reported-known out lines entries queue head known = go (nat_eq queue.dropped 0) (has_report_room queue (count_text head queue.dropped))
  where
    go : (a b : Bool) → After out lines (cond a queue (cond b (with_line queue (count_text head queue.dropped)) queue))
    go true b = (entries, known)
    go false true = (entries ++ Count head queue.dropped ∷ [], taken out lines lines entries queue (Count head queue.dropped) known (counted lines entries queue.dropped head known.accounts))
    go false false = (entries, known)

take_take : (m n : ℕ) (xs : List ℕ) → m ≤ n → take m (take n xs) ≡ take m xs
take_take zero n xs le = refl
take_take (suc m) zero xs le = absurd (omega (arith, le))
take_take (suc m) (suc n) [] le = refl
take_take (suc m) (suc n) (x ∷ xs) le = ap (λ (more : List ℕ). x ∷ more) (take_take m n xs (omega (arith, le)))

drop_more : (b m : ℕ) (xs : List ℕ) → drop (b + m) xs ≡ drop m (drop b xs)
drop_more zero m xs = let e : zero + m ≡ m = omega arith in ap (λ (n : ℕ). drop n xs) e
drop_more (suc b) m [] = drop-nil (suc b + m) ∙ sym (drop-nil m)
drop_more (suc b) m (x ∷ xs) = let e : suc b + m ≡ suc (b + m) = omega arith in ap (λ (n : ℕ). drop n (x ∷ xs)) e ∙ drop_more b m xs

-- a part of a line is written
part : (begun m : ℕ) (line later : List ℕ) → begun + m < length line → take m (drop begun line) ++ drop (begun + m) (line ++ later) ≡ drop begun (line ++ later)
part begun m line later fits =
    let seam : drop (begun + m) (line ++ later) ≡ drop (begun + m) line ++ later = drop-append-le (begun + m) line later (omega (arith, fits)) in
    let seam-all : drop begun (line ++ later) ≡ drop begun line ++ later = drop-append-le begun line later (omega (arith, fits)) in
    ap (λ (more : List ℕ). take m (drop begun line) ++ more) (seam ∙ ap (λ (more : List ℕ). more ++ later) (drop_more begun m line))
    ∙ (sym (append_assoc (take m (drop begun line)) (drop m (drop begun line)) later)
    ∙ (ap (λ (more : List ℕ). more ++ later) (take-append-drop m (drop begun line)) ∙ sym seam-all))

-- what a write takes of a line, and what is left
wrote : (begun dropped count : ℕ) (line : List ℕ) (lines : List (List ℕ)) → begun ≤ length line →
    take count (next_of (line ∷ lines) begun) ++ rest (written_of (line ∷ lines) begun dropped (min count (length (next_of (line ∷ lines) begun)))) ≡ drop begun (joined (line ∷ lines))
wrote begun dropped count line lines first = go (nat_lt (begun + m) (length line)) refl
  where
    left : List ℕ
    left = drop begun line

    next : List ℕ
    next = take MAX_WRITE left

    m : ℕ
    m = min count (length next)

    long : length left ≡ length line - begun
    long = length-drop begun line

    short : length next ≡ min MAX_WRITE (length left)
    short = length-take MAX_WRITE left

    go : (b : Bool) → nat_lt (begun + m) (length line) ≡ b → take count next ++ rest (cond b (record { lines = line ∷ lines; begun = begun + m; dropped = dropped }) (record { lines = lines; begun = 0; dropped = dropped })) ≡ drop begun (line ++ joined lines)
    go true e =
        let fits : begun + m < length line = ltb-true (begun + m) (length line) e in
        let most : m ≤ MAX_WRITE = let a : m ≤ length next = min-le_right count (length next) in let b : length next ≤ MAX_WRITE = rw short (min-le_left MAX_WRITE (length left)) in omega (arith, a, b) in
        ap (λ (more : List ℕ). more ++ drop (begun + m) (line ++ joined lines)) (sym (take_min count next) ∙ take_take m MAX_WRITE left most)
        ∙ part begun m line (joined lines) fits
    go false e =
        let full : length line ≤ begun + m = ltb-false (begun + m) (length line) e in
        let a : m ≤ length next = min-le_right count (length next) in
        let whole : length next ≡ length left = let b : length next ≤ length left = rw short (min-le_right MAX_WRITE (length left)) in omega (arith, a, b, long, full, first) in
        let all : next ≡ left = take_all MAX_WRITE left (let b : length next ≤ MAX_WRITE = rw short (min-le_left MAX_WRITE (length left)) in omega (arith, whole, b)) in
        let taken : take count next ≡ next = sym (take_min count next) ∙ take_all m next (omega (arith, a, whole, long, full, first)) in
        ap (λ (more : List ℕ). more ++ joined lines) (taken ∙ all) ∙ sym (drop-append-le begun line (joined lines) first)

written-begun : (lines : List (List ℕ)) (begun dropped m : ℕ) → IsBegun lines begun → IsBegun (written_of lines begun dropped m).lines (written_of lines begun dropped m).begun
written-begun [] begun dropped m is = is
written-begun (line ∷ lines) begun dropped m is = go (nat_lt (begun + m) (length line)) refl
  where
    start : (more : List (List ℕ)) → IsBegun more 0
    start [] = refl
    start (first ∷ more) = omega arith

    stepped : Bool → Queue
    stepped b = cond b (record { lines = line ∷ lines; begun = begun + m; dropped = dropped }) (record { lines = lines; begun = 0; dropped = dropped })

    go : (b : Bool) → nat_lt (begun + m) (length line) ≡ b → IsBegun (stepped b).lines (stepped b).begun
    go true e = let fits : begun + m < length line = ltb-true (begun + m) (length line) e in omega (arith, fits)
    go false e = start lines

written-dropped : (lines : List (List ℕ)) (begun dropped m : ℕ) → (written_of lines begun dropped m).dropped ≡ dropped
written-dropped [] begun dropped m = refl
written-dropped (line ∷ lines) begun dropped m = go (nat_lt (begun + m) (length line))
  where
    stepped : Bool → Queue
    stepped b = cond b (record { lines = line ∷ lines; begun = begun + m; dropped = dropped }) (record { lines = lines; begun = 0; dropped = dropped })

    go : (b : Bool) → (stepped b).dropped ≡ dropped
    go true = refl
    go false = refl

written-rest : (lines : List (List ℕ)) (begun dropped count : ℕ) → IsBegun lines begun → take count (next_of lines begun) ++ rest (written_of lines begun dropped (min count (length (next_of lines begun)))) ≡ drop begun (joined lines)
written-rest [] begun dropped count is = let none : List ℕ = [] in let small : length none ≤ count = omega arith in ap (λ (more : List ℕ). more ++ drop begun none) (take_all count none small)
written-rest (line ∷ lines) begun dropped count is = wrote begun dropped count line lines is

written-known : (out : List ℕ) (lines : List (List ℕ)) (entries : List Entry) (queue : Queue) (count : ℕ) → Known out lines entries queue → After (out ++ take count (next_octets queue)) lines (written queue count)
written-known out lines entries queue count known = (
  entries,
  record {
    whole = append_assoc out (take count (next_octets queue)) (rest (written queue count))
        ∙ (ap (λ (more : List ℕ). out ++ more) (written-rest queue.lines queue.begun queue.dropped count known.begun) ∙ known.whole);
    accounts = subst (λ (n : ℕ). Accounts lines entries n) (sym (written-dropped queue.lines queue.begun queue.dropped (min count (length (next_octets queue))))) known.accounts;
    begun = written-begun queue.lines queue.begun queue.dropped (min count (length (next_octets queue))) known.begun;
  },
)

all-known : (deeds : List Deed) (out : List ℕ) (lines : List (List ℕ)) (entries : List Entry) (queue : Queue) → Known out lines entries queue → After (out ++ all_out queue deeds) (lines ++ offers_of deeds) (after_all queue deeds)
all-known [] out lines entries queue known = (
  entries,
  record {
    whole = ap (λ (more : List ℕ). more ++ rest queue) (append-nil out) ∙ known.whole;
    accounts = subst (λ (ls : List (List ℕ)). Accounts ls entries queue.dropped) (sym (append-nil lines)) known.accounts;
    begun = known.begun;
  },
)
all-known (Offered line ∷ deeds) out lines entries queue known =
    let one = offered-known out lines entries queue line known in
    let all = all-known deeds out (lines ++ line ∷ []) one.0 (offered queue line) one.1 in
    subst (λ (ls : List (List ℕ)). After (out ++ all_out (offered queue line) deeds) ls (after_all (offered queue line) deeds)) (append_assoc lines (line ∷ []) (offers_of deeds)) all
all-known (Reported head ∷ deeds) out lines entries queue known =
    let one = reported-known out lines entries queue head known in
    all-known deeds out lines one.0 (reported queue head) one.1
all-known (Written count ∷ deeds) out lines entries queue known =
    let one = written-known out lines entries queue count known in
    let all = all-known deeds (out ++ take count (next_octets queue)) lines one.0 (written queue count) one.1 in
    subst (λ (more : List ℕ). After more (lines ++ offers_of deeds) (after_all (written queue count) deeds)) (append_assoc out (take count (next_octets queue)) (all_out (written queue count) deeds)) all

pub lines_are_accounted : LinesAreAccounted
lines_are_accounted deeds =
    let all = all-known deeds [] [] [] empty (record { whole = refl; accounts = refl; begun = refl }) in
    (all.0, all.1.whole, all.1.accounts)
