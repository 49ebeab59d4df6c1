-- Amounts dealt to lanes, one by one.
use Rattle.std.proofs.Common.{◌≡◌, ◌≢◌, ℕ, zero, suc, ◌<◌, List, [], ◌∷◌, length, drop, get_or, set, sym, refl, ap, ◌∙◌, subst, arith, Some}
use Rattle.std.specs.Prelude.{slice_get, slice_index_or}
use Rattle.std.proofs.Math.Seq.{drop-cons}
use Rattle.grant_ledger.specs.Books.{NamesNot}
use Rattle.world_terms.specs.Decisions.{with_amount}
use Rattle.world_terms.specs.Lanes.{Lane, new_lane}
use Rattle.share_world.specs.Shares.{AreOpen, IsOpen, dealt}

pub less_of : (ls : List Lane) (i : ℕ) (l : Lane) → slice_get ls i ≡ Some l → i < length ls
less_of [] i l e = absurd (cc)
less_of (x ∷ ls) zero l e = omega arith
less_of (x ∷ ls) (suc i) l e = omega (arith, less_of ls i l e)

pub same_at : (ls : List Lane) (i : ℕ) (l x d : Lane) → slice_get ls i ≡ Some l → x ≡ get_or ls i d → x ≡ l
same_at [] i l x d e f = absurd (cc)
same_at (y ∷ ls) zero l x d e f = cc
same_at (y ∷ ls) (suc i) l x d e f = same_at ls i l x d e f

pub get_other : (ls : List Lane) (i j : ℕ) (m : Lane) → j ≢ i → slice_get (set ls i m) j ≡ slice_get ls j
get_other [] i j m ne = refl
get_other (x ∷ ls) zero zero m ne = absurd (ne refl)
get_other (x ∷ ls) zero (suc j) m ne = refl
get_other (x ∷ ls) (suc i) zero m ne = refl
get_other (x ∷ ls) (suc i) (suc j) m ne = get_other ls i j m (λ e. ne (ap suc e))

pub get_here : (ls : List Lane) (i : ℕ) (l m : Lane) → slice_get ls i ≡ Some l → slice_get (set ls i m) i ≡ Some m
get_here [] i l m e = absurd (cc)
get_here (x ∷ ls) zero l m e = refl
get_here (x ∷ ls) (suc i) l m e = get_here ls i l m e

-- what is left to deal, from the first on
pub left_at : (numbers : List ℕ) (i : ℕ) (ls : List Lane) → i < length numbers → AreOpen (drop i numbers) ls → AreOpen (get_or numbers i 0 ∷ drop (suc i) numbers) ls
left_at numbers i ls less h = subst (λ (ns : List ℕ). AreOpen ns ls) (drop-cons numbers i 0 less) h

still_open : (i j : ℕ) (ls : List Lane) (m : Lane) → j ≢ i → IsOpen j ls → IsOpen j (set ls i m)
still_open i j ls m ne h = record { lane = h.lane; there = get_other ls i j m ne ∙ h.there; round = h.round; posted = h.posted }

pub others_open : (i : ℕ) (numbers : List ℕ) (ls : List Lane) (m : Lane) → NamesNot i numbers → AreOpen numbers ls → AreOpen numbers (set ls i m)
others_open i [] ls m ne h = tt
others_open i (j ∷ numbers) ls m ne h = (still_open i j ls m (λ e. ne.0 (sym e)) h.0, h.1, others_open i numbers ls m ne.1 h.2)

pub due_step : (numbers : List ℕ) (i k : ℕ) (ls : List Lane) (m : Lane) → k ≡ suc i → i < length numbers → AreOpen (drop i numbers) ls → AreOpen (drop k numbers) (set ls (get_or numbers i 0) m)
due_step numbers i k ls m next less h =
    let left = left_at numbers i ls less h in
    subst (λ (n : ℕ). AreOpen (drop n numbers) (set ls (get_or numbers i 0) m)) (sym next) (others_open (get_or numbers i 0) (drop (suc i) numbers) ls m left.1 left.2)

pub rest_step : (numbers amounts : List ℕ) (i k : ℕ) (ls : List Lane) (x m : Lane) (all : List Lane) → k ≡ suc i → i < length numbers → length numbers ≡ length amounts
    → x ≡ slice_index_or ls (get_or numbers i 0) new_lane → m ≡ with_amount (get_or amounts i 0) x
    → dealt (drop i numbers) (drop i amounts) ls ≡ all → dealt (drop k numbers) (drop k amounts) (set ls (get_or numbers i 0) m) ≡ all
rest_step numbers amounts i k ls x m all next less each here given rest =
    let amount_less : i < length amounts = omega arith in
    let opened : dealt (get_or numbers i 0 ∷ drop (suc i) numbers) (get_or amounts i 0 ∷ drop (suc i) amounts) ls ≡ all =
    sym (ap (λ (ns : List ℕ). dealt ns (get_or amounts i 0 ∷ drop (suc i) amounts) ls) (drop-cons numbers i 0 less))
    ∙ sym (ap (λ (xs : List ℕ). dealt (drop i numbers) xs ls) (drop-cons amounts i 0 amount_less)) ∙ rest in
    ap (λ (n : ℕ). dealt (drop n numbers) (drop n amounts) (set ls (get_or numbers i 0) m)) next
    ∙ ap (λ (y : Lane). dealt (drop (suc i) numbers) (drop (suc i) amounts) (set ls (get_or numbers i 0) y)) (given ∙ ap (with_amount (get_or amounts i 0)) here)
    ∙ opened
