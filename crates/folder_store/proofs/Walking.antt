-- Walks down a folder.
use Rattle.std.proofs.Common.{◌≡◌, ◌+◌, ◌<◌, ◌≤◌, ◌++◌, ◌∷◌, [], ℕ, zero, suc, ℤ, List, length, map, drop, get_or, Option, refl, sym, ap, subst, ◌∙◌, arith, Result, Ok, Err}
use Rattle.std.specs.Result.{IfOk, OnOk}
use Rattle.ftp_terms.specs.declared.entries.Meta.{Meta}
use Rattle.virtual_path.specs.Path.{Path}
use Rattle.folder_store.specs.MachineCalls.{MachineCall}
use Rattle.folder_store.specs.Moving.{MovesToFree}
use Rattle.folder_store.specs.declared.fault.MachineFault.{MachineFault}
use Rattle.ftp_terms.specs.declared.entries.EntryKind.{EntryKind}
use Rattle.folder_store.specs.Served.{AtPlace, ShowsMeta, StatsEntry}
use Rattle.folder_store.specs.Walks.{StepsInto, Walker, Walks, WalksTo}

pub if_ok : {X E : Type 0} (r : Result X E) {P Q : X → Type 0} → ((x : X) → P x → Q x) → IfOk r P → IfOk r Q
if_ok (Ok x) f h = f x h
if_ok (Err e) f h = tt

pub drop_at : {B : Type 0} (xs : List B) (i : ℕ) (other : B) → i < length xs → drop i xs ≡ get_or xs i other ∷ drop (i + 1) xs
drop_at [] i other less = absurd (omega arith)
drop_at (x ∷ xs) zero other less = refl
drop_at (x ∷ xs) (suc i) other less =
    let next : suc i + 1 ≡ suc (i + 1) = omega arith in
    drop_at xs i other (omega arith) ∙ ap (λ (n : ℕ). get_or xs i other ∷ drop n (x ∷ xs)) (sym next)

pub drop_past : {B : Type 0} (xs : List B) (i : ℕ) → length xs ≤ i → drop i xs ≡ []
drop_past [] zero past = refl
drop_past [] (suc i) past = refl
drop_past (x ∷ xs) zero past = absurd (omega arith)
drop_past (x ∷ xs) (suc i) past = drop_past xs i (omega arith)

-- one directory further, and then the others
pub walks_next : {M F D B : Type 0} (Does : M → MachineCall F D → M → Type 0) (number : D → Option ℤ) (text_of : B → List ℕ) (names : List B) (i : ℕ) (other : B) (old mid new : Walker M) (place next end : List ℕ) → i < length names
    → StepsInto Does number old (place ++ 47 ∷ text_of (get_or names i other)) next mid → Walks Does number mid next (map text_of (drop (i + 1) names)) end new
    → Walks Does number old place (map text_of (drop i names)) end new
walks_next Does number text_of names i other old mid new place next end within step rest =
    subst (λ ns. Walks Does number old place (map text_of ns) end new) (sym (drop_at names i other within)) (next, mid, step, rest)

-- no directory is left
pub walks_end : {M F D B : Type 0} (Does : M → MachineCall F D → M → Type 0) (number : D → Option ℤ) (text_of : B → List ℕ) (names : List B) (i : ℕ) (old : Walker M) (place : List ℕ) → length names ≤ i
    → Walks Does number old place (map text_of (drop i names)) place old
walks_end Does number text_of names i old place past = subst (λ ns. Walks Does number old place (map text_of ns) place old) (sym (drop_past names i past)) (refl, refl)

pub on_ok : {X E : Type 0} (r : Result X E) {P Q : Type 0} → (P → Q) → OnOk r P → OnOk r Q
on_ok (Ok x) f h = f h
on_ok (Err e) f h = tt

-- what was done at the place that was walked to
pub at_place : {M F D : Type 0} (Does : M → MachineCall F D → M → Type 0) (number : D → Option ℤ) (old there new : Walker M) (folder : List ℕ) (path : Path) (place text : List ℕ) (Then : M → List ℕ → M → Type 0)
    → WalksTo Does number old folder path place there → text ≡ place → new.numbered ≡ there.numbered → Then there.machine text new.machine → AtPlace Does number old folder path Then new
at_place Does number old there new folder path place text Then walked is proc done =
    (place, there, walked, subst (λ (p : List ℕ). Then there.machine p new.machine) is done, proc)

pub stats_below : {M F D : Type 0} (Does : M → MachineCall F D → M → Type 0) (number : D → Option ℤ) (old new : Walker M) (folder : List ℕ) (path : Path) (meta : Meta) → (path ≡ [] → ⊥)
    → AtPlace Does number old folder path (λ here place after. ShowsMeta Does here place meta after) new → StatsEntry Does number old folder path meta new
stats_below Does number old new folder [] meta below shown = absurd (below refl)
stats_below Does number old new folder (name ∷ names) meta below shown = shown

pub moved_ok : {M F D : Type 0} (Does : M → MachineCall F D → M → Type 0) (old : M) (kind : EntryKind) (from to : List ℕ) (r : Result (Unit {0}) MachineFault) (new : M) → MovesToFree Does old kind from to r new
    → OnOk r (MovesToFree {T = Unit {0}} {E = MachineFault} Does old kind from to (Ok tt) new)
moved_ok Does old kind from to (Ok done) new moved = moved
moved_ok Does old kind from to (Err fault) new moved = tt
