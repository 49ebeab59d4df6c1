-- What finish decides, by the octets of the file.
use Rattle.std.proofs.Common.{◌≡◌, ℕ, zero, suc, ◌+◌, ◌-◌, ◌<◌, ◌≤◌, min, Bool, true, false, cond, List, ◌++◌, length, take, refl, sym, ap, ◌∙◌, arith, Some, Result, Ok, Err, nat_lt, length-append}
use Rattle.std.proofs.lemmas.List.{length-take, take_all}
use Rattle.std.proofs.lemmas.Bool.{ltb-false}
use Rattle.std.specs.FinMap.{get}
use borrow.Author.Tests.{lt-ltb, ltb-true}
use Rattle.virtual_tree.specs.declared.fault.StoreFault.{StoreFault}
use Rattle.virtual_tree.specs.declared.fault.StoreFault.TheVariants as fault
use Rattle.virtual_tree.specs.Calls.{in_answer}
use Rattle.memory_store.specs.Held.{IsHeld}
use Rattle.memory_store.specs.Tree.{PathKey, Tree, size_at, total}
use Rattle.memory_store.specs.Tree.Node.{File}
use Rattle.memory_store.specs.InMemory.{Memory, Upload, Changes, left_by, filled, finish_octets}
use Rattle.memory_store.proofs.Trees.{total-insert, size_within}

-- a refusal that was decided
pub refuses : {P X : Type 0} (old : Memory) (decided : Result P StoreFault) (reported : P → X) (tree : P → Tree) (why : StoreFault) → decided ≡ Err why → Changes old (Err why) old decided reported tree
refuses old decided reported tree why is = (λ other. (sym (ap (in_answer reported) is), sym (ap (left_by old tree) is)), λ memory. refl)

-- a change that was decided
pub succeeds : {P X : Type 0} (old new : Memory) (decided : Result P StoreFault) (reported : P → X) (tree : P → Tree) (p : P) → decided ≡ Ok p → new ≡ record { tree = tree p; capacity = old.capacity } → Changes old (Ok (reported p)) new decided reported tree
succeeds {P} {X} old new decided reported tree p is after =
    (λ other. (sym (ap (in_answer reported) is), after ∙ sym (ap (left_by old tree) is)), λ memory. absurd (never memory))
  where
    never : (let answer : Result X StoreFault = Ok (reported p) in answer) ≡ Err fault.Memory → ⊥
    never e = cc

pub decided_full : (old : Memory) (upload : Upload) (moment : ℕ) (octets : List ℕ) → nat_lt old.capacity (total (filled old.tree upload moment octets)) ≡ true → finish_octets old upload moment (Some octets) ≡ Err fault.Full
decided_full old upload moment octets is =
    ap (λ b. cond b (Err fault.Full) (cond (nat_lt (length octets) upload.kept) (Err fault.PastEnd) (Ok (filled old.tree upload moment octets)))) is

pub decided_past : (old : Memory) (upload : Upload) (moment : ℕ) (octets : List ℕ) → nat_lt old.capacity (total (filled old.tree upload moment octets)) ≡ false → nat_lt (length octets) upload.kept ≡ true → finish_octets old upload moment (Some octets) ≡ Err fault.PastEnd
decided_past old upload moment octets fits past =
    ap (λ b. cond b (Err fault.Full) (cond (nat_lt (length octets) upload.kept) (Err fault.PastEnd) (Ok (filled old.tree upload moment octets)))) fits
    ∙ ap (λ b. cond b (Err fault.PastEnd) (Ok (filled old.tree upload moment octets))) past

pub decided_filled : (old : Memory) (upload : Upload) (moment : ℕ) (octets : List ℕ) → nat_lt old.capacity (total (filled old.tree upload moment octets)) ≡ false → nat_lt (length octets) upload.kept ≡ false → finish_octets old upload moment (Some octets) ≡ Ok (filled old.tree upload moment octets)
decided_filled old upload moment octets fits within =
    ap (λ b. cond b (Err fault.Full) (cond (nat_lt (length octets) upload.kept) (Err fault.PastEnd) (Ok (filled old.tree upload moment octets)))) fits
    ∙ ap (λ b. cond b (Err fault.PastEnd) (Ok (filled old.tree upload moment octets))) within

sums : (after before all kept came : ℕ) → after + before ≡ all + (kept + came) → before ≤ all → all - before + kept + came ≡ after
sums after before all kept came sum within = omega arith

pub held_within : (tree : Tree) (p : PathKey) (octets : List ℕ) → size_at (get tree p) ≡ length octets → length octets ≤ total tree
held_within tree p octets is = size_within tree p (total tree) (length octets) refl (sym is)

-- what the files hold afterwards
pub filled_total : (old : Memory) (upload : Upload) (moment : ℕ) (octets : List ℕ) → size_at (get old.tree upload.key) ≡ length octets
    → total old.tree - length octets + min upload.kept (length octets) + length upload.octets ≡ total (filled old.tree upload moment octets)
filled_total old upload moment octets is =
    sums (total (filled old.tree upload moment octets)) (length octets) (total old.tree) (min upload.kept (length octets)) (length upload.octets)
    (ap (λ n. total (filled old.tree upload moment octets) + n) (sym is)
    ∙ total-insert old.tree upload.key (File (take upload.kept octets ++ upload.octets) moment)
    ∙ ap (λ n. total old.tree + n) (length-append (take upload.kept octets) upload.octets ∙ ap (λ n. n + length upload.octets) (length-take upload.kept octets)))
    (held_within old.tree upload.key octets is)

-- as it is counted
pub passed_is : (old : Memory) (upload : Upload) (moment : ℕ) (octets : List ℕ) (first came : ℕ) → size_at (get old.tree upload.key) ≡ length octets → first ≡ min upload.kept (length octets) → came ≡ length upload.octets
    → total old.tree - length octets + first + came ≡ total (filled old.tree upload moment octets)
passed_is old upload moment octets first came is first_is came_is =
    ap (λ n. total old.tree - length octets + first + n) came_is
    ∙ ap (λ n. total old.tree - length octets + n + length upload.octets) first_is ∙ filled_total old upload moment octets is

above : (capacity first came after : ℕ) → first + came ≡ after → capacity < came → capacity < after
above capacity first came after sum more = omega arith

-- more was received than the capacity
pub more_passes : (old : Memory) (upload : Upload) (moment : ℕ) (octets : List ℕ) → size_at (get old.tree upload.key) ≡ length octets → old.capacity < length upload.octets
    → nat_lt old.capacity (total (filled old.tree upload moment octets)) ≡ true
more_passes old upload moment octets is more =
    lt-ltb old.capacity (total (filled old.tree upload moment octets))
    (above old.capacity (total old.tree - length octets + min upload.kept (length octets)) (length upload.octets) (total (filled old.tree upload moment octets))
    (filled_total old upload moment octets is) more)

between : (capacity most came : ℕ) → capacity ≤ most → most < came → capacity < came
between capacity most came within more = omega arith

-- more was received than a sink holds, and the capacity is no greater
pub cut_passes : (old : Memory) (upload : Upload) (moment : ℕ) (octets : List ℕ) → size_at (get old.tree upload.key) ≡ length octets → old.capacity ≤ upload.most → nat_lt upload.most (length upload.octets) ≡ true
    → nat_lt old.capacity (total (filled old.tree upload moment octets)) ≡ true
cut_passes old upload moment octets is within cut =
    more_passes old upload moment octets is (between old.capacity upload.most (length upload.octets) within (ltb-true upload.most (length upload.octets) cut))

-- what a sink holds, where it received no more
pub held_whole : (upload seen : Upload) (held : List ℕ) (is_cut : Bool) → seen ≡ upload → IsHeld seen.most held is_cut seen.octets → nat_lt upload.most (length upload.octets) ≡ false → held ≡ upload.octets
held_whole upload seen held is_cut same is whole =
    is.first ∙ take_all seen.most seen.octets (ltb-false seen.most (length seen.octets) (ap (λ (u : Upload). nat_lt u.most (length u.octets)) same ∙ whole)) ∙ ap (λ (u : Upload). u.octets) same

pub held_count : (most : ℕ) (held : List ℕ) (is_cut : Bool) (received : List ℕ) → IsHeld most held is_cut received → length held ≡ min most (length received)
held_count most held is_cut received is = ap length is.first ∙ length-take most received

-- where nothing stays, what came is all
pub none_kept : (kept : ℕ) (first others joined : List ℕ) → kept ≡ 0 → joined ≡ others → joined ≡ take kept first ++ others
none_kept zero first others joined none is = is
none_kept (suc kept) first others joined none is = absurd (omega arith)
