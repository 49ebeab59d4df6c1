-- Proofs, not definitions to be believed: each step of a store in memory keeps the laws of the
-- trait `Store`. They are here since the toolchain wants the proof of a trait's law among the
-- definitions.
use Rattle.std.proofs.Common.{◌≡◌, ◌≢◌, ℕ, eqb, eq-eqb, ◌<◌, Bool, true, false, cond, not, T, List, [], Option, Some, None, Result, Ok, Err, length, nat_lt, unwrap_or, lit<, ◌^◌, option_and_then, refl, sym, ap, ◌∙◌, subst}
use borrow.Author.Tests.{ltb-true}
use Rattle.std.specs.Result.{result_err}
use Rattle.std.specs.FinMap.{get}
use Rattle.virtual_path.specs.Path.{Path}
use Rattle.virtual_tree.specs.declared.fault.StoreFault.{StoreFault}
use Rattle.virtual_tree.specs.declared.fault.StoreFault.TheVariants as fault
use Rattle.ftp_terms.specs.declared.entries.EntryKind.{EntryKind}
use Rattle.ftp_terms.specs.declared.entries.EntryKind.TheVariants as kind
use Rattle.virtual_tree.specs.declared.mode.WriteMode.{WriteMode}
use Rattle.virtual_tree.specs.declared.mode.WriteMode.TheVariants.{New, At, Append}
use Rattle.virtual_tree.specs.Calls.{in_answer, Exchange, refusal, PassesCapacity}
use Rattle.virtual_tree.specs.Calls.Exchange.{Stat, Listing, OpenRead, OpenWrite, Finish, MakeDir, RemoveDir, RemoveFile, Rename}
use Rattle.memory_store.specs.Tree.{Node, PathKey, Tree, key_of, node_at, octets_of, total, begins_with}
use Rattle.memory_store.specs.InMemory.{Memory, Upload, Move, InMemory, would_hold, if_found, meta_reported, listing_reported, octets_from, vacancy, vacant, key_to_make, bare_only, is_bare, key_of_bare, file_only, key_of_file, outside_itself, move_to, move_of, open_new, open_absent, open_octets, open_node, opened, filled, unit_of, finish_octets, finish_node, finished, octets_at}

-- neither `Device` nor `Full`
abbrev is_plain : StoreFault → Bool
is_plain fault.Full = false
is_plain fault.Device = false
is_plain _ = true

both_ways : (b : Bool) → T (not b) → T b → ⊥
both_ways true h p = h
both_ways false h p = p

-- numbers that distinguish faults
abbrev fault_number : StoreFault → ℕ
fault_number fault.NotFound = 1
fault_number fault.NotDir = 2
fault_number fault.IsDir = 3
fault_number fault.Exists = 4
fault_number fault.NotEmpty = 5
fault_number fault.Full = 6
fault_number fault.Device = 7
fault_number fault.Memory = 8
fault_number fault.PastEnd = 9
fault_number fault.Inside = 10

differ : (a b : ℕ) → T (not (eqb a b)) → a ≡ b → ⊥
differ a b other e = both_ways (eqb a b) other (subst T (sym (eq-eqb a b e)) tt)

abbrev Plain : {X : Type 0} → Result X StoreFault → Type 0
Plain (Ok x) = Unit {0}
Plain (Err why) = T (is_plain why)

plain-cond : {X : Type 0} (b : Bool) (x y : Result X StoreFault) → Plain x → Plain y
    → Plain (cond b x y)
plain-cond true x y p q = p
plain-cond false x y p q = q

plain-if_found : {X : Type 0} (answer : Node → Result X StoreFault)
    → ((node : Node) → Plain (answer node)) → (found : Option Node) → Plain (if_found answer found)
plain-if_found answer h None = tt
plain-if_found answer h (Some node) = h node

plain-listing : (tree : Tree) (path : Path) (found : Option EntryKind)
    → Plain (listing_reported tree path found)
plain-listing tree path None = tt
plain-listing tree path (Some kind.File) = tt
plain-listing tree path (Some kind.Directory) = tt

plain-octets_from : (offset : ℕ) (octets : Option (List ℕ)) → Plain (octets_from offset octets)
plain-octets_from offset None = tt
plain-octets_from offset (Some octets) = plain-cond (nat_lt (length octets) offset) _ _ tt tt

plain-vacancy : (key : PathKey) (above here : Option EntryKind) → Plain (vacancy key above here)
plain-vacancy key None here = tt
plain-vacancy key (Some kind.File) here = tt
plain-vacancy key (Some kind.Directory) (Some found) = tt
plain-vacancy key (Some kind.Directory) None = tt

plain-vacant : (tree : Tree) (path : Path) (key : PathKey) → Plain (vacant tree path key)
plain-vacant tree path key = plain-vacancy key _ _

plain-key_to_make : (tree : Tree) (path : Path) (key : Option PathKey)
    → Plain (key_to_make tree path key)
plain-key_to_make tree path None = tt
plain-key_to_make tree path (Some key) = plain-vacant tree path key

plain-bare_only : (bare : Bool) (key : PathKey) (found : Option EntryKind)
    → Plain (bare_only bare key found)
plain-bare_only bare key None = tt
plain-bare_only bare key (Some kind.File) = tt
plain-bare_only bare key (Some kind.Directory) = plain-cond bare _ _ tt tt

plain-key_of_bare : (tree : Tree) (path : Path) (key : Option PathKey)
    → Plain (key_of_bare tree path key)
plain-key_of_bare tree path None = tt
plain-key_of_bare tree path (Some key) = plain-bare_only (is_bare tree path) key _

plain-file_only : (key : PathKey) (found : Option EntryKind) → Plain (file_only key found)
plain-file_only key None = tt
plain-file_only key (Some kind.File) = tt
plain-file_only key (Some kind.Directory) = tt

plain-key_of_file : (tree : Tree) (key : Option PathKey) → Plain (key_of_file tree key)
plain-key_of_file tree None = tt
plain-key_of_file tree (Some key) = plain-file_only key _

plain-outside : (from to : Path) (move : Move) (found : Result PathKey StoreFault) → Plain found
    → Plain (outside_itself from to move found)
plain-outside from to move (Err why) p = p
plain-outside from to move (Ok key) p =
    plain-cond (begins_with from to) (Err fault.Inside) (Ok move) tt tt

plain-move_of : (tree : Tree) (from to : Path) (before afterwards : Option PathKey)
    → Plain (move_of tree from to before afterwards)
plain-move_of tree from to None afterwards = tt
plain-move_of tree from to (Some before) None = tt
plain-move_of tree from to (Some before) (Some afterwards) =
    plain-if_found (move_to tree from to before afterwards)
    (λ node. plain-outside from to _ _ (plain-vacant tree to afterwards)) (get tree before)

plain-open_new : (tree : Tree) (moment : ℕ) (found : Result PathKey StoreFault) → Plain found
    → Plain (open_new tree moment found)
plain-open_new tree moment (Err why) p = p
plain-open_new tree moment (Ok key) p = tt

plain-open_absent : (tree : Tree) (path : Path) (key : PathKey) (moment : ℕ) (mode : WriteMode)
    → Plain (open_absent tree path key moment mode)
plain-open_absent tree path key moment New =
    plain-open_new tree moment _ (plain-vacant tree path key)
plain-open_absent tree path key moment (At offset) = tt
plain-open_absent tree path key moment Append =
    plain-open_new tree moment _ (plain-vacant tree path key)

plain-open_octets : (tree : Tree) (key : PathKey) (moment : ℕ) (mode : WriteMode)
    (octets : Option (List ℕ)) → Plain (open_octets tree key moment mode octets)
plain-open_octets tree key moment mode None = tt
plain-open_octets tree key moment New (Some octets) = tt
plain-open_octets tree key moment (At offset) (Some octets) =
    plain-cond (nat_lt (length octets) offset) _ _ tt tt
plain-open_octets tree key moment Append (Some octets) = tt

plain-open_node : (tree : Tree) (path : Path) (key : PathKey) (moment : ℕ) (mode : WriteMode)
    (found : Option Node) → Plain (open_node tree path key moment mode found)
plain-open_node tree path key moment mode None = plain-open_absent tree path key moment mode
plain-open_node tree path key moment mode (Some node) =
    plain-open_octets tree key moment mode (octets_of node)

plain-opened : (tree : Tree) (path : Path) (mode : WriteMode) (moment : ℕ) (key : Option PathKey)
    → Plain (opened tree path mode moment key)
plain-opened tree path mode moment None = tt
plain-opened tree path mode moment (Some key) =
    plain-open_node tree path key moment mode (get tree key)

-- ---- a result's fault is plain if the decision's is

abbrev refused : (X : Type 0) → StoreFault → Result X StoreFault
refused X why = Err why

err_same : (X : Type 0) (a b : StoreFault) → refused X a ≡ refused X b → a ≡ b
err_same X a b e = cc

never_ok : (X : Type 0) (why : StoreFault) (x : X) → refused X why ≡ Ok x → ⊥
never_ok X why x e = cc

some_same : (a b : StoreFault) → Some a ≡ Some b → a ≡ b
some_same a b e = cc

nothing_some : (b : StoreFault) → None ≡ Some b → ⊥
nothing_some b e = cc

not_plain : (X : Type 0) (why : StoreFault) (wanted : Result X StoreFault) → T (not (is_plain why))
    → Plain wanted → refused X why ≡ wanted → ⊥
not_plain X why (Ok x) h p e = never_ok X why x e
not_plain X why (Err other) h p e =
    both_ways (is_plain why) h (subst T (sym (ap is_plain (err_same X why other e))) p)

plain-in_answer : {X P : Type 0} (reported : P → X) (decided : Result P StoreFault) → Plain decided
    → Plain (in_answer reported decided)
plain-in_answer reported (Ok x) p = tt
plain-in_answer reported (Err why) p = p

-- a fault that is neither plain nor lack of memory
pub record IsGrave (why : StoreFault) : Type 0 where
  pub not_plain : T (not (is_plain why))
  pub not_memory : why ≢ fault.Memory

-- the decision, if the result is such a fault
wanted_by : (X : Type 0) (answer wanted : Result X StoreFault) (why : StoreFault)
    → why ≢ fault.Memory → (answer ≢ Err fault.Memory → answer ≡ wanted)
    → result_err answer ≡ Some why → refused X why ≡ wanted
wanted_by X (Ok x) wanted why other reported is = absurd (nothing_some why is)
wanted_by X (Err found) wanted why other reported is =
    let same : found ≡ why = some_same found why is in
    ap (refused X) (sym same) ∙ reported
    (λ memory. other (sym same ∙ err_same X found fault.Memory memory))

refused_by : {X : Type 0} (answer wanted : Result X StoreFault) (why : StoreFault) → IsGrave why
    → Plain wanted → (answer ≢ Err fault.Memory → answer ≡ wanted) → result_err answer ≡ Some why
    → ⊥
refused_by {X} answer wanted why grave p reported is =
    not_plain X why wanted grave.not_plain p
    (wanted_by X answer wanted why grave.not_memory reported is)

abbrev OnlyFinish : Exchange (List ℕ) Upload → Type 0
OnlyFinish (Finish upload moment answer) = Unit {0}
OnlyFinish _ = ⊥

-- any refusal except one of Finish is plain
plain_step : (old new : Memory) (exchange : Exchange (List ℕ) Upload) (why : StoreFault)
    → IsGrave why → InMemory old exchange new → refusal exchange ≡ Some why → OnlyFinish exchange
plain_step old new (Stat path answer) why grave step is =
    (refused_by answer _ why grave
    (plain-if_found meta_reported (λ node. tt) (node_at old.tree path)) step.0 is)
plain_step old new (Listing path answer) why grave step is =
    (refused_by answer _ why grave (plain-listing old.tree path _) step.0 is)
plain_step old new (OpenRead path offset answer) why grave step is =
    (refused_by answer _ why grave
    (plain-if_found (λ node. octets_from offset (octets_of node))
    (λ node. plain-octets_from offset (octets_of node)) (node_at old.tree path)) step.0 is)
plain_step old new (OpenWrite path mode moment answer) why grave step is =
    (refused_by answer _ why grave
    (plain-in_answer _ _ (plain-opened old.tree path mode moment (key_of path)))
    (λ other. (step.0 other).0) is)
plain_step old new (Finish upload moment answer) why grave step is = tt
plain_step old new (MakeDir path answer) why grave step is =
    (refused_by answer _ why grave
    (plain-in_answer _ _ (plain-key_to_make old.tree path (key_of path)))
    (λ other. (step.0 other).0) is)
plain_step old new (RemoveDir path answer) why grave step is =
    (refused_by answer _ why grave
    (plain-in_answer _ _ (plain-key_of_bare old.tree path (key_of path)))
    (λ other. (step.0 other).0) is)
plain_step old new (RemoveFile path answer) why grave step is =
    (refused_by answer _ why grave
    (plain-in_answer _ _ (plain-key_of_file old.tree (key_of path)))
    (λ other. (step.0 other).0) is)
plain_step old new (Rename from to answer) why grave step is =
    (refused_by answer _ why grave
    (plain-in_answer _ _ (plain-move_of old.tree from to (key_of from) (key_of to)))
    (λ other. (step.0 other).0) is)

-- ---- Finish

-- not `Device`; and `Full` only above the capacity
record IsFinish (memory : Memory) (after : ℕ) (decided : Result Tree StoreFault) : Type 0 where
  not_device : decided ≡ refused Tree fault.Device → ⊥
  full : decided ≡ refused Tree fault.Full → memory.capacity < after

apart : (a b : StoreFault) → fault_number a ≢ fault_number b → refused Tree a ≡ refused Tree b → ⊥
apart a b other e = other (ap fault_number (err_same Tree a b e))

finish-past : (memory : Memory) (after : ℕ) (tree : Tree) (b : Bool)
    → IsFinish memory after (cond b (Err fault.PastEnd) (Ok tree))
finish-past memory after tree true = record {
  not_device = apart fault.PastEnd fault.Device (λ e. differ 9 7 tt e);
  full = λ e. absurd (apart fault.PastEnd fault.Full (λ e. differ 9 6 tt e) e);
}
finish-past memory after tree false = record {
  not_device = λ e. never_ok Tree fault.Device tree (sym e);
  full = λ e. absurd (never_ok Tree fault.Full tree (sym e));
}

finish-full : (memory : Memory) (after : ℕ) (tree : Tree) (past passed : Bool)
    → nat_lt memory.capacity after ≡ passed
    → IsFinish memory after (cond passed (Err fault.Full) (cond past (Err fault.PastEnd) (Ok tree)))
finish-full memory after tree past true is = record {
  not_device = apart fault.Full fault.Device (λ e. differ 6 7 tt e);
  full = λ e. ltb-true memory.capacity after is;
}
finish-full memory after tree past false is = finish-past memory after tree past

finish-octets : (memory : Memory) (upload : Upload) (moment : ℕ) (octets : Option (List ℕ))
    → IsFinish memory (total (filled memory.tree upload moment (unwrap_or octets [])))
    (finish_octets memory upload moment octets)
finish-octets memory upload moment None = record {
  not_device = apart fault.IsDir fault.Device (λ e. differ 3 7 tt e);
  full = λ e. absurd (apart fault.IsDir fault.Full (λ e. differ 3 6 tt e) e);
}
finish-octets memory upload moment (Some octets) =
    finish-full memory (total (filled memory.tree upload moment octets))
    (filled memory.tree upload moment octets) (nat_lt (length octets) upload.kept)
    (nat_lt memory.capacity (total (filled memory.tree upload moment octets))) refl

finish-node : (memory : Memory) (upload : Upload) (moment : ℕ) (found : Option Node)
    → IsFinish memory
    (total (filled memory.tree upload moment (unwrap_or (option_and_then octets_of found) [])))
    (if_found (finish_node memory upload moment) found)
finish-node memory upload moment None = record {
  not_device = apart fault.NotFound fault.Device (λ e. differ 1 7 tt e);
  full = λ e. absurd (apart fault.NotFound fault.Full (λ e. differ 1 6 tt e) e);
}
finish-node memory upload moment (Some node) = finish-octets memory upload moment (octets_of node)

finish-step : (memory : Memory) (upload : Upload) (moment : ℕ)
    → IsFinish memory (total (filled memory.tree upload moment (octets_at memory.tree upload.key)))
    (finished memory upload moment)
finish-step memory upload moment = finish-node memory upload moment (get memory.tree upload.key)

err_from : {P X : Type 0} (reported : P → X) (decided : Result P StoreFault) (why : StoreFault)
    → refused X why ≡ in_answer reported decided → decided ≡ Err why
err_from {P} {X} reported (Ok x) why e = absurd (never_ok X why (reported x) e)
err_from {P} {X} reported (Err other) why e = ap (refused P) (sym (err_same X why other e))

device_is_grave : IsGrave fault.Device
device_is_grave = record { not_plain = tt; not_memory = λ e. differ 7 8 tt (ap fault_number e) }

full_is_grave : IsGrave fault.Full
full_is_grave = record { not_plain = tt; not_memory = λ e. differ 6 8 tt (ap fault_number e) }

-- the decision, if the result is a fault other than lack of memory
decided_by : (old new : Memory) (upload : Upload) (moment : ℕ)
    (answer : Result (Unit {0}) StoreFault) (why : StoreFault) → why ≢ fault.Memory
    → InMemory old (Finish upload moment answer) new → result_err answer ≡ Some why
    → finished old upload moment ≡ Err why
decided_by old new upload moment answer why other step is =
    err_from unit_of (finished old upload moment) why
    (wanted_by (Unit {0}) answer (in_answer unit_of (finished old upload moment)) why other
    (λ reported. (step.0 reported).0) is)

pub never_device : (old new : Memory) (exchange : Exchange (List ℕ) Upload)
    → InMemory old exchange new → refusal exchange ≡ Some fault.Device → ◌≢◌ {A = ℕ} 0 0
never_device old new (Finish upload moment answer) step is =
    absurd ((finish-step old upload moment).not_device
    (decided_by old new upload moment answer fault.Device device_is_grave.not_memory step is))
never_device old new exchange step is =
    absurd (plain_step old new exchange fault.Device device_is_grave step is)

pub full_only_past : (old new : Memory) (exchange : Exchange (List ℕ) Upload)
    → InMemory old exchange new → refusal exchange ≡ Some fault.Full
    → PassesCapacity (Some old.capacity) (would_hold old) exchange
full_only_past old new (Finish upload moment answer) step is =
    (finish-step old upload moment).full
    (decided_by old new upload moment answer fault.Full full_is_grave.not_memory step is)
full_only_past old new exchange step is =
    absurd (plain_step old new exchange fault.Full full_is_grave step is)

pub count_is_small : (store : Memory) → 0 < 2 ^ 64
count_is_small store = lit< tt
