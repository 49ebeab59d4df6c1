-- What an upload leaves.
use Rattle.std.proofs.Common.{◌≡◌, ℕ, Bool, true, false, cond, List, [], ◌∷◌, ◌++◌, length, take, refl, sym, ap, subst, ◌∙◌, Option, Some, None, Result, Ok, Err, nat_lt, append_assoc}
use Rattle.std.proofs.lemmas.List.{append-nil}
use Rattle.std.specs.List.{concat}
use Rattle.std.specs.FinMap.{get, insert, get-insert}
use Rattle.std.specs.Cmp.{tied_itself}
use Rattle.std.specs.Ordering.{is_eq}
use Rattle.virtual_path.specs.Path.{Path}
use Rattle.ftp_terms.specs.declared.entries.EntryKind.{EntryKind}
use Rattle.ftp_terms.specs.declared.entries.EntryKind.TheVariants as kind
use Rattle.virtual_tree.specs.declared.fault.StoreFault.{StoreFault}
use Rattle.virtual_tree.specs.declared.fault.StoreFault.TheVariants as fault
use Rattle.virtual_tree.specs.declared.mode.WriteMode.{WriteMode}
use Rattle.virtual_tree.specs.declared.mode.WriteMode.TheVariants.{New, At, Append}
use Rattle.virtual_tree.specs.Calls.{in_answer, Target, Writes}
use Rattle.memory_store.specs.Tree.{Node, PathKey, Tree, key_of, node_in, node_at, size_at, total}
use Rattle.memory_store.specs.Tree.Node.{Directory, File}
use Rattle.memory_store.specs.InMemory.{Memory, Upload, Opening, begun, target_of, kind_in, kind_at, vacancy, opened, open_new, open_absent, open_node, filled, finished, finish_node, if_found, unit_of, left_by}
use Rattle.memory_store.specs.Uploads.{octets_in, kept_by, FinishPutsWhatCame, MoreIsFull}
use Rattle.memory_store.proofs.Fills.{decided_full, more_passes}
use Rattle.memory_store.specs.Orders.{paths_total}

no_answer : {X : Type 0} (why : StoreFault) (x : X) → (let refused : Result X StoreFault = Err why in refused) ≡ Ok x → ⊥
no_answer why x e = cc

not_memory : {X : Type 0} (x : X) → (let answer : Result X StoreFault = Ok x in answer) ≡ Err fault.Memory → ⊥
not_memory x e = cc

-- what was decided, where the answer is no refusal
reported_by : {P X : Type 0} (reported : P → X) (decided : Result P StoreFault) (x : X) → Ok x ≡ in_answer reported decided → (p : P) × (decided ≡ Ok p) × (x ≡ reported p)
reported_by {P} {X} reported (Ok p) x e = (p, refl, same)
  where
    same : x ≡ reported p
    same = cc
reported_by reported (Err why) x e = absurd (no_answer why x (sym e))

unless_refused : {X : Type 0} (b : Bool) (why : StoreFault) (answer : Result X StoreFault) (x : X) → cond b (Err why) answer ≡ Ok x → answer ≡ Ok x
unless_refused true why answer x e = absurd (no_answer why x e)
unless_refused false why answer x e = e

-- ---- open_write

abbrev IsOpening : PathKey → ℕ → Result Opening StoreFault → Type 0
IsOpening key kept (Err why) = Unit {0}
IsOpening key kept (Ok opening) = (opening.key ≡ key) × (opening.kept ≡ kept)

new_opens : (tree : Tree) (key : PathKey) (moment : ℕ) (above here : Option EntryKind) → IsOpening key 0 (open_new tree moment (vacancy key above here))
new_opens tree key moment None here = tt
new_opens tree key moment (Some kind.File) here = tt
new_opens tree key moment (Some kind.Directory) (Some found) = tt
new_opens tree key moment (Some kind.Directory) None = (refl, refl)

absent_opens : (tree : Tree) (path : Path) (key : PathKey) (moment : ℕ) (mode : WriteMode) → IsOpening key (kept_by mode []) (open_absent tree path key moment mode)
absent_opens tree path key moment New = new_opens tree key moment (kind_at tree _) (kind_in tree key)
absent_opens tree path key moment (At offset) = tt
absent_opens tree path key moment Append = new_opens tree key moment (kind_at tree _) (kind_in tree key)

cut_opens : (key : PathKey) (kept : ℕ) (past : Bool) (opening : Opening) → IsOpening key kept (Ok opening) → IsOpening key kept (cond past (Err fault.PastEnd) (Ok opening))
cut_opens key kept true opening is = tt
cut_opens key kept false opening is = is

node_opens : (tree : Tree) (path : Path) (key : PathKey) (moment : ℕ) (mode : WriteMode) (found : Option Node) → IsOpening key (kept_by mode (octets_in found)) (open_node tree path key moment mode found)
node_opens tree path key moment mode None = absent_opens tree path key moment mode
node_opens tree path key moment New (Some Directory) = tt
node_opens tree path key moment (At offset) (Some Directory) = tt
node_opens tree path key moment Append (Some Directory) = tt
node_opens tree path key moment New (Some (File octets modified)) = (refl, refl)
node_opens tree path key moment (At offset) (Some (File octets modified)) = cut_opens key offset (nat_lt (length octets) offset) _ (refl, refl)
node_opens tree path key moment Append (Some (File octets modified)) = (refl, refl)

given_by : (memory : Memory) (tree : Tree) (path : Path) (mode : WriteMode) (moment : ℕ) (found : Option PathKey) (upload : Upload) → Ok upload ≡ in_answer (begun memory) (opened tree path mode moment found)
    → (found ≡ Some upload.key) × (upload.kept ≡ kept_by mode (octets_in (node_in tree found))) × (upload.octets ≡ [])
given_by memory tree path mode moment None upload e = absurd (no_answer fault.IsDir upload (sym e))
given_by memory tree path mode moment (Some key) upload e =
    let decided = reported_by (begun memory) (open_node tree path key moment mode (get tree key)) upload e in
    let is = subst (IsOpening key (kept_by mode (octets_in (get tree key)))) decided.1 (node_opens tree path key moment mode (get tree key)) in (
      ap Some (sym is.0 ∙ ap (λ (u : Upload). u.key) (sym decided.2)),
      ap (λ (u : Upload). u.kept) decided.2 ∙ is.1,
      ap (λ (u : Upload). u.octets) decided.2,
    )

-- ---- writes

some_target : (a b : Target) → Some a ≡ Some b → a ≡ b
some_target a b e = cc

abbrev key_of_target : Target → PathKey
key_of_target target = target.path

abbrev kept_of_target : Target → ℕ
kept_of_target target = target.kept

writes_bring : (pieces : List (List ℕ)) (given brought : Upload) → Writes (λ upload. Some (target_of upload)) (λ upload. Some upload.octets) given pieces brought
    → (target_of brought ≡ target_of given) × (brought.octets ≡ given.octets ++ concat pieces)
writes_bring [] given brought e = (ap target_of e, ap (λ (u : Upload). u.octets) e ∙ sym (append-nil given.octets))
writes_bring (piece ∷ pieces) given brought (next, same, more, rest) =
    let tail = writes_bring pieces next brought rest in (
      tail.0 ∙ some_target (target_of next) (target_of given) same,
      tail.1 ∙ ap (λ octets. octets ++ concat pieces) more ∙ append_assoc given.octets piece (concat pieces),
    )

-- ---- finish

abbrev decided_for : Memory → Upload → ℕ → Option Node → Result Tree StoreFault
decided_for before upload moment found = if_found (finish_node before upload moment) found

file_of : (before : Memory) (upload : Upload) (moment : ℕ) (found : Option Node) (tree : Tree) → get before.tree upload.key ≡ found → finished before upload moment ≡ Ok tree
    → tree ≡ filled before.tree upload moment (octets_in found)
file_of before upload moment None tree is e = absurd (no_answer fault.NotFound tree (sym (ap (decided_for before upload moment) is) ∙ e))
file_of before upload moment (Some Directory) tree is e = absurd (no_answer fault.IsDir tree (sym (ap (decided_for before upload moment) is) ∙ e))
file_of before upload moment (Some (File octets modified)) tree is e =
    let whole = filled before.tree upload moment octets in
    same whole tree
    (unless_refused (nat_lt (length octets) upload.kept) fault.PastEnd (Ok whole) tree
    (unless_refused (nat_lt before.capacity (total whole)) fault.Full (cond (nat_lt (length octets) upload.kept) (Err fault.PastEnd) (Ok whole)) tree
    (sym (ap (decided_for before upload moment) is) ∙ e)))
  where
    same : (whole tree : Tree) → (let answer : Result Tree StoreFault = Ok whole in answer) ≡ Ok tree → tree ≡ whole
    same whole tree e = cc

at_its_key : (tree : Tree) (key : PathKey) (node : Node) → get (insert tree key node) key ≡ Some node
at_its_key tree key node = get-insert paths_total tree key node key ∙ ap (λ order. cond (is_eq order) (Some node) (get tree key)) (tied_itself paths_total key)

pub finish_puts_what_came : FinishPutsWhatCame
finish_puts_what_came first opened before after path mode moment later given brought pieces opens writes finish =
    let start = given_by first first.tree path mode moment (key_of path) given (opens.0 (not_memory given)).0 in
    let way = writes_bring pieces given brought writes in
    let end = finish.0 (not_memory tt) in
    let decided = reported_by (unit_of {P = Tree}) (finished before brought later) tt end.0 in
    let stands : key_of path ≡ Some brought.key = start.0 ∙ ap (λ target. Some (key_of_target target)) (sym way.0) in
    let kept : brought.kept ≡ kept_by mode (octets_in (node_at first.tree path)) = ap kept_of_target way.0 ∙ start.1 in
    let octets : brought.octets ≡ concat pieces = way.1 ∙ ap (λ front. front ++ concat pieces) start.2 in
    let tree : after.tree ≡ decided.0 = ap (λ (m : Memory). m.tree) (end.1 ∙ ap (left_by before (λ (tree : Tree). tree)) decided.1) in
    let file : decided.0 ≡ filled before.tree brought later (octets_in (get before.tree brought.key)) = file_of before brought later (get before.tree brought.key) decided.0 refl decided.1 in
    ap (node_in after.tree) stands
    ∙ ap (λ (t : Tree). get t brought.key) (tree ∙ file)
    ∙ at_its_key before.tree brought.key (File (take brought.kept (octets_in (get before.tree brought.key)) ++ brought.octets) later)
    ∙ ap (λ k. Some (File (take k (octets_in (get before.tree brought.key)) ++ brought.octets) later)) kept
    ∙ ap (λ came. Some (File (take (kept_by mode (octets_in (node_at first.tree path))) (octets_in (get before.tree brought.key)) ++ came) later)) octets
    ∙ ap (λ found. Some (File (take (kept_by mode (octets_in (node_at first.tree path))) (octets_in (node_in before.tree found)) ++ concat pieces) later)) (sym stands)

-- ---- more than the capacity

pub more_is_full : MoreIsFull
more_is_full memory upload moment modified octets found more =
    ap (if_found (finish_node memory upload moment)) found
    ∙ decided_full memory upload moment octets (more_passes memory upload moment octets (ap size_at found) more)
