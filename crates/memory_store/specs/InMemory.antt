-- The effect of each call on a store in memory.
use Rattle.std.specs.Prelude.{ℕ, ◌≡◌, ◌≢◌, Bool, cond, List, [], ◌++◌, length, take, drop, Option, Some, None, Result, Ok, Err, nat_lt, nat_eq, option_map, option_and_then, unwrap_or}
use Rattle.std.specs.FinMap.{get, insert, remove}
use Rattle.virtual_path.specs.Path.{Path, parent_of}
use Rattle.virtual_tree.specs.declared.fault.StoreFault.{StoreFault}
use Rattle.virtual_tree.specs.declared.fault.StoreFault.TheVariants as fault
use Rattle.ftp_terms.specs.declared.entries.Meta.{Meta}
use Rattle.ftp_terms.specs.declared.entries.EntryKind.{EntryKind}
use Rattle.ftp_terms.specs.declared.entries.EntryKind.TheVariants as kind
use Rattle.virtual_tree.specs.declared.mode.WriteMode.{WriteMode}
use Rattle.virtual_tree.specs.declared.mode.WriteMode.TheVariants.{New, At, Append}
use Rattle.virtual_tree.specs.Calls.{Entry, in_answer, Exchange, Target}
use Rattle.virtual_tree.specs.Calls.Exchange.{Stat, Listing, OpenRead, OpenWrite, Finish, MakeDir, RemoveDir, RemoveFile, Rename}
use Rattle.memory_store.specs.Tree.{Node, PathKey, Tree, key_of, node_at, meta_of, kind_of, octets_of, total, children_in, listing, begins_with, renamed}
use Rattle.memory_store.specs.Tree.Node.{Directory, File}

-- a store in memory: its contents, and the most octets that its files may have
pub record Memory : Type 0 where
  pub tree : Tree
  pub capacity : ℕ

-- an upload: the key of its file, the number of the file's octets that are kept before the new
-- ones, the most octets that its sink holds in memory, and all those received
pub record Upload : Type 0 where
  pub key : PathKey
  pub kept : ℕ
  pub most : ℕ
  pub octets : List ℕ

-- the target of an upload
abbrev pub target_of : Upload → Target
target_of upload = record { path = upload.key; kept = upload.kept }

-- the result for an entry that exists; otherwise `NotFound`
abbrev pub if_found : {X : Type 0} → (Node → Result X StoreFault) → Option Node
    → Result X StoreFault
if_found answer None = Err fault.NotFound
if_found answer (Some node) = answer node

-- ---- calls that change nothing

abbrev pub meta_reported : Node → Result Meta StoreFault
meta_reported node = Ok (meta_of node)

-- a file's octets from an offset on; None is a directory
abbrev pub octets_from : ℕ → Option (List ℕ) → Result (List ℕ) StoreFault
octets_from offset None = Err fault.IsDir
octets_from offset (Some octets) =
    cond (nat_lt (length octets) offset) (Err fault.PastEnd) (Ok (drop offset octets))

-- ---- calls that change the tree: the decision, and then the tree afterwards

-- the kind of the node at a path key, or at a path
abbrev pub kind_in : Tree → PathKey → Option EntryKind
kind_in tree key = option_map kind_of (get tree key)

abbrev pub kind_at : Tree → Path → Option EntryKind
kind_at tree path = option_map kind_of (node_at tree path)

abbrev pub listing_reported : Tree → Path → Option EntryKind → Result (List Entry) StoreFault
listing_reported tree path None = Err fault.NotFound
listing_reported tree path (Some kind.File) = Err fault.NotDir
listing_reported tree path (Some kind.Directory) = Ok (listing tree path)

-- the key, if an entry may be created there, given the kinds of its directory and of an entry at
-- the path key
abbrev pub vacancy : PathKey → Option EntryKind → Option EntryKind → Result PathKey StoreFault
vacancy key None here = Err fault.NotFound
vacancy key (Some kind.File) here = Err fault.NotDir
vacancy key (Some kind.Directory) (Some found) = Err fault.Exists
vacancy key (Some kind.Directory) None = Ok key

abbrev pub vacant : Tree → Path → PathKey → Result PathKey StoreFault
vacant tree path key = vacancy key (kind_at tree (parent_of path)) (kind_in tree key)

-- the path key for a new directory
abbrev pub key_to_make : Tree → Path → Option PathKey → Result PathKey StoreFault
key_to_make tree path None = Err fault.Exists
key_to_make tree path (Some key) = vacant tree path key

abbrev pub bare_only : Bool → PathKey → Option EntryKind → Result PathKey StoreFault
bare_only is_bare key None = Err fault.NotFound
bare_only is_bare key (Some kind.File) = Err fault.NotDir
bare_only is_bare key (Some kind.Directory) = cond is_bare (Ok key) (Err fault.NotEmpty)

-- a directory has no entries
abbrev pub is_bare : Tree → Path → Bool
is_bare tree path = nat_eq (length (children_in tree path)) 0

-- the path key of an empty directory
abbrev pub key_of_bare : Tree → Path → Option PathKey → Result PathKey StoreFault
key_of_bare tree path None = Err fault.NotEmpty
key_of_bare tree path (Some key) = bare_only (is_bare tree path) key (kind_in tree key)

abbrev pub file_only : PathKey → Option EntryKind → Result PathKey StoreFault
file_only key None = Err fault.NotFound
file_only key (Some kind.Directory) = Err fault.IsDir
file_only key (Some kind.File) = Ok key

-- the path key of a file
abbrev pub key_of_file : Tree → Option PathKey → Result PathKey StoreFault
key_of_file tree None = Err fault.IsDir
key_of_file tree (Some key) = file_only key (kind_in tree key)

-- the entry to be renamed, and its path keys before and afterwards
pub record Move : Type 0 where
  pub node : Node
  pub before : PathKey
  pub afterwards : PathKey

abbrev pub outside_itself : Path → Path → Move → Result PathKey StoreFault → Result Move StoreFault
outside_itself from to move (Err why) = Err why
outside_itself from to move (Ok key) = cond (begins_with from to) (Err fault.Inside) (Ok move)

abbrev pub move_to : Tree → Path → Path → PathKey → PathKey → Node → Result Move StoreFault
move_to tree from to before afterwards node =
    outside_itself from to (record { node = node; before = before; afterwards = afterwards })
    (vacant tree to afterwards)

abbrev pub move_of : Tree → Path → Path → Option PathKey → Option PathKey → Result Move StoreFault
move_of tree from to None target = Err fault.Inside
move_of tree from to (Some before) None = Err fault.Inside
move_of tree from to (Some before) (Some afterwards) =
    if_found (move_to tree from to before afterwards) (get tree before)

-- the rename between two paths, or its refusal
abbrev pub move_between : Tree → Path → Path → Result Move StoreFault
move_between tree from to = move_of tree from to (key_of from) (key_of to)

-- a directory moves with everything beneath it
abbrev pub moved_by_kind : Tree → Move → EntryKind → Tree
moved_by_kind tree move kind.Directory = renamed tree move.before move.afterwards
moved_by_kind tree move kind.File = remove (insert tree move.afterwards move.node) move.before

abbrev pub moved_tree : Tree → Move → Tree
moved_tree tree move = moved_by_kind tree move (kind_of move.node)

-- ---- files that are written

-- a file opened for writing: the tree afterwards, the file's key, and how many of its octets are
-- kept
pub record Opening : Type 0 where
  pub tree : Tree
  pub key : PathKey
  pub kept : ℕ

abbrev pub opening : Tree → PathKey → ℕ → Opening
opening tree key kept = record { tree = tree; key = key; kept = kept }

-- the upload that then begins: its sink holds at most as many octets as the store may
abbrev pub begun : Memory → Opening → Upload
begun memory opening =
    record {
      key = opening.key;
      kept = opening.kept;
      most = memory.capacity;
      octets = [];
    }

abbrev pub open_new : Tree → ℕ → Result PathKey StoreFault → Result Opening StoreFault
open_new tree moment (Err why) = Err why
open_new tree moment (Ok key) = Ok (opening (insert tree key (File [] moment)) key 0)

-- if there is no entry
abbrev pub open_absent : Tree → Path → PathKey → ℕ → WriteMode → Result Opening StoreFault
open_absent tree path key moment New = open_new tree moment (vacant tree path key)
open_absent tree path key moment (At offset) = Err fault.NotFound
open_absent tree path key moment Append = open_new tree moment (vacant tree path key)

-- if there is a file with these octets; None is a directory
abbrev pub open_octets :
    Tree → PathKey → ℕ → WriteMode → Option (List ℕ) → Result Opening StoreFault
open_octets tree key moment mode None = Err fault.IsDir
open_octets tree key moment New (Some octets) =
    Ok (opening (insert tree key (File [] moment)) key 0)
open_octets tree key moment (At offset) (Some octets) =
    cond (nat_lt (length octets) offset) (Err fault.PastEnd)
    (Ok (opening (insert tree key (File (take offset octets) moment)) key offset))
open_octets tree key moment Append (Some octets) = Ok (opening tree key (length octets))

abbrev pub open_node :
    Tree → Path → PathKey → ℕ → WriteMode → Option Node → Result Opening StoreFault
open_node tree path key moment mode None = open_absent tree path key moment mode
open_node tree path key moment mode (Some node) =
    open_octets tree key moment mode (octets_of node)

abbrev pub opened : Tree → Path → WriteMode → ℕ → Option PathKey → Result Opening StoreFault
opened tree path mode moment None = Err fault.IsDir
opened tree path mode moment (Some key) = open_node tree path key moment mode (get tree key)

-- the tree after the file at the upload's key was set to its first octets, followed by those
-- received
abbrev pub filled : Tree → Upload → ℕ → List ℕ → Tree
filled tree upload moment octets =
    insert tree upload.key (File (take upload.kept octets ++ upload.octets) moment)

-- given the octets of the file at the path key; None is a directory
abbrev pub finish_octets : Memory → Upload → ℕ → Option (List ℕ) → Result Tree StoreFault
finish_octets memory upload moment None = Err fault.IsDir
finish_octets memory upload moment (Some octets) =
    cond (nat_lt memory.capacity (total (filled memory.tree upload moment octets))) (Err fault.Full)
    (cond (nat_lt (length octets) upload.kept) (Err fault.PastEnd)
    (Ok (filled memory.tree upload moment octets)))

abbrev pub finish_node : Memory → Upload → ℕ → Node → Result Tree StoreFault
finish_node memory upload moment node = finish_octets memory upload moment (octets_of node)

abbrev pub finished : Memory → Upload → ℕ → Result Tree StoreFault
finished memory upload moment =
    if_found (finish_node memory upload moment) (get memory.tree upload.key)

-- ---- the relation

-- this result or lack of memory, and the store is unchanged
abbrev pub Reports : {X : Type 0} → Memory → Result X StoreFault → Memory → Result X StoreFault
    → Type 0
Reports old answer new wanted = (answer ≢ Err fault.Memory → answer ≡ wanted) × (new ≡ old)

-- the store after a decision; a refusal leaves it unchanged
abbrev pub left_by : {P : Type 0} → Memory → (P → Tree) → Result P StoreFault → Memory
left_by old tree (Ok decided) = record { tree = tree decided; capacity = old.capacity }
left_by old tree (Err why) = old

-- this result and the store after it; or lack of memory, and the store is unchanged
abbrev pub Changes : {P X : Type 0} → Memory → Result X StoreFault → Memory → Result P StoreFault
    → (P → X) → (P → Tree) → Type 0
Changes old answer new decided reported tree =
    (answer ≢ Err fault.Memory
    → (answer ≡ in_answer reported decided) × (new ≡ left_by old tree decided))
    × (answer ≡ Err fault.Memory → new ≡ old)

abbrev pub unit_of : {P : Type 0} → P → Unit {0}
unit_of _ = tt

abbrev pub Opens : Memory → Result Upload StoreFault → Memory → Result Opening StoreFault → Type 0
Opens old answer new decided =
    Changes old answer new decided (begun old) (λ opening. opening.tree)

abbrev pub InMemory : Memory → Exchange (List ℕ) Upload → Memory → Type 0
InMemory old (Stat path answer) new =
    Reports old answer new (if_found meta_reported (node_at old.tree path))
InMemory old (Listing path answer) new =
    Reports old answer new (listing_reported old.tree path (kind_at old.tree path))
InMemory old (OpenRead path offset answer) new =
    Reports old answer new
    (if_found (λ node. octets_from offset (octets_of node)) (node_at old.tree path))
InMemory old (OpenWrite path mode moment answer) new =
    Opens old answer new (opened old.tree path mode moment (key_of path))
InMemory old (Finish upload moment answer) new =
    Changes old answer new (finished old upload moment) unit_of (λ tree. tree)
InMemory old (MakeDir path answer) new =
    Changes old answer new (key_to_make old.tree path (key_of path)) unit_of
    (λ key. insert old.tree key Directory)
InMemory old (RemoveDir path answer) new =
    Changes old answer new (key_of_bare old.tree path (key_of path)) unit_of
    (λ key. remove old.tree key)
InMemory old (RemoveFile path answer) new =
    Changes old answer new (key_of_file old.tree (key_of path)) unit_of
    (λ key. remove old.tree key)
InMemory old (Rename from to answer) new =
    Changes old answer new (move_of old.tree from to (key_of from) (key_of to)) unit_of
    (moved_tree old.tree)

-- the octets at a path key; none if there is no file
abbrev pub octets_at : Tree → PathKey → List ℕ
octets_at tree key = unwrap_or (option_and_then octets_of (get tree key)) []

-- number of octets in the files once an upload is finished
abbrev pub would_hold : Memory → Upload → ℕ → ℕ
would_hold memory upload moment =
    total (filled memory.tree upload moment (octets_at memory.tree upload.key))
