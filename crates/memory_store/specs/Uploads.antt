-- The effect of an upload, over all its calls.
use Rattle.std.specs.Prelude.{ℕ, ◌≡◌, List, [], ◌++◌, ◌<◌, length, take, Option, Some, Ok, Err}
use Rattle.std.specs.List.{concat}
use Rattle.virtual_path.specs.Path.{Path}
use Rattle.virtual_tree.specs.declared.fault.StoreFault.TheVariants as fault
use Rattle.virtual_tree.specs.declared.mode.WriteMode.{WriteMode}
use Rattle.virtual_tree.specs.declared.mode.WriteMode.TheVariants.{New, At, Append}
use Rattle.virtual_tree.specs.Calls.{Writes}
use Rattle.virtual_tree.specs.Calls.Exchange.{OpenWrite, Finish}
use Rattle.memory_store.specs.Tree.{Node, node_at}
use Rattle.memory_store.specs.Tree.Node.{File}
use Rattle.std.specs.FinMap.{get}
use Rattle.memory_store.specs.InMemory.{Memory, Upload, InMemory, target_of, finished}

-- the octets of the file at a path; none if there is no file
abbrev pub octets_in : Option Node → List ℕ
octets_in (Some (File octets moment)) = octets
octets_in _ = []

-- number of octets of a file that are kept before the new ones
abbrev pub kept_by : WriteMode → List ℕ → ℕ
kept_by New octets = 0
kept_by (At offset) octets = offset
kept_by Append octets = length octets

-- A file was opened in a store with contents `first`; these pieces were written through the sink
-- that was returned, and perhaps others were refused; and the sink's `finish` succeeded, in a store
-- that had the contents `before` by then. Then the file is the first octets that it had directly
-- before, as many as the mode kept when it was opened, followed by the pieces.
abbrev pub FinishPutsWhatCame : Type 0
FinishPutsWhatCame =
    (first opened before after : Memory) (path : Path) (mode : WriteMode) (moment later : ℕ)
    (given brought : Upload) (pieces : List (List ℕ))
    → InMemory first (OpenWrite path mode moment (Ok given)) opened
    → Writes (λ upload. Some (target_of upload)) (λ upload. Some upload.octets) given pieces brought
    → InMemory before (Finish brought later (Ok tt)) after
    → node_at after.tree path
    ≡ Some (File (take (kept_by mode (octets_in (node_at first.tree path)))
    (octets_in (node_at before.tree path)) ++ concat pieces) later)

-- If more octets were received than the capacity, the upload does not fit, whatever the other files
-- have and however many octets of its file are kept.
abbrev pub MoreIsFull : Type 0
MoreIsFull =
    (memory : Memory) (upload : Upload) (moment modified : ℕ) (octets : List ℕ)
    → get memory.tree upload.key ≡ Some (File octets modified)
    → memory.capacity < length upload.octets → finished memory upload moment ≡ Err fault.Full
