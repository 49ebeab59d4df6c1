-- The served store: a folder, or the store in memory after the calls that make the directories and
-- files of the tables, one after another.
use Rattle.std.specs.Prelude.{◌≡◌, ◌≢◌, ◌<◌, ◌≤◌, ◌⊎◌, ℕ, ◌*◌, List, [], ◌∷◌, take, slice_get, Some, Ok, Err, codes}
use Rattle.std.specs.FinMap as map
use Rattle.std.specs.String.{string_bytes}
use Rattle.memory_terms.specs.Lack.{Unless}
use Rattle.virtual_path.specs.Path.{Path, resolved}
use Rattle.virtual_path.specs.declared.fault.PathFault.TheVariants as PathFault
use Rattle.virtual_tree.specs.Calls.{Writes}
use Rattle.virtual_tree.specs.Calls.Exchange.{OpenWrite, Finish, MakeDir}
use Rattle.memory_store.specs.InMemory.{Memory, Upload, InMemory, target_of}
use Rattle.virtual_tree.specs.declared.mode.WriteMode.TheVariants.{New}
use Rattle.config_file.specs.declared.stated.ServerTable.{ServerTable}
use Rattle.config_file.specs.declared.stated.DirTable.{DirTable}
use Rattle.config_file.specs.declared.stated.FileTable.{FileTable}
use Rattle.virtual_tree.specs.declared.fault.StoreFault.{StoreFault}
use Rattle.config_file.specs.declared.fault.TableName.{TableName}
use Rattle.config_file.specs.declared.fault.TableName.TheVariants as TableName
use Rattle.config_file.specs.Lists.{Place, row_at, whole}
use Rattle.server_config.specs.declared.store_problem.StoreProblem.{StoreProblem}
use Rattle.server_config.specs.declared.store_problem.StoreProblem.TheVariants as problem
use Rattle.server_config.specs.declared.store.ServedStore.{ServedStore}
use Rattle.server_config.specs.declared.store.ServedStore.TheVariants as served

-- the directory is made at the path that its text names
abbrev pub MakesDir : DirTable → Memory → Memory → Type 0
MakesDir dir old new =
    (path : Path) × (resolved [] dir.path.now ≡ Ok path) × InMemory old (MakeDir path (Ok tt)) new

-- a file is opened anew, the text is written, and the upload is finished, at one moment
pub record IsFilled (path : Path) (text : List ℕ) (moment : ℕ) (old new : Memory) : Type 0 where
  pub opened : Memory
  pub given : Upload
  pub brought : Upload
  pub opens : InMemory old (OpenWrite path New moment (Ok given)) opened
  pub writes : Writes (λ upload. Some (target_of upload)) (λ upload. Some upload.octets) given
      (text ∷ []) brought
  pub finishes : InMemory opened (Finish brought moment (Ok tt)) new

-- the file is made at the path that its text names, with its octets and its time
abbrev pub MakesFile : FileTable → Memory → Memory → Type 0
MakesFile file old new =
    (path : Path) × (resolved [] file.path.now ≡ Ok path)
    × IsFilled path file.text.now (file.modified * 1000) old new

-- one after another
abbrev pub MakesAll : {R : Type 0} → (R → Memory → Memory → Type 0) → List R → Memory → Memory
    → Type 0
MakesAll Makes [] old new = new ≡ old
MakesAll Makes (row ∷ rows) old new =
    (next : Memory) × Makes row old next × MakesAll Makes rows next new

-- an empty store, whose files may hold this many octets
abbrev pub empty_store : ℕ → Memory
empty_store capacity = record { tree = map.empty; capacity = capacity }

abbrev pub IsStoreOf : ServerTable → List DirTable → List FileTable → ServedStore → Type 0
IsStoreOf server dirs files (served.Memory store) = (server.root.now ≡ codes "memory")
    × ((made : Memory) × MakesAll MakesDir dirs (empty_store server.capacity) made
    × MakesAll MakesFile files made store)
IsStoreOf server dirs files (served.Folder text) =
    (server.root.now ≢ codes "memory") × (string_bytes text ≡ server.root.now)

-- ---- refusals

-- the text names no path
abbrev pub IsPathProblem : List ℕ → StoreProblem → Type 0
IsPathProblem text (problem.Path fault) =
    Unless PathFault.Memory (λ why. resolved [] text ≡ Err why) fault
IsPathProblem text _ = ⊥

-- the text names no path, or the store refuses to make the directory
abbrev pub IsDirProblem : DirTable → Memory → StoreProblem → Type 0
IsDirProblem dir old problem.EmptyRange = ⊥
IsDirProblem dir old (problem.Path fault) = IsPathProblem dir.path.now (problem.Path fault)
IsDirProblem dir old (problem.Store fault) = Unless StoreFault.Memory (λ why.
    (path : Path) × (after : Memory) × (resolved [] dir.path.now ≡ Ok path)
    × InMemory old (MakeDir path (Err why)) after) fault

-- the file is not opened; or it is, and it is not finished
abbrev pub IsNotFilled : Path → List ℕ → ℕ → Memory → StoreFault → Type 0
IsNotFilled path text moment old fault =
    ((after : Memory) × InMemory old (OpenWrite path New moment (Err fault)) after)
    ⊎ ((opened after : Memory) × (given brought : Upload)
    × InMemory old (OpenWrite path New moment (Ok given)) opened
    × Writes (λ upload. Some (target_of upload)) (λ upload. Some upload.octets) given
    (text ∷ []) brought
    × InMemory opened (Finish brought moment (Err fault)) after)

-- the text names no path, or the store refuses to make the file
abbrev pub IsFileProblem : FileTable → Memory → StoreProblem → Type 0
IsFileProblem file old problem.EmptyRange = ⊥
IsFileProblem file old (problem.Path fault) = IsPathProblem file.path.now (problem.Path fault)
IsFileProblem file old (problem.Store fault) = Unless StoreFault.Memory (λ why.
    (path : Path) × (resolved [] file.path.now ≡ Ok path)
    × IsNotFilled path file.text.now (file.modified * 1000) old why) fault

-- The rows before one are made, and that one is refused. It is named by its path.
pub record IsRefusedRow {R : Type 0} (table : TableName) (path : R → List ℕ)
    (Makes : R → Memory → Memory → Type 0)
    (Refuses : R → Memory → StoreProblem → Type 0) (rows : List R) (old : Memory) (at : Place)
    (problem : StoreProblem) : Type 0 where
  pub index : ℕ
  pub row : R
  pub mid : Memory
  pub stands : slice_get rows index ≡ Some row
  pub before : MakesAll Makes (take index rows) old mid
  pub refused : Refuses row mid problem
  pub place : at ≡ row_at table index (Some (path row))

abbrev pub IsRefusedDir : List DirTable → Memory → Place → StoreProblem → Type 0
IsRefusedDir dirs old place reported =
    IsRefusedRow TableName.Dir (λ dir. dir.path.now) MakesDir IsDirProblem dirs old place reported

abbrev pub IsRefusedFile : List FileTable → Memory → Place → StoreProblem → Type 0
IsRefusedFile files old place reported =
    IsRefusedRow TableName.File (λ file. file.path.now) MakesFile IsFileProblem files old place
    reported

-- a directory is refused, or otherwise a file
abbrev pub IsNotMade : ServerTable → List DirTable → List FileTable → Place → StoreProblem → Type 0
IsNotMade server dirs files place reported =
    IsRefusedDir dirs (empty_store server.capacity) place reported
    ⊎ ((made : Memory) × MakesAll MakesDir dirs (empty_store server.capacity) made
    × IsRefusedFile files made place reported)

-- the range of ports is empty; or otherwise a store in memory is not made
abbrev pub IsStoreProblem : ServerTable → List DirTable → List FileTable → Place → StoreProblem
    → Type 0
IsStoreProblem server dirs files place reported =
    ((place ≡ whole TableName.Server) × (reported ≡ problem.EmptyRange)
    × (server.passive_last < server.passive_first))
    ⊎ ((server.passive_first ≤ server.passive_last) × (server.root.now ≡ codes "memory")
    × IsNotMade server dirs files place reported)
