-- Directories and files that are made one after another.
use Rattle.std.proofs.Common.{◌≡◌, ℕ, Some, Result, Ok, Err, OnOk, ◌+◌, ◌<◌, List, [], ◌∷◌, ◌++◌, length, take, get_or, refl, sym, ap, subst, ◌∙◌}
use Rattle.std.proofs.lemmas.List.{take_more}
use Rattle.std.specs.FinMap as map
use Rattle.std.specs.Io.KnownBytes.{Appends}
use Rattle.memory_store.specs.Tree.{Tree}
use Rattle.config_file.specs.declared.stated.DirTable.{DirTable}
use Rattle.virtual_path.specs.Path.{Path}
use Rattle.virtual_tree.specs.Calls.Exchange.{OpenWrite, Finish}
use Rattle.virtual_tree.specs.declared.fault.StoreFault.{StoreFault}
use Rattle.virtual_tree.specs.declared.mode.WriteMode.TheVariants.{New}
use Rattle.server_config.specs.Store.{MakesDir, MakesAll, IsFilled, empty_store}
use Rattle.memory_store.specs.InMemory.{Memory, Upload, InMemory, target_of}

all-more : {R : Type 0} (Makes : R → Memory → Memory → Type 0) (rows : List R) (row : R) (old mid new : Memory) → MakesAll Makes rows old mid → Makes row mid new → MakesAll Makes (rows ++ row ∷ []) old new
all-more Makes [] row old mid new before is = (new, subst (λ (m : Memory). Makes row m new) before is, refl)
all-more Makes (r ∷ rows) row old mid new before is = (before.0, before.1, all-more Makes rows row before.0 mid new before.2 is)

pub all-next : {R : Type 0} (Makes : R → Memory → Memory → Type 0) (rows : List R) (i : ℕ) (row other : R) (old mid new : Memory) → i < length rows → row ≡ get_or rows i other
    → MakesAll Makes (take i rows) old mid → Makes row mid new → MakesAll Makes (take (i + 1) rows) old new
all-next Makes rows i row other old mid new within at before is =
    subst (λ rs. MakesAll Makes rs old new) (ap (λ r. take i rows ++ r ∷ []) at ∙ sym (take_more rows i other within)) (all-more Makes (take i rows) row old mid new before is)

-- a text that was written between opening and a finish that was carried out
pub filled : (path : Path) (text written : List ℕ) (moment : ℕ) (old opened new : Memory) (given brought : Upload) (answer : Result (Unit {0}) StoreFault) → written ≡ text
    → InMemory old (OpenWrite path New moment (Ok given)) opened → Some (target_of brought) ≡ Some (target_of given) → Appends (Some given.octets) (Some brought.octets) written
    → InMemory opened (Finish brought moment answer) new → OnOk answer (IsFilled path text moment old new)
filled path text written moment old opened new given brought (Ok done) same opens target appends finishes = record {
  opened = opened;
  given = given;
  brought = brought;
  opens = opens;
  writes = (brought, target, subst (λ t. Appends (Some given.octets) (Some brought.octets) t) same appends, refl);
  finishes = finishes;
}
filled path text written moment old opened new given brought (Err fault) same opens target appends finishes = tt

-- what a new store holds
pub from_empty : (dirs : List DirTable) (capacity : ℕ) (first made : Memory) → first.tree ≡ map.empty → first.capacity ≡ capacity → MakesAll MakesDir dirs first made
    → MakesAll MakesDir dirs (empty_store capacity) made
from_empty dirs capacity first made bare same all =
    subst (λ (m : Memory). MakesAll MakesDir dirs m made)
    (ap (λ (t : Tree). let m : Memory = record { tree = t; capacity = first.capacity } in m) bare ∙ ap (λ (n : ℕ). empty_store n) same) all
