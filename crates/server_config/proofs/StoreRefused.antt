-- Directories and files that are refused, after those that were made.
use Rattle.std.proofs.Common.{◌≡◌, ℕ, ◌<◌, List, length, take, get_or, Some, Result, Ok, Err, IfErr, refl, sym, ap, subst, ◌∙◌, inr}
use Rattle.std.proofs.lemmas.Option.{slice_get-get_or}
use Rattle.std.specs.Io.KnownBytes.{Appends}
use Rattle.memory_terms.specs.Lack.{Unless}
use Rattle.memory_store.specs.InMemory.{Memory, Upload, InMemory, target_of}
use Rattle.virtual_path.specs.Path.{Path}
use Rattle.virtual_tree.specs.Calls.Exchange.{OpenWrite, Finish}
use Rattle.virtual_tree.specs.declared.fault.StoreFault.{StoreFault}
use Rattle.virtual_tree.specs.declared.mode.WriteMode.TheVariants.{New}
use Rattle.server_config.specs.Store.{MakesAll, IsNotFilled, IsRefusedRow}
use Rattle.config_file.specs.declared.fault.Fault.{Fault}
use Rattle.config_file.specs.declared.fault.Fault.TheVariants as fault
use Rattle.config_file.specs.declared.fault.TableName.{TableName}
use Rattle.config_file.specs.Lists.{FaultIs, Place, place_of, row_at}
use Rattle.server_config.specs.declared.store_problem.StoreProblem.{StoreProblem}

pub reported_more : (First Second : Place → StoreProblem → Type 0) → ((place : Place) (reported : StoreProblem) → First place reported → Second place reported)
    → (answer : Fault StoreProblem) → FaultIs First answer → FaultIs Second answer
reported_more First Second more (fault.At header reported) is = more (place_of header) reported is
reported_more First Second more fault.Memory is = tt

pub row_refused : {R : Type 0} (table : TableName) (path : R → List ℕ) (Makes : R → Memory → Memory → Type 0) (Refuses : R → Memory → StoreProblem → Type 0) (rows : List R) (i : ℕ) (row other : R)
    (old mid : Memory) (problem : StoreProblem) (answer : Fault StoreProblem) → i < length rows → row ≡ get_or rows i other → MakesAll Makes (take i rows) old mid
    → Refuses row mid problem → FaultIs (λ place reported. (place ≡ row_at table i (Some (path row))) × (reported ≡ problem)) answer
    → FaultIs (IsRefusedRow table path Makes Refuses rows old) answer
row_refused table path Makes Refuses rows i row other old mid problem answer within at before is =
    reported_more (λ place reported. (place ≡ row_at table i (Some (path row))) × (reported ≡ problem)) (IsRefusedRow table path Makes Refuses rows old)
    (λ place reported same. record {
      index = i;
      row = row;
      mid = mid;
      stands = slice_get-get_or rows i other within ∙ ap (λ r. Some r) (sym at);
      before = before;
      refused = subst (Refuses row mid) (sym same.1) is;
      place = same.0;
    }) answer

-- a text that was written, and whose file was not finished
pub not_filled : (path : Path) (text written : List ℕ) (moment : ℕ) (old opened new : Memory) (given brought : Upload) (answer : Result (Unit {0}) StoreFault) → written ≡ text
    → InMemory old (OpenWrite path New moment (Ok given)) opened → Some (target_of brought) ≡ Some (target_of given) → Appends (Some given.octets) (Some brought.octets) written
    → InMemory opened (Finish brought moment answer) new → IfErr answer (Unless StoreFault.Memory (IsNotFilled path text moment old))
not_filled path text written moment old opened new given brought (Ok done) same opens target appends finishes = tt
not_filled path text written moment old opened new given brought (Err fault) same opens target appends finishes = λ _.
    inr (opened, new, given, brought, opens, (brought, target, subst (λ t. Appends (Some given.octets) (Some brought.octets) t) same appends, refl), finishes)
