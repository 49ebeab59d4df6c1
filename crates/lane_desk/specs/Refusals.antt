-- Refusals of rounds.
use Rattle.std.specs.Prelude.{◌≡◌, ◌+◌, ◌<◌, ◌≤◌, ℕ, List, map, Some, sum, ⊤}
use Rattle.fair_shares.specs.Asked.{IsAskedPlan}
use Rattle.fair_terms.specs.Fair.{IsFair}
use Rattle.fair_terms.specs.Wants.{HasLargeUser}
use Rattle.limit_tree.specs.Sharing.{LimitTree}
use Rattle.line_rates.specs.declared.ask.Ask.{Ask}
use Rattle.line_rates.specs.Rates.{Rates}
use Rattle.line_rates.specs.TickTree.{Asker, ask_in}
use Rattle.line_rates.specs.Refused.{HasFault}
use Rattle.grant_ledger.specs.Books.{BookView}
use Rattle.grant_ledger.specs.declared.ledger.TheConstants.{MAX_ISSUED}
use Rattle.world_terms.specs.Decisions.{IsLater}
use Rattle.lane_desk.specs.declared.refusal.RoundRefusal.{RoundRefusal}
use Rattle.lane_desk.specs.declared.refusal.RoundRefusal.TheVariants.{NotYet, BookFull, Plan, Memory, Unshared}

-- fair grants of a plan for the asks would increase the octets issued above the most that a book
-- issues
pub record PassesMost (rates : Rates) (tick : ℕ) (asks : List Asker) (issued : ℕ) : Type 0 where
  pub tree : LimitTree
  pub lanes : List ℕ
  pub leaf_asks : List Ask
  pub grants : List ℕ
  pub plan : IsAskedPlan rates tick asks tree lanes leaf_asks
  pub best : IsFair rates.share_by leaf_asks tree grants
  pub above : MAX_ISSUED < issued + sum grants

-- this reason applies, and none before it except lack of memory
abbrev pub IsRefused : (A : Type 0) → Rates → ℕ → List Asker → BookView → RoundRefusal → Type 0
IsRefused A rates tick asks book (NotYet last) = (book.last_tick ≡ Some last) × (tick ≤ last)
IsRefused A rates tick asks book (Plan fault) =
    IsLater tick book.last_tick × HasFault A rates tick asks fault
IsRefused A rates tick asks book Memory = IsLater tick book.last_tick
IsRefused A rates tick asks book Unshared =
    IsLater tick book.last_tick × HasLargeUser rates.share_by (map ask_in asks)
IsRefused A rates tick asks book BookFull =
    IsLater tick book.last_tick × PassesMost rates tick asks book.issued

-- why no shares were found
abbrev pub IsUnshared : (A : Type 0) → Rates → ℕ → List Asker → RoundRefusal → Type 0
IsUnshared A rates tick asks (NotYet last) = ⊥
IsUnshared A rates tick asks (Plan fault) = HasFault A rates tick asks fault
IsUnshared A rates tick asks Memory = ⊤
IsUnshared A rates tick asks Unshared = HasLargeUser rates.share_by (map ask_in asks)
IsUnshared A rates tick asks BookFull = ⊥
