-- The reasons for which transfers are not planned.
use Rattle.std.specs.Prelude.{◌<◌, ◌≤◌, ◌+◌, ℕ, List, Option, IfSome, IsTrue, length, map, take, ⊤}
use Rattle.std.specs.List.{All}
use Rattle.line_rates.specs.declared.ask.Ask.{Ask}
use Rattle.line_rates.specs.declared.ask.Name.{Name}
use Rattle.line_rates.specs.Names.{bears}
use Rattle.line_rates.specs.Rates.{Rates, rate_of}
use Rattle.line_rates.specs.TickTree.{Asker, ask_in}
use Rattle.rate_plan.specs.Admission.{IsExceeded, IsRefusedAt}
use Rattle.rate_plan.specs.Asked.{AreAsked}
use Rattle.rate_plan.specs.declared.asks.Transfer.{Transfer}
use Rattle.rate_plan.specs.declared.fault.Unplanned.{Unplanned}
use Rattle.rate_plan.specs.declared.fault.Unplanned.TheVariants.{TooManySessions, TooManyTransfers, NotGuaranteed, RateTooLarge, Rates as RatesRefused, Tree, Memory}
use Rattle.rate_plan.specs.declared.plan.TheConstants.{MAX_EXACT}
use Rattle.rate_plan.specs.declared.tens.TheConstants.{MAX_PLANNED}

-- no rate of a name under which the ask counts is above `MAX_PLANNED`
abbrev pub AreSmallFor : Rates → Ask → Type 0
AreSmallFor rates a = (n : Name) → IsTrue (bears rates n a) → rate_of rates n ≤ MAX_PLANNED

abbrev pub HasLarge : Rates → Type 0
HasLarge rates = (n : Name) × (MAX_PLANNED < rate_of rates n)

-- The sessions of transfers up to a place are not admitted; the name is one that they exceed.
pub record IsRefusedBy (rates : Rates) (ts : List Transfer) (place : ℕ)
    (name : Option Name) : Type 0 where
  pub asks : List Asker
  pub asked : AreAsked rates.share_by ts asks
  pub at : IsRefusedAt rates ts place
  pub exceeded : IfSome name (IsExceeded rates (map ask_in (take (place + 1) asks)))

abbrev pub IsAdmissionFault : Rates → List Transfer → Unplanned → Type 0
IsAdmissionFault rates ts (NotGuaranteed place name) = IsRefusedBy rates ts place name
IsAdmissionFault rates ts Memory = ⊤
IsAdmissionFault rates ts fault = ⊥

-- no rate above `MAX_PLANNED` is that of a name under which an ask of the transfers counts
abbrev pub AreSmallForAll : Rates → List Transfer → Type 0
AreSmallForAll rates ts =
    (asks : List Asker) × AreAsked rates.share_by ts asks
    × All (λ x. AreSmallFor rates (ask_in x)) asks

-- the fault of a tree, of its rates, or of memory
abbrev pub IsTreeFault : Unplanned → Type 0
IsTreeFault (RatesRefused fault) = ⊤
IsTreeFault (Tree fault) = ⊤
IsTreeFault Memory = ⊤
IsTreeFault fault = ⊥

-- the fault of transfers that have sessions and lanes
abbrev pub IsPlanFault : Rates → List Transfer → Unplanned → Type 0
IsPlanFault rates ts (NotGuaranteed place name) = IsRefusedBy rates ts place name
IsPlanFault rates ts RateTooLarge = (MAX_EXACT < length ts) × HasLarge rates
IsPlanFault rates ts fault = IsTreeFault fault

-- the fault of transfers that are not planned
abbrev pub IsUnplanned : Rates → ℕ → ℕ → List Transfer → Unplanned → Type 0
IsUnplanned rates sessions lanes ts TooManySessions = sessions < length ts
IsUnplanned rates sessions lanes ts TooManyTransfers = lanes < length ts
IsUnplanned rates sessions lanes ts fault = IsPlanFault rates ts fault
