-- Calls of a gate, and their answers.
use Rattle.std.specs.Prelude.{◌≡◌, ◌++◌, ℕ, Bool, true, false, List, [], ◌∷◌, Option, Some, replicate}
use Rattle.std.specs.List.{flat_map}
use Rattle.transfer_worker.specs.declared.gate.Go.{Go}
use Rattle.transfer_worker.specs.declared.gate.Go.TheVariants.{On, Later, Stop}

-- one call of `pass`: the session, the octets moved by its job, and the answer
pub record PassCall : Type 0 where
  pub session : ℕ
  pub moved : ℕ
  pub go : Go

abbrev pub pass_call : ℕ → ℕ → Go → PassCall
pass_call session moved go = record { session = session; moved = moved; go = go }

-- a gate that records its calls has recorded these too, in this order
abbrev pub Passes : Option (List PassCall) → Option (List PassCall) → List PassCall → Type 0
Passes old new calls = (before : List PassCall) → old ≡ Some before → new ≡ Some (before ++ calls)

-- the calls up to this answer, after `later` answers Later
abbrev pub calls_until : ℕ → ℕ → Go → ℕ → List PassCall
calls_until session moved go laters =
    replicate laters (pass_call session moved Later) ++ pass_call session moved go ∷ []

-- the calls of a worker that may go on repeatedly, each time after this many answers Later
abbrev pub leaves : ℕ → ℕ → List ℕ → List PassCall
leaves session moved laters = flat_map (calls_until session moved On) laters

-- the answer that ends the calls
abbrev pub go_of : Bool → Go
go_of true = On
go_of false = Stop
