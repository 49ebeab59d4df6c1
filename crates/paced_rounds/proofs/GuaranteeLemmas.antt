-- What a run's rounds were offered, and the next one is.
use Rattle.std.proofs.Common.{ℕ, List, [], ◌∷◌, ◌++◌}
use Rattle.std.specs.Coded.{Coded, coded_ℕ}
use Rattle.std.specs.FinMap as finite
use Rattle.std.proofs.Math.Logic.{∥∥₁_map, ∥∥₁_elim}
use Rattle.std.proofs.Props.{props}
use Rattle.line_rates.specs.Rates.{Rates, Users, user_code}
use Rattle.round_pace.specs.Guaranteed.{IsGuaranteed, StretchesAreGuaranteed, NextIsGuaranteed}
use Rattle.round_pace.specs.Histories.{Held, rates_of}
use Rattle.round_pace.specs.Paced.{Paced}
use Rattle.round_pace.specs.Stretches.{Stretch}
use Rattle.paced_rounds.specs.History.{stretch_under, IsRun, WereGuaranteed}

pub run_guaranteed : StretchesAreGuaranteed → (p : Paced) (latest : ℕ) (ss : List Stretch) → ∥ IsRun p latest ss ∥₁ → WereGuaranteed p ss
run_guaranteed law p latest ss run = ∥∥₁_map run (λ r. (r.begun, law r.begun ss p r.lead))

users_code : Coded Users
users_code = finite.code coded_ℕ user_code

guaranteed-prop : (rates : Rates) (tick : ℕ) (p : Paced) → IsProp (IsGuaranteed rates tick p)
guaranteed-prop rates tick p = hlevel (props, users_code)

pub next_guaranteed : NextIsGuaranteed → (p : Paced) (latest : ℕ) (ss : List Stretch) (hs : List Held) → ∥ IsRun p latest (ss ++ stretch_under p hs ∷ []) ∥₁ → (tick : ℕ) → IsGuaranteed (rates_of p) tick p
next_guaranteed law p latest ss hs run tick = ∥∥₁_elim run (guaranteed-prop (rates_of p) tick p) (λ r. law r.begun ss (stretch_under p hs) p r.lead tick)
