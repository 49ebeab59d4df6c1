-- Limits of a round that are those of the round before.
use Rattle.std.proofs.Common.{◌≡◌, ℕ, ◌<◌, List, sym, ap, ◌∙◌}
use Rattle.std.specs.Prelude.{nat_le}
use Rattle.std.proofs.lemmas.Bool.{cond-false, lt-leb}
use Rattle.line_rates.specs.Rates.{Rates}
use Rattle.round_pace.specs.declared.credit.Credit.{Credit}
use Rattle.round_pace.specs.declared.paced.GroupPace.{GroupPace}
use Rattle.round_pace.specs.declared.paced.UserPace.{UserPace}
use Rattle.round_pace.specs.Handed.{AreHanded}
use Rattle.round_pace.specs.Offered.{offer_all, offer_round, refill_all, with_offered}
use Rattle.round_pace.specs.Paced.{Paced}

-- the same limits, if no row of a group or a user has changed
pub handed_still : (begun : ℕ) (server down up : Credit) (gs hs : List GroupPace) (us vs : List UserPace) (offered : Rates) → hs ≡ gs → vs ≡ us
    → AreHanded begun server down up gs us offered → AreHanded begun server down up hs vs offered
handed_still begun server down up gs hs us vs offered same_groups same_users handed =
    (λ i. AreRates (same_groups i) (same_users i)) ∙ handed
  where
    AreRates : List GroupPace → List UserPace → Rates
    AreRates xs ys = Rattle.round_pace.specs.Offered.left_rates (record { begun = begun; moment = 0; server = server; down = down; up = up; groups = xs; users = ys; offered = offered })

-- a round of a tick that has begun, if the limits are those of the rows
pub offered_again : (tick : ℕ) (p : Paced) → tick < p.begun → offer_all p ≡ p.offered
    → with_offered p.offered p ≡ offer_round tick p
offered_again tick p later same =
    let begun : refill_all tick p ≡ p = cond-false (nat_le p.begun tick) _ p (lt-leb p.begun tick later) in
    ap (λ r. with_offered r p) (sym same) ∙ sym (ap (λ q. with_offered (offer_all q) q) begun)
