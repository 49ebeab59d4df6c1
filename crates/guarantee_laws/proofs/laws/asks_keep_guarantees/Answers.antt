use Rattle.guarantee_laws.proofs.Tenths.{tenth_is_enough}
use Rattle.guarantee_laws.proofs.Sure.{asks_are_sure, asks_keep_guarantees}
use Rattle.guarantee_laws.proofs.laws.asks_keep_guarantees.Goals as goal

pub returns : goal.returns
returns c =
    let begin = c.histories_keep_rates.ensures.begin in
    let stay = c.histories_keep_rates.ensures.stay in
    let changed = c.stretches_keep_rates.ensures.changed in
    let next = c.guarantees_are_offered.ensures.next in
    let gives = c.guarantees_are_kept.ensures.given in
    let parts = c.floors_fit_what_is_offered.ensures.left in
    record { sure = asks_are_sure begin stay changed next gives parts; kept = asks_keep_guarantees begin stay changed next gives parts; tenth = tenth_is_enough }
