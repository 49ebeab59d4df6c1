use Rattle.guarantee_laws.proofs.Kept.{are_owed, is_prompt}
use Rattle.guarantee_laws.proofs.laws.rounds_are_owed_a_guarantee.Goals as goal

pub returns : goal.returns
returns c =
    let begin = c.histories_keep_rates.ensures.begin in
    let stay = c.histories_keep_rates.ensures.stay in
    let changed = c.stretches_keep_rates.ensures.changed in
    let next = c.guarantees_are_offered.ensures.next in
    let gives = c.guarantees_are_kept.ensures.given in
    record { owed = are_owed begin stay changed next gives; prompt = is_prompt begin stay changed next gives }
