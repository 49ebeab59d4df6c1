use Rattle.guarantee_laws.proofs.Accounts.{accounted}
use Rattle.guarantee_laws.proofs.Kept.{over_time, to_the_octet}
use Rattle.guarantee_laws.proofs.Tenths.{seconds_are_whole}
use Rattle.guarantee_laws.proofs.Uncut.{nothing_is_cut}
use Rattle.guarantee_laws.proofs.laws.guarantees_are_kept_over_time.Goals as goal

pub returns : goal.returns
returns c =
    let begin = c.histories_keep_rates.ensures.begin in
    let stay = c.histories_keep_rates.ensures.stay in
    let changed = c.stretches_keep_rates.ensures.changed in
    let next = c.guarantees_are_offered.ensures.next in
    let gives = c.guarantees_are_kept.ensures.given in
    record {
      accounted = accounted begin stay changed;
      kept = over_time begin stay changed next gives;
      octet = to_the_octet begin stay changed next gives;
      uncut = nothing_is_cut begin stay changed next gives;
      second = seconds_are_whole;
    }
