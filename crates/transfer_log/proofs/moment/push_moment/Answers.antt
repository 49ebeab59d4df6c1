use Rattle.std.proofs.Common.{◌≡◌, ◌++◌, ℕ, ap}
use Rattle.transfer_log.specs.Moments.{clock_text, date_text, four_digits}
use Rattle.transfer_log.proofs.Joins.{on_ok, three}
use Rattle.transfer_log.proofs.moment.push_moment.Goals as goal

pub returns : goal.returns
returns c =
    let d = c.date_of-date.result in
    record {
      appended = on_ok c.push_four.result _ _
          (λ last. (
            date_text d ++ clock_text c.args.seconds ++ four_digits c.year_of-year.result,
            record {
              date = d;
              falls_on = c.date_of-date.ensures.falls_on;
              text_is = ap (λ (n : ℕ). date_text d ++ clock_text c.args.seconds ++ four_digits n) c.year_of-year.ensures.year;
            },
            three _ _ _ _ _ _ _ c.in_ok-push_date.ensures.appended c.in_ok-push_clock.ensures.appended last,
          ))
          c.push_four.ensures.appended;
    }
