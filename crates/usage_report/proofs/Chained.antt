-- Logs that are taken one after another.
use Rattle.std.proofs.Common.{List, [], ◌∷◌, ◌++◌, Option, refl, subst}
use Rattle.std.specs.Borrow.{Bor}
use Rattle.log_lines.specs.Words.{Octets}
use Rattle.usage_report.specs.Reports.{Gives, IsOneTaken, TakesLogs}
use Rattle.usage_report.specs.declared.report.LogSeen.{LogSeen}
use Rattle.usage_report.specs.declared.usage.Usage.{Usage}

-- a log that may have some octets by the later state may have them by the earlier one
pub one_sooner : (sooner later : Gives) (before after : Usage) (path : Bor Octets) (log : LogSeen) → ((p : Octets) (o : Option Octets) → later p o → sooner p o)
    → IsOneTaken later before after path log → IsOneTaken sooner before after path log
one_sooner sooner later before after path log stays taken = (taken.0, (taken.1.0, stays path.now taken.1.0 taken.1.1, taken.1.2))

pub one_more : (gives : Gives) (paths : List (Bor Octets)) (logs : List LogSeen) (path : Bor Octets) (log : LogSeen) (before between after : Usage) → TakesLogs gives paths logs before between
    → IsOneTaken gives between after path log → TakesLogs gives (paths ++ path ∷ []) (logs ++ log ∷ []) before after
one_more gives [] [] path log before between after taken one =
    (after, subst (λ (u : Usage). IsOneTaken gives u after path log) taken one, refl)
one_more gives [] (l ∷ ls) path log before between after taken one = absurd taken
one_more gives (p ∷ ps) [] path log before between after taken one = absurd taken
one_more gives (p ∷ ps) (l ∷ ls) path log before between after taken one =
    (taken.0, taken.1, one_more gives ps ls path log taken.0 between after taken.2 one)
