use Rattle.std.proofs.Common.{◌≡◌, ◌++◌, ◌∷◌, map, take}
use Rattle.std.specs.List.{flat_map}
use Rattle.status_page.specs.Metrics.{unmet_head, unmet_rows}
use Rattle.status_page.specs.Shown.{row_of}
use Rattle.status_page.proofs.users.push_unmet.Given as goal

-- the rows are the head, and those of the users so far
abbrev pub invariant-loop-account : goal.invariant-loop-account
invariant-loop-account l =
    map row_of l.rows.items ≡ map row_of l.fn.rows.items ++ (unmet_head ∷ flat_map unmet_rows (take l.account-index l.accounts))
