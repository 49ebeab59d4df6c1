-- The lines that a sharing prints.
use Rattle.std.specs.Prelude.{ℕ, List, [], ◌∷◌, ◌++◌, Option, Some, None, codes}
use Rattle.std.specs.List.{flat_map, sum_by}
use Rattle.std.specs.Borrow.{Bor}
use Rattle.std.specs.Fmt.{decimal}
use Rattle.sheet_commands.specs.declared.share_lines.Share.{Share}

-- the words after a want that is not met: the branch that limits it
abbrev pub holding : Option (Bor (List ℕ)) → List ℕ
holding None = []
holding (Some node) = codes " full " ++ node.now

-- `PATH G of W`, and after it `full NODE` if a branch limits the want
abbrev pub share_line : Share → List ℕ
share_line s =
    s.path.now ++ codes " " ++ decimal s.grant ++ codes " of " ++ decimal s.want ++ holding s.full
    ++ 10 ∷ []

abbrev pub total_line : ℕ → List ℕ
total_line octets = codes "total " ++ decimal octets ++ 10 ∷ []

-- the sum of the grants
abbrev pub total : List Share → ℕ
total shares = sum_by (λ s. s.grant) shares

-- the lines of the wants, and last their total
abbrev pub share_lines : List Share → List ℕ
share_lines shares = flat_map share_line shares ++ total_line (total shares)
