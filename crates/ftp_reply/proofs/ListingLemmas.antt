-- The parts of a line, joined one way and the other.
use Rattle.std.proofs.Common.{◌≡◌, ℕ, List, [], ◌++◌, codes, append_assoc, append-nil}

pub list_parts : (mode size month day year name : List ℕ)
    → mode ++ (codes " 1 ftp ftp " ++ (size ++ (codes " " ++ (month ++ (codes " " ++ (day ++ (codes "  " ++ (year ++ (codes " " ++ name)))))))))
    ≡ mode ++ codes " 1 ftp ftp " ++ size ++ codes " " ++ month ++ codes " " ++ day ++ codes "  " ++ year ++ codes " " ++ name
list_parts mode size month day year name = simp append_assoc

pub fact_parts : (kind size modified perm path : List ℕ)
    → ((((kind ++ size) ++ modified) ++ perm) ++ codes " ") ++ path ≡ (kind ++ (size ++ (modified ++ (perm ++ [])))) ++ codes " " ++ path
fact_parts kind size modified perm path = simp (append_assoc, append-nil)
