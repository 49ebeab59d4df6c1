use Rattle.std.proofs.Common.{sym}
use Rattle.virtual_path.proofs.Walks.{path_text-full, path_text-empty}
use Rattle.virtual_path.proofs.walk.shown.Goals as goal

pub returns-then-is_empty : goal.returns-then-is_empty
returns-then-is_empty c = record { shown = λ path text. path_text-empty _ path text (sym c.if-is_empty.ensures) }

pub returns-else-is_empty : goal.returns-else-is_empty
returns-else-is_empty c = record { shown = λ path text. path_text-full _ path text (sym c.if-is_empty.ensures) }
