use Rattle.std.proofs.Common.{◌≡◌, map}
use Rattle.std.specs.List.{fold, AllByRecursion}
use Rattle.std.specs.String.{string_bytes}
use Rattle.virtual_path.specs.Path.{Path, slashed, through, HasNoSlash}
use Rattle.virtual_path.proofs.walk.walk.Given as goal

abbrev pub invariant-loop-name : goal.invariant-loop-name
invariant-loop-name g l = (path : Path) → AllByRecursion HasNoSlash path → string_bytes l.fn.text ≡ slashed path
    → string_bytes l.text ≡ slashed (fold through path (map (λ name. name.now) l.yielded))
