use Rattle.std.proofs.Common.{◌≡◌, ◌&&◌, drop, bytes_eq}
use Rattle.authorizer.proofs.password.is_same.Given as goal

-- whether they are the same is whether what was seen and what is left are
abbrev pub invariant-loop-index : goal.invariant-loop-index
invariant-loop-index l = (l.same && bytes_eq (drop l.index l.given) (drop l.index l.kept)) ≡ bytes_eq l.given l.kept
