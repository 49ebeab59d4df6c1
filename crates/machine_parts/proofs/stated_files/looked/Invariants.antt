use Rattle.std.proofs.Common.{◌≡◌, map, take}
use Rattle.machine_parts.proofs.stated_files.looked.Given as goal

abbrev pub invariant-loop-path : goal.invariant-loop-path
invariant-loop-path l = map (λ one. one.path.now) l.stated.items ≡ map (λ t. t.now) (take l.path-index l.paths)
