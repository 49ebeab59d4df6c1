use Rattle.std.proofs.Common.{◌≡◌, take, None}
use Rattle.std.specs.List.{fold}
use Rattle.sheet_commands.specs.Frames.{level_step}
use Rattle.sheet_commands.proofs.frame.level_of.Given as goal

abbrev pub invariant-loop-place : goal.invariant-loop-place
invariant-loop-place l =
    record { level = l.level; before = l.before } ≡ fold level_step (record { level = None; before = 0 }) (take l.place-index l.placed)
