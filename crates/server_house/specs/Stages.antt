-- The progress of a server to its end: 0 at first, then the number of the last stage that has
-- begun.
use Rattle.std.specs.Prelude.{ℕ, ◌≤◌}
use Rattle.server_house.specs.declared.ending.ShutdownStage.{ShutdownStage}
use Rattle.server_house.specs.declared.ending.ShutdownStage.TheVariants.{Drain, Sessions, Lanes}

abbrev pub stage_number : ShutdownStage → ℕ
stage_number Drain = 1
stage_number Sessions = 2
stage_number Lanes = 3

abbrev pub HasBegun : ℕ → ShutdownStage → Type 0
HasBegun progress stage = stage_number stage ≤ progress
