-- A handler without effect.
use Rattle.std.specs.Prelude.{◌≡◌}
use Rattle.handler_hooks.specs.Events.{Event}
use Rattle.session_host.specs.declared.silent.Silent.{Silent}

-- no call changes it
abbrev pub StaysSilent : Silent → Event → Silent → Type 0
StaysSilent old event new = new ≡ old
