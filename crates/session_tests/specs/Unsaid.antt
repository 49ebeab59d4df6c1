-- The effect of a call on a host of tests is not specified.
use Rattle.std.specs.Prelude.{⊤}
use Rattle.control_session.specs.Calls.{HostCall}

abbrev pub AnyCall : {H A S R K : Type 0} → H → HostCall A S R K → H → Type 0
AnyCall old call new = ⊤
