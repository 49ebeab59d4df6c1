-- The effect of a session on a host that has its floors to itself.
use Rattle.std.specs.Prelude.{◌≡◌}
use Rattle.rate_floors.specs.Promises.{Promises, after_release}
use Rattle.control_session.specs.Calls.{HostCall}
use Rattle.control_session.specs.Calls.HostCall.{Lent, Released}

-- floors change only in a step and by a release
abbrev pub FloorsBy : {H A S R K : Type 0} → (H → Promises) → H → HostCall A S R K → H → Type 0
FloorsBy floors old (Lent session moment users store store' promises promises') new =
    (promises ≡ floors old) × (floors new ≡ promises')
FloorsBy floors old (Released user) new = floors new ≡ after_release (floors old) user
FloorsBy floors old _ new = floors new ≡ floors old

-- a host with its floors to itself: no other session has them
abbrev pub HasFloors : {H A S R K : Type 0} → (H → HostCall A S R K → H → Type 0) → (H → Promises)
    → Type 0
HasFloors {H} {A} {S} {R} {K} Does floors =
    (old new : H) (call : HostCall A S R K) → Does old call new → FloorsBy floors old call new
