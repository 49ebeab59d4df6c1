-- The ends of a wait at a door, and those who come in.
use Rattle.std.specs.Prelude.{◌≡◌, ℤ, pos, negsuc, Bool, true, false, nat_eq, if◌then◌else◌, Some, Result, Ok, Err}
use Rattle.std.specs.IoError.{error_kind, raw_os_error}
use Rattle.std.specs.declared.io.Error.{Error}
use Rattle.std.specs.declared.io.ErrorKind.{ErrorKind}
use Rattle.std.specs.declared.io.ErrorKind.TheVariants.{WouldBlock}
use Rattle.std.specs.declared.net.socket_addr.SocketAddr.{SocketAddr}
use Rattle.std.specs.declared.net.tcp.TcpStream.{TcpStream}
use Rattle.client_door.specs.declared.heard.Heard.{Heard}
use Rattle.client_door.specs.declared.heard.Heard.TheVariants.{Silence, Ring, Knock, Refusal}
use Rattle.client_door.specs.declared.heard.Arrival.{Arrival}
use Rattle.client_door.specs.declared.heard.Arrival.TheVariants.{Bell, Nobody, Client, Fault}

-- poll(2) reports no event of a descriptor
abbrev pub is_silent : ℤ → Bool
is_silent (pos events) = nat_eq events 0
is_silent (negsuc n) = false

-- a bell that was rung comes before a client
abbrev pub heard_of : ℤ → ℤ → Heard
heard_of door bell =
    if is_silent bell then (if is_silent door then Silence else Knock) else Ring

-- poll(2) answers -1 if it failed, and otherwise the number of descriptors with events
abbrev pub heard_by : ℤ → ℤ → ℤ → Heard
heard_by (negsuc n) door bell = Refusal
heard_by (pos count) door bell = if nat_eq count 0 then Silence else heard_of door bell

-- a client left before it was let in
abbrev pub has_left : ErrorKind → Bool
has_left WouldBlock = true
has_left _ = false

abbrev pub arrival_of : Result (TcpStream × SocketAddr) Error → Arrival
arrival_of (Ok client) = Client client.0 client.1
arrival_of (Err error) = if has_left (error_kind error) then Nobody else Fault error

-- a descriptor of the machine is not negative
abbrev pub IsDescriptor : ℤ → Type 0
IsDescriptor (pos n) = Unit {0}
IsDescriptor (negsuc n) = ⊥

-- the fault with the machine's error of this number
abbrev pub IsFaultOf : ℤ → Arrival → Type 0
IsFaultOf number Bell = ⊥
IsFaultOf number Nobody = ⊥
IsFaultOf number (Client stream from) = ⊥
IsFaultOf number (Fault error) = raw_os_error error ≡ Some number
