-- Addresses of connections.
use Rattle.std.specs.Prelude.{◌≡◌, ⊤, ℕ, List, [], ◌∷◌, Option, Some, None}
use Rattle.std.specs.Net.Addr.{ipv4_octets}
use Rattle.std.specs.Net.Socket.{v4_ip, v4_port}
use Rattle.std.specs.declared.net.socket_addr.SocketAddr.{SocketAddr}
use Rattle.std.specs.declared.net.socket_addr.SocketAddr.TheVariants.{V4, V6}

-- the address and port of a socket; one of IPv6 has no such address
abbrev pub IsAddress : SocketAddr → List ℕ → ℕ → Type 0
IsAddress (V4 socket) address port =
    (ipv4_octets (v4_ip socket) ≡ address) × (v4_port socket ≡ port)
IsAddress (V6 socket) address port = ⊥

-- the octets of an IPv4 address; those of no host for another
abbrev pub IsOctetsOf : SocketAddr → List ℕ → Type 0
IsOctetsOf (V4 socket) octets = octets ≡ ipv4_octets (v4_ip socket)
IsOctetsOf (V6 socket) octets = octets ≡ 0 ∷ 0 ∷ 0 ∷ 0 ∷ []

-- the socket has this address, at any port
abbrev pub IsFrom : SocketAddr → List ℕ → Type 0
IsFrom (V4 socket) address = ipv4_octets (v4_ip socket) ≡ address
IsFrom (V6 socket) address = ⊥

-- the socket has the peer's address; any has it if no peer is given
abbrev pub IsWanted : Option (List ℕ) → SocketAddr → Type 0
IsWanted None from = ⊤
IsWanted (Some peer) from = IsFrom from peer
