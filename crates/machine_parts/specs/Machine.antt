-- The requests of the program to the machine: files, and the address of the page.
use Rattle.std.specs.Prelude.{◌≡◌, ℕ, true, [], ◌∷◌}
use Rattle.std.specs.Fs.{new_options, with_append, with_create, with_create_new, with_read, with_write}
use Rattle.std.specs.Net.Addr.{ipv4_octets}
use Rattle.std.specs.Net.Socket.{v4_ip, v4_port}
use Rattle.std.specs.declared.fs.options.OpenOptions.{OpenOptions}
use Rattle.std.specs.declared.net.socket_addr.SocketAddr.{SocketAddr}
use Rattle.std.specs.declared.net.socket_addr.SocketAddr.TheVariants.{V4, V6}

-- a log: it is created if it is not there, it can be read, and each write goes to its end
abbrev pub log_options : OpenOptions
log_options = with_create (with_append (with_read new_options true) true) true

-- a new file at a path without an entry: an entry that exists, even a link, is refused
abbrev pub new_file_options : OpenOptions
new_file_options = with_create_new (with_write new_options true) true

-- the address of a port of this machine that no other machine reaches
abbrev pub IsOwn : SocketAddr → ℕ → Type 0
IsOwn (V4 socket) port =
    (ipv4_octets (v4_ip socket) ≡ 127 ∷ 0 ∷ 0 ∷ 1 ∷ []) × (v4_port socket ≡ port)
IsOwn (V6 socket) port = ⊥
