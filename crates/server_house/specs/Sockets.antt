-- Sockets of data connections.
use Rattle.std.specs.Prelude.{Option, Some, Result, Ok, Err}
use Rattle.std.specs.Arc.{arc_value}
use Rattle.std.specs.declared.io.Error.{Error}
use Rattle.std.specs.declared.net.tcp.TcpStream.{TcpStream}
use Rattle.server_house.specs.declared.connection.DataConnection.{DataConnection}

-- the socket, which all handles of a connection have
abbrev pub socket_of : DataConnection → TcpStream
socket_of connection = (arc_value connection.socket).stream

-- the fault of a socket, or of asking for it
abbrev pub fault_in : Result (Option Error) Error → Option Error
fault_in (Ok fault) = fault
fault_in (Err error) = Some error
