-- The levels of notes.
use Rattle.log.specs.declared.level.Level.{Level}
use Rattle.log.specs.declared.level.Level.TheVariants.{Warn, Info}
use Rattle.server_house.specs.declared.cause.EndCause.{EndCause}
use Rattle.server_house.specs.declared.cause.EndCause.TheVariants.{Aborted, NothingPrepared, NoClient, NotConnected, NoMemory, File, Connection, ControlLost, ServerEnds, SessionEnded}
use Rattle.server_house.specs.declared.cause.EndCause.TheVariants as ended
use Rattle.server_house.specs.declared.server_hooks.NotServed.{NotServed}
use Rattle.server_house.specs.declared.server_hooks.NotServed.TheVariants.{NotAdmitted, NoThread, Ending}
use Rattle.server_house.specs.declared.server_hooks.ServerEvent.{ServerEvent}
use Rattle.server_house.specs.declared.server_hooks.ServerEvent.TheVariants.{NotBound, NotAccepted, FewDescriptors, Drains, DrainTimedOut, Waits, Misplaced}
use Rattle.server_house.specs.declared.server_hooks.SessionEvent.{SessionEvent}
use Rattle.server_house.specs.declared.server_hooks.SessionEvent.TheVariants.{Refused, NoPort, TimedOut, Ended}
use Rattle.session_notes.specs.declared.words.Noted.{Noted}
use Rattle.session_notes.specs.declared.words.Noted.TheVariants.{Connect, Disconnect, Login, LoginFailed, Logout}

abbrev pub level_of_event : Noted → Level
level_of_event Connect = Info
level_of_event Disconnect = Info
level_of_event Login = Info
level_of_event LoginFailed = Warn
level_of_event Logout = Info

-- a lack or a fault of the server
abbrev pub level_of_cause : EndCause → Level
level_of_cause Aborted = Info
level_of_cause NothingPrepared = Info
level_of_cause NoClient = Info
level_of_cause (ended.NotAccepted error) = Warn
level_of_cause (NotConnected error) = Info
level_of_cause NoMemory = Warn
level_of_cause File = Warn
level_of_cause ended.Refused = Warn
level_of_cause (Connection error) = Info
level_of_cause ControlLost = Info
level_of_cause ServerEnds = Info
level_of_cause SessionEnded = Info

abbrev pub level_of_session : SessionEvent → Level
level_of_session (Refused why) = Warn
level_of_session (NoPort error) = Warn
level_of_session (TimedOut why) = Info
level_of_session Ended = Info

abbrev pub level_of_refusal : NotServed → Level
level_of_refusal (NotAdmitted why) = Warn
level_of_refusal NoThread = Warn
level_of_refusal Ending = Info

abbrev pub level_of_server : ServerEvent → Level
level_of_server (NotBound address port error) = Warn
level_of_server (NotAccepted error) = Warn
level_of_server (FewDescriptors limit needed) = Warn
level_of_server (Drains sessions) = Info
level_of_server (DrainTimedOut sessions) = Warn
level_of_server (Waits calls) = Warn
level_of_server (Misplaced lane) = Warn
