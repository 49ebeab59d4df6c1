-- The words of notes.
use Rattle.std.specs.Prelude.{ℕ, ℤ, Bool, true, false, List, ◌++◌, codes, Option, Some, None, option_map}
use Rattle.std.specs.Borrow.{Bor}
use Rattle.std.specs.Fmt.{◌++?◌, debug_str, decimal}
use Rattle.std.specs.Net.Text.{ipv4_text}
use Rattle.std.specs.declared.alloc.Global.{Global}
use Rattle.std.specs.declared.io.ErrorKind.{ErrorKind}
use Rattle.std.specs.declared.io.ErrorKind.TheVariants.{WouldBlock}
use Rattle.std.specs.declared.io.ErrorKind.TheVariants as kind
use Rattle.line_rates.specs.declared.ask.Name.{Name}
use Rattle.line_rates.specs.declared.ask.Name.TheVariants.{Server, Direction, Group, User, Session}
use Rattle.line_rates.specs.declared.ask.Way.TheVariants.{Down, Up}
use Rattle.passive_ports.specs.declared.fault.AdmitFault.TheVariants.{TooMany, TooManyOfAddress, Memory}
use Rattle.server_house.specs.declared.cause.EndCause.{EndCause}
use Rattle.server_house.specs.declared.cause.EndCause.TheVariants.{Aborted, NothingPrepared, NoClient, NotConnected, NoMemory, File, Connection, ControlLost, ServerEnds, SessionEnded}
use Rattle.server_house.specs.declared.cause.EndCause.TheVariants as ended
use Rattle.server_house.specs.declared.server_hooks.ClientSession.{ClientSession}
use Rattle.server_house.specs.declared.server_hooks.NotServed.{NotServed}
use Rattle.server_house.specs.declared.server_hooks.NotServed.TheVariants.{NotAdmitted, NoThread, Ending}
use Rattle.server_house.specs.declared.server_hooks.ServerEvent.{ServerEvent}
use Rattle.server_house.specs.declared.server_hooks.ServerEvent.TheVariants.{NotBound, NotAccepted, FewDescriptors, Drains, DrainTimedOut, Waits, Misplaced}
use Rattle.server_house.specs.declared.server_hooks.SessionEvent.{SessionEvent}
use Rattle.server_house.specs.declared.server_hooks.SessionEvent.TheVariants.{Refused, NoPort, TimedOut, Ended}
use Rattle.server_house.specs.declared.server_hooks.SessionRefusal.TheVariants.{TooManyLogins, TooManyHeldLines, TooManySessions}
use Rattle.session_table.specs.declared.actions.HookCall.{HookCall}
use Rattle.session_table.specs.declared.actions.HookCall.TheVariants as hook
use Rattle.client_patience.specs.declared.waits.TimeOut.TheVariants as time
use Rattle.session_notes.specs.declared.words.Noted.{Noted}
use Rattle.session_notes.specs.declared.words.Noted.TheVariants.{Connect, Disconnect, Login, LoginFailed, Logout}
use Rattle.session_notes.specs.declared.words.NoteText.{NoteText}

abbrev pub event_words : Noted → List ℕ
event_words Connect = codes "connect"
event_words Disconnect = codes "disconnect"
event_words Login = codes "login"
event_words LoginFailed = codes "login failed"
event_words Logout = codes "logout"

-- the words, and after a blank the name, if there is one, in quotation marks and escaped
abbrev pub words_with : List ℕ → Option (Bor (List ℕ)) → Option (List ℕ)
words_with words None = Some words
words_with words (Some name) = Some words ++? Some (codes " ") ++? debug_str name.now

abbrev pub note_text : NoteText → Option (List ℕ)
note_text text = words_with (event_words text.event) text.name

-- the event of a note, and the name that it is about, if it has one
abbrev pub parts_of : NoteText → Noted × Option (List ℕ)
parts_of text = (text.event, option_map (λ name. name.now) text.name)

-- the note of each event; the end of a file's transfer has none of its own
abbrev pub note_of : HookCall Global → Option (Noted × Option (List ℕ))
note_of hook.Connect = Some (Connect, None)
note_of hook.Disconnect = Some (Disconnect, None)
note_of (hook.Login name) = Some (Login, Some name)
note_of (hook.LoginFailed name) = Some (LoginFailed, Some name)
note_of (hook.Logout name) = Some (Logout, Some name)
note_of _ = None

-- an error of this kind, with the number by which a call of the machine has reported it, if one
-- has, says that a limit of the server has passed
abbrev pub is_own_limit : ErrorKind → Option ℤ → Bool
is_own_limit WouldBlock code = true
is_own_limit kind.TimedOut None = true
is_own_limit kind.TimedOut (Some code) = false
is_own_limit _ code = false

-- the address of the client, and the number of the session
abbrev pub head_text : ClientSession → Option (List ℕ)
head_text session = Some (ipv4_text session.peer ++ codes " #" ++ decimal session.serial)

abbrev pub refusal_words : NotServed → List ℕ
refusal_words (NotAdmitted TooMany) = codes "too many connections"
refusal_words (NotAdmitted TooManyOfAddress) = codes "too many connections from this address"
refusal_words (NotAdmitted Memory) = codes "out of memory"
refusal_words NoThread = codes "no thread could be started"
refusal_words Ending = codes "the server ends"

abbrev pub cause_words : EndCause → List ℕ
cause_words Aborted = codes "aborted by the client"
cause_words NothingPrepared = codes "no data connection was prepared"
cause_words NoClient = codes "nobody connected to the passive port in time"
cause_words (ended.NotAccepted error) = codes "the client's connection could not be accepted"
cause_words (NotConnected error) = codes "the client's port could not be connected to"
cause_words NoMemory = codes "out of memory"
cause_words File = codes "the file could not be read or written"
cause_words ended.Refused = codes "the store refused it at its end"
cause_words (Connection error) = codes "the data connection failed"
cause_words ControlLost = codes "the control connection was lost"
cause_words ServerEnds = codes "the server ends"
cause_words SessionEnded = codes "the administrator ended the session"

abbrev pub session_words : SessionEvent → List ℕ
session_words (Refused TooManyLogins) = codes "refused: too many login attempts"
session_words (Refused TooManyHeldLines) = codes "refused: too many held lines"
session_words (Refused TooManySessions) = codes "refused: too many sessions of this user"
session_words (NoPort error) = codes "no passive port"
session_words (TimedOut time.Login) = codes "timed out without a login"
session_words (TimedOut time.Idle) = codes "timed out without a sign of life"
session_words Ended = codes "ended by the administrator"

-- a limit in the words of a plan
abbrev pub limit_words : Name → List ℕ
limit_words Server = codes "server"
limit_words (Direction Down) = codes "server down"
limit_words (Direction Up) = codes "server up"
limit_words (Group Down group) = codes "group down"
limit_words (Group Up group) = codes "group up"
limit_words (User Down user) = codes "user down"
limit_words (User Up user) = codes "user up"
limit_words (Session Down user session) = codes "session down"
limit_words (Session Up user session) = codes "session up"

abbrev pub server_words : ServerEvent → List ℕ
server_words (NotBound address port error) = codes "cannot listen on"
server_words (NotAccepted error) = codes "connections cannot be accepted"
server_words (FewDescriptors limit needed) = codes "too few open files are allowed"
server_words (Drains sessions) = codes "ends once all transfers have ended"
server_words (DrainTimedOut sessions) = codes "ends, and cuts transfers: the time for them is over"
server_words (Waits calls) = codes "calls of the machine"
server_words (Misplaced lane) =
    codes "fault of the program: nothing is settled without the part of lane"
