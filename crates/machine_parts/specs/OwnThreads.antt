-- The threads that own files and sockets: what each is for, and what passes between them and those
-- who give them work.
use Rattle.std.specs.Prelude.{◌≡◌, ℕ, Bool, true, false, Option, Some, None, Result, Vec, is_some, option_map, String}
use Rattle.std.specs.Arc.{arc_value}
use Rattle.std.specs.declared.alloc.Global.{Global}
use Rattle.std.specs.declared.sync.Arc.{Arc}
use Rattle.status_keeper.specs.declared.cell.StatusCell.{StatusCell}
use Rattle.machine_parts.specs.declared.config_thread.ConfigReader.{ConfigReader}
use Rattle.machine_parts.specs.declared.config_thread.Reading.{Reading}
use Rattle.machine_parts.specs.declared.config_thread.Reading.TheVariants.{Idle, Asked, Done}
use Rattle.machine_parts.specs.declared.page_thread.PageSocket.{PageSocket}
use Rattle.machine_parts.specs.declared.page_thread.PageThread.{PageThread}
use Rattle.machine_parts.specs.declared.starting.Shown.{Shown}
use Rattle.machine_parts.specs.declared.threads.OwnThreads.{OwnThreads}
use Rattle.machine_parts.specs.declared.threads.ReadPaths.{ReadPaths}

-- the file is to be read
abbrev pub is_asked : Reading → Bool
is_asked Idle = false
is_asked Asked = true
is_asked (Done octets) = false

-- the octets that were read, or the reason for which there are none
abbrev pub octets_of : Reading → Option (Result (Vec ℕ Global) (Option (String Global)))
octets_of Idle = None
octets_of Asked = None
octets_of (Done octets) = Some octets

-- they are taken once
abbrev pub after_take : Reading → Reading
after_take Idle = Idle
after_take Asked = Asked
after_take (Done octets) = Idle

abbrev pub for_path : {Z : Type 0} → Arc ConfigReader Z → String Global × Bool
for_path reader = ((arc_value reader).path, (arc_value reader).removes)

-- a file is read if its path is stated; it is removed then, or stays
abbrev pub IsReader : {Z : Type 0} → Bool → Option (String Global) → Option (Arc ConfigReader Z)
    → Type 0
IsReader removes path reader =
    option_map (λ thread. for_path thread) reader ≡ option_map (λ at. (at, removes)) path

abbrev pub for_socket : {Z : Type 0} → Arc PageThread Z → PageSocket × Arc StatusCell Global
for_socket page = ((arc_value page).socket, (arc_value page).cell)

-- a page is served at the socket, if there is one, from the cell
abbrev pub IsServed : {Z : Type 0} → Arc StatusCell Global → Option PageSocket
    → Option (Arc PageThread Z) → Type 0
IsServed cell socket page =
    option_map (λ thread. for_socket thread) page ≡ option_map (λ at. (at, cell)) socket

-- Threads that own what is to be read and shown: the configuration stays once it is read, and the
-- end file is removed.
pub record AreStarted (read : ReadPaths) (shown : Shown) (cell : Arc StatusCell Global)
    (threads : OwnThreads) : Type 0 where
  pub reader : IsReader false read.config threads.reader
  pub ender : IsReader true read.end threads.ender
  pub running : is_some threads.running ≡ is_some shown.running
  pub status : is_some threads.status ≡ is_some shown.status
  pub page : IsServed cell shown.page threads.page
