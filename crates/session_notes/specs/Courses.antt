-- The words of what held a transfer back.
use Rattle.std.specs.Prelude.{ℕ, ◌+◌, ◌*◌, ◌/◌, ◌||◌, Bool, true, false, List, [], ◌∷◌, ◌++◌, codes, Option, None, Some, if◌then◌else◌, nat_eq, nat_lt, option_map}
use Rattle.std.specs.Fmt.{◌++?◌, debug_str, decimal}
use Rattle.round_tally.specs.declared.held.HeldTally.{HeldTally}
use Rattle.server_house.specs.declared.server_hooks.TransferKind.{TransferKind}
use Rattle.server_house.specs.declared.server_hooks.TransferKind.TheVariants.{Sent, Received, Listed}
use Rattle.session_notes.specs.declared.courses.CourseText.{CourseText}
use Rattle.session_notes.specs.declared.courses.PlainPart.{PlainPart}
use Rattle.session_notes.specs.declared.courses.NamedPart.{NamedPart}
use Rattle.session_notes.specs.declared.courses.UnmetText.{UnmetText}
use Rattle.session_notes.specs.declared.courses.HeldText.{HeldText}
use Rattle.session_notes.specs.declared.courses.TheConstants.{SECOND}

abbrev pub all_of : HeldTally → ℕ
all_of r = r.server + r.direction + r.group + r.user + r.session + r.nothing

-- a part of all in per cent, rounded down
abbrev pub percent_of : ℕ → ℕ → ℕ
percent_of part all = if nat_eq all 0 then 0 else part * 100 / all

-- the direction of a transfer, after a blank
abbrev pub way_of : TransferKind → List ℕ
way_of Sent = codes " down"
way_of Received = codes " up"
way_of Listed = codes " down"

abbrev pub lead_of : Bool → List ℕ
lead_of true = codes ", "
lead_of false = codes ", held by "

-- words, and after a blank the name, if there is one, in quotation marks and escaped
abbrev pub named : List ℕ → Option (List ℕ) → Option (List ℕ)
named words None = Some words
named words (Some name) = Some words ++? Some (codes " ") ++? debug_str name

-- a limit and its part; nothing for a part of none
abbrev pub part_of : Bool → List ℕ → Option (List ℕ) → List ℕ → ℕ → Option (List ℕ)
part_of more kind whose way percent =
    if nat_eq percent 0 then Some []
    else named (lead_of more ++ kind) whose
    ++? Some (way ++ codes " " ++ decimal percent ++ codes " %")

abbrev pub plain_part : PlainPart → Option (List ℕ)
plain_part p = part_of p.is_more p.kind.now None p.way.now p.percent

abbrev pub named_part : NamedPart → Option (List ℕ)
named_part p =
    part_of p.is_more p.kind.now (option_map (λ name. name.now) p.whose) p.way.now p.percent

-- a guarantee that was not met for a second or more
abbrev pub unmet_of : ℕ → ℕ → List ℕ
unmet_of guaranteed micros =
    if nat_lt micros SECOND then []
    else codes ", guarantee of " ++ decimal guaranteed ++ codes " not met for "
    ++ decimal (micros / SECOND) ++ codes " s"

abbrev pub unmet_text : UnmetText → Option (List ℕ)
unmet_text u = Some (unmet_of u.guaranteed u.micros)

-- some of these parts are there
abbrev pub any : List ℕ → Bool
any [] = false
any (n ∷ ns) = any ns || nat_lt 0 n

abbrev pub held_text : HeldText → Option (List ℕ)
held_text h =
    plain_part h.server ++? plain_part h.direction ++? named_part h.group ++? named_part h.user
    ++? plain_part h.session ++? plain_part h.client

-- each limit that held a transfer of a user back, with its part of the rounds, the outer one first
abbrev pub held_of : CourseText → Option (List ℕ)
held_of c =
    let r = c.course.rounds in
    let way = way_of c.kind in
    let group = option_map (λ name. name.now) c.course.group in
    let server = percent_of r.server (all_of r) in
    let direction = percent_of r.direction (all_of r) in
    let groups = percent_of r.group (all_of r) in
    let users = percent_of r.user (all_of r) in
    let session = percent_of r.session (all_of r) in
    part_of false (codes "server") None [] server
    ++? part_of (any (server ∷ [])) (codes "server") None way direction
    ++? part_of (any (direction ∷ server ∷ [])) (codes "group") group way groups
    ++? part_of (any (groups ∷ direction ∷ server ∷ [])) (codes "user") (Some c.user.now) way users
    ++? part_of (any (users ∷ groups ∷ direction ∷ server ∷ [])) (codes "session") None way session
    ++? part_of (any (session ∷ users ∷ groups ∷ direction ∷ server ∷ [])) (codes "client") None []
    (percent_of r.nothing (all_of r))

-- the same, and for how long its guarantee was not met
abbrev pub course_text : CourseText → Option (List ℕ)
course_text c = held_of c ++? Some (unmet_of c.course.guaranteed c.course.unmet)
