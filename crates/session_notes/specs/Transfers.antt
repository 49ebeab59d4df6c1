-- The words of transfers.
use Rattle.std.specs.Prelude.{◌≡◌, ℕ, ◌/◌, ◌%◌, Bool, true, false, List, [], ◌++◌, codes, Option, None, Some, is_none}
use Rattle.std.specs.Borrow.{Bor}
use Rattle.std.specs.Fmt.{◌++?◌, debug_str, decimal}
use Rattle.server_house.specs.declared.server_hooks.ClientSession.{ClientSession}
use Rattle.server_house.specs.declared.server_hooks.TransferKind.{TransferKind}
use Rattle.server_house.specs.declared.server_hooks.TransferKind.TheVariants.{Sent, Received, Listed}
use Rattle.server_house.specs.declared.server_hooks.TransferRecord.{TransferRecord}
use Rattle.session_notes.specs.Words.{words_with}
use Rattle.transfer_log.specs.declared.line.FileTransfer.{FileTransfer}

abbrev pub transfer_words : TransferKind → Bool → List ℕ
transfer_words Sent true = codes "sent"
transfer_words Received true = codes "received"
transfer_words Listed true = codes "listed"
transfer_words Sent false = codes "not sent whole"
transfer_words Received false = codes "not received whole"
transfer_words Listed false = codes "not listed whole"

-- seconds with their thousandths, cut off
abbrev pub seconds_text : ℕ → List ℕ
seconds_text micros =
    decimal (micros / 1_000_000) ++ codes "." ++ decimal (micros / 100_000 % 10)
    ++ decimal (micros / 10_000 % 10) ++ decimal (micros / 1_000 % 10) ++ codes " s"

-- the words and the path, if it is known, the user, the octets and the seconds; names are in
-- quotation marks, escaped
abbrev pub transfer_text : TransferRecord → Option (List ℕ)
transfer_text transfer =
    words_with (transfer_words transfer.kind (is_none transfer.cause)) transfer.path
    ++? Some (codes ": user ") ++? debug_str transfer.user.now
    ++? Some (codes ", " ++ decimal transfer.octets ++ codes " octets, "
    ++ seconds_text transfer.micros)

-- the path, empty if it is not known
abbrev pub known_path : Option (Bor (List ℕ)) → List ℕ
known_path None = []
known_path (Some path) = path.now

abbrev pub IsSentOr : TransferKind → Bool → Type 0
IsSentOr Sent sent = sent ≡ true
IsSentOr Received sent = sent ≡ false
IsSentOr Listed sent = ⊥

-- The transfer of a file is that of the record, of this session and at this second; a listing has
-- none.
abbrev pub IsFileTransfer : ClientSession → TransferRecord → ℕ → Option FileTransfer → Type 0
IsFileTransfer session transfer ended None = transfer.kind ≡ Listed
IsFileTransfer session transfer ended (Some file) =
    (file.ended ≡ ended) × (file.micros ≡ transfer.micros) × (file.peer ≡ session.peer)
    × (file.octets ≡ transfer.octets) × (file.path.now ≡ known_path transfer.path)
    × (file.is_text ≡ transfer.is_text) × IsSentOr transfer.kind file.is_sent
    × (file.user.now ≡ transfer.user.now) × (file.is_whole ≡ is_none transfer.cause)
