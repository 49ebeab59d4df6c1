-- The codes of commands (RFC 959, section 5.3; RFC 1123, section 4.1.3.1; RFC 2228, 2389, 2428,
-- 2640, 3659 and 7151).
use Rattle.std.specs.Prelude.{ℕ, List, [], ◌∷◌, Option, option_map, codes}
use Rattle.std.specs.List.{find}
use Rattle.ftp_wire.specs.declared.commands.Command.{Command}
use Rattle.ftp_wire.specs.declared.commands.Command.TheVariants as command
use Rattle.ftp_wire.specs.declared.table.Verb.{Verb}
use Rattle.ftp_wire.specs.declared.table.Verb.TheVariants as verb
use Rattle.ftp_wire.specs.declared.table.Bare.{Bare}
use Rattle.ftp_wire.specs.declared.table.Bare.TheVariants as bare
use Rattle.ftp_wire.specs.declared.table.Text.{Text}
use Rattle.ftp_wire.specs.declared.table.Text.TheVariants as text
use Rattle.ftp_wire.specs.declared.table.Form.{Form}
use Rattle.ftp_wire.specs.declared.table.Form.TheVariants as form
use Rattle.ftp_wire.specs.declared.table.Optional.{Optional}
use Rattle.ftp_wire.specs.declared.table.Optional.TheVariants as optional
use Rattle.ftp_wire.specs.declared.table.Listing.{Listing}
use Rattle.ftp_wire.specs.declared.table.Listing.TheVariants as listing
use Rattle.ftp_wire.specs.declared.table.Known.{Known}
use Rattle.ftp_wire.specs.declared.table.Known.TheVariants.{NotServed, Served}
use Rattle.ftp_wire.specs.declared.table.Row.{Row}
use Rattle.ftp_wire.specs.Words.{same_letters}

-- the commands that take no argument: the code, and the command
abbrev pub bare_row : {T : Type 0} → Bare → List ℕ × Command T
bare_row bare.Cdup = (codes "CDUP", command.Cdup)
bare_row bare.Quit = (codes "QUIT", command.Quit)
bare_row bare.Rein = (codes "REIN", command.Rein)
bare_row bare.Pasv = (codes "PASV", command.Pasv)
bare_row bare.Abor = (codes "ABOR", command.Abor)
bare_row bare.Pwd = (codes "PWD", command.Pwd)
bare_row bare.Syst = (codes "SYST", command.Syst)
bare_row bare.Feat = (codes "FEAT", command.Feat)
bare_row bare.Noop = (codes "NOOP", command.Noop)

-- the commands that need a text: the code, and the command with its text
abbrev pub text_row : {T : Type 0} → Text → List ℕ × (T → Command T)
text_row text.User = (codes "USER", command.User)
text_row text.Cwd = (codes "CWD", command.Cwd)
text_row text.Retr = (codes "RETR", command.Retr)
text_row text.Stor = (codes "STOR", command.Stor)
text_row text.Appe = (codes "APPE", command.Appe)
text_row text.Rnfr = (codes "RNFR", command.Rnfr)
text_row text.Rnto = (codes "RNTO", command.Rnto)
text_row text.Dele = (codes "DELE", command.Dele)
text_row text.Rmd = (codes "RMD", command.Rmd)
text_row text.Mkd = (codes "MKD", command.Mkd)
text_row text.Size = (codes "SIZE", command.Size)
text_row text.Mdtm = (codes "MDTM", command.Mdtm)

-- the commands that may have a text: the code, and the command with its text or none
abbrev pub optional_row : {T : Type 0} → Optional → List ℕ × (Option T → Command T)
optional_row optional.Pass = (codes "PASS", command.Pass)
optional_row optional.Allo = (codes "ALLO", command.Allo)
optional_row optional.Help = (codes "HELP", command.Help)
optional_row optional.Mlsd = (codes "MLSD", command.Mlsd)
optional_row optional.Mlst = (codes "MLST", command.Mlst)

-- the commands that may have a text, and switches before it: the same
abbrev pub listing_row : {T : Type 0} → Listing → List ℕ × (Option T → Command T)
listing_row listing.List = (codes "LIST", command.List)
listing_row listing.Nlst = (codes "NLST", command.Nlst)
listing_row listing.Stat = (codes "STAT", command.Stat)

-- the codes of the commands that need an argument with a form of its own
abbrev pub form_code : Form → List ℕ
form_code form.SetType = codes "TYPE"
form_code form.Mode = codes "MODE"
form_code form.Stru = codes "STRU"
form_code form.Port = codes "PORT"
form_code form.Eprt = codes "EPRT"
form_code form.Rest = codes "REST"
form_code form.Opts = codes "OPTS"

abbrev pub bare_code : Bare → List ℕ
bare_code v = (bare_row {T = ℕ} v).0

abbrev pub text_code : Text → List ℕ
text_code v = (text_row {T = ℕ} v).0

abbrev pub optional_code : Optional → List ℕ
optional_code v = (optional_row {T = ℕ} v).0

abbrev pub listing_code : Listing → List ℕ
listing_code v = (listing_row {T = ℕ} v).0

-- the code of a served command
abbrev pub code : Verb → List ℕ
code (verb.Bare v) = bare_code v
code (verb.Text v) = text_code v
code (verb.Form v) = form_code v
code (verb.Optional v) = optional_code v
code (verb.Listing v) = listing_code v
code verb.Epsv = codes "EPSV"

-- a code with its meaning
abbrev pub Entry : Type 0
Entry = List ℕ × Known

abbrev pub served : Verb → Entry
served v = (code v, Served v)

abbrev pub row : Row → Entry
row r = (r.0.now, r.1)

-- the known codes: those served, their other codes, and those not served
abbrev pub table : List Entry
table =
    served (verb.Bare bare.Cdup) ∷
    served (verb.Bare bare.Quit) ∷
    served (verb.Bare bare.Rein) ∷
    served (verb.Bare bare.Pasv) ∷
    served (verb.Bare bare.Abor) ∷
    served (verb.Bare bare.Pwd) ∷
    served (verb.Bare bare.Syst) ∷
    served (verb.Bare bare.Feat) ∷
    served (verb.Bare bare.Noop) ∷
    served (verb.Text text.User) ∷
    served (verb.Text text.Cwd) ∷
    served (verb.Text text.Retr) ∷
    served (verb.Text text.Stor) ∷
    served (verb.Text text.Appe) ∷
    served (verb.Text text.Rnfr) ∷
    served (verb.Text text.Rnto) ∷
    served (verb.Text text.Dele) ∷
    served (verb.Text text.Rmd) ∷
    served (verb.Text text.Mkd) ∷
    served (verb.Text text.Size) ∷
    served (verb.Text text.Mdtm) ∷
    served (verb.Form form.SetType) ∷
    served (verb.Form form.Mode) ∷
    served (verb.Form form.Stru) ∷
    served (verb.Form form.Port) ∷
    served (verb.Form form.Eprt) ∷
    served (verb.Form form.Rest) ∷
    served (verb.Form form.Opts) ∷
    served (verb.Optional optional.Pass) ∷
    served (verb.Optional optional.Allo) ∷
    served (verb.Optional optional.Help) ∷
    served (verb.Optional optional.Mlsd) ∷
    served (verb.Optional optional.Mlst) ∷
    served (verb.Listing listing.List) ∷
    served (verb.Listing listing.Nlst) ∷
    served (verb.Listing listing.Stat) ∷
    served verb.Epsv ∷
    (codes "XCUP", Served (verb.Bare bare.Cdup)) ∷
    (codes "XPWD", Served (verb.Bare bare.Pwd)) ∷
    (codes "XCWD", Served (verb.Text text.Cwd)) ∷
    (codes "XRMD", Served (verb.Text text.Rmd)) ∷
    (codes "XMKD", Served (verb.Text text.Mkd)) ∷
    (codes "ACCT", NotServed) ∷
    (codes "SMNT", NotServed) ∷
    (codes "STOU", NotServed) ∷
    (codes "SITE", NotServed) ∷
    (codes "LANG", NotServed) ∷
    (codes "HOST", NotServed) ∷
    (codes "AUTH", NotServed) ∷
    (codes "ADAT", NotServed) ∷
    (codes "PBSZ", NotServed) ∷
    (codes "PROT", NotServed) ∷
    (codes "CCC", NotServed) ∷
    (codes "MIC", NotServed) ∷
    (codes "CONF", NotServed) ∷
    (codes "ENC", NotServed) ∷
    (codes "MFMT", NotServed) ∷
    []

-- the meaning of the first row with this code; letters match in either case
abbrev pub row_of : List Entry → List ℕ → Option Known
row_of rows text =
    option_map (λ (r : Entry). r.1) (find (λ (r : Entry). same_letters r.0 text) rows)
