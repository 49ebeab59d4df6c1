-- A written command is read again.
use Rattle.std.proofs.Common.{arith, refl, sym, ap, subst, ◌∙◌, ◌≡◌, ◌≤◌, ◌<◌, ◌^◌, ◌++◌, ◌∷◌, [], ℕ, List, Ok, Some, None, length}
use Rattle.std.specs.Prelude.{codes}
use Rattle.std.specs.List.{AllByRecursion}
use Rattle.ftp_wire.specs.declared.items.TheConstants.{LONGEST_LINE}
use Rattle.ftp_wire.specs.declared.commands.Command.{Command}
use Rattle.ftp_wire.specs.declared.commands.Command.TheVariants as command
use Rattle.ftp_wire.specs.declared.commands.ExtendedPassive.TheVariants as passive
use Rattle.ftp_wire.specs.declared.table.Verb.TheVariants as verb
use Rattle.ftp_wire.specs.declared.table.Text.{Text}
use Rattle.ftp_wire.specs.declared.table.Form.{Form}
use Rattle.ftp_wire.specs.declared.table.Form.TheVariants as form
use Rattle.ftp_wire.specs.declared.table.Optional.{Optional}
use Rattle.ftp_wire.specs.declared.table.Listing.{Listing}
use Rattle.ftp_wire.specs.Arguments.{extended_passive_of, without_switches}
use Rattle.ftp_wire.specs.Commands.{Parts, argument_command, bare_command, bare_part, for_extended_port, for_mode, for_offset, for_option, for_passive, for_port, for_structure, for_type, form_part, listing_command, listing_part, optional_command, optional_part, part_text, part_verb, parts_of, text_command, text_part}
use Rattle.ftp_wire.specs.Given.{AreGiven, CanBeReadBack, HasNoHyphen, HasNoSwitch, HaveNoSwitch, IsArgument, IsGiven}
use Rattle.ftp_wire.specs.Items.{form_command, verb_item, with_command, words_item}
use Rattle.ftp_wire.specs.Reading.{OnlyReadsAs}
use Rattle.ftp_wire.specs.Table.{code}
use Rattle.ftp_wire.specs.Written.{argument_part, extended_port_text, option_text, part_form, port_text, type_text, written, written_line}
use Rattle.ftp_wire.proofs.Codes.{plain_bare, plain_form, plain_text, read_bare, read_form, read_text}
use Rattle.ftp_wire.proofs.FormsRead.{decimal_argument, extended_port_argument, extended_port_reads, mode_reads, offset_reads, option_argument, option_reads, passive_reads, port_argument, port_reads, stru_reads, type_argument, type_reads, visible_argument}
use Rattle.ftp_wire.proofs.Giving.{given}
use Rattle.ftp_wire.proofs.PlainText.{IsPlain, reads_line}
use Rattle.ftp_wire.proofs.Reading.{same_items}
use Rattle.std.specs.Fmt.{decimal}

text_is : (v : Text) (t : List ℕ) → IsArgument t → verb_item (verb.Text v) t ≡ Ok (text_command v t)
text_is v t h = rw (h.some, h.printed) refl

form_is : (v : Form) (t : List ℕ) → IsArgument t → verb_item (verb.Form v) t ≡ form_command v t
form_is v t h = rw (h.some, h.printed) refl

optional_is : (v : Optional) (t : List ℕ) → IsArgument t → verb_item (verb.Optional v) t ≡ Ok (optional_command v (Some t))
optional_is v t h = rw (h.some, h.printed) refl

no_switch : (t : List ℕ) → HasNoHyphen t → without_switches t ≡ Some t
unfolding without_switches
no_switch t n = rw n refl

listing_is : (v : Listing) (t : List ℕ) → IsArgument t → HasNoHyphen t → verb_item (verb.Listing v) t ≡ Ok (listing_command v (Some t))
listing_is v t h n = rw (h.some, h.printed, no_switch t n) refl

passive_is : (t : List ℕ) → IsArgument t → verb_item verb.Epsv t ≡ with_command command.Epsv (extended_passive_of t)
passive_is t h = rw (h.some, h.printed) refl

all_reads : extended_passive_of (codes "ALL") ≡ Ok passive.All
unfolding extended_passive_of
all_reads = refl

small : (n : ℕ) → n < 10 ^ 19 → n < 2 ^ 64
small n h = omega arith

short : (n : ℕ) → n ≤ 65535 → n < 2 ^ 64
short n h = omega arith

-- the command that has these parts
abbrev made : Parts (List ℕ) → Command (List ℕ)
made (bare_part v) = bare_command v
made (text_part v t) = text_command v t
made (optional_part v t) = optional_command v t
made (listing_part v t) = listing_command v t
made (form_part a) = argument_command a

made_again : (c : Command (List ℕ)) → made (parts_of c) ≡ c
made_again (command.User t) = refl
made_again _ = refl

abbrev line : Parts (List ℕ) → List ℕ
line p = code (part_verb p) ++ (argument_part (part_text p) ++ argument_part (part_form p))

parts_read : (p : Parts (List ℕ)) → AreGiven p → HaveNoSwitch p → words_item (line p) ≡ Ok (made p)
parts_read (bare_part v) h n = read_bare (verb.Bare v) _ refl
parts_read (text_part v t) h n = read_text (verb.Text v) t _ (text_is v t h)
parts_read (optional_part v None) h n = read_bare (verb.Optional v) _ refl
parts_read (optional_part v (Some t)) h n = read_text (verb.Optional v) t _ (optional_is v t h)
parts_read (listing_part v None) h n = read_bare (verb.Listing v) _ refl
parts_read (listing_part v (Some t)) h n = read_text (verb.Listing v) t _ (listing_is v t h n)
parts_read (form_part (for_type a)) h n = read_form (verb.Form form.SetType) (type_text a) _ (form_is form.SetType (type_text a) (type_argument a) ∙ ap (with_command command.SetType) (type_reads a))
parts_read (form_part for_mode) h n = read_form (verb.Form form.Mode) (codes "S") _ (form_is form.Mode (codes "S") (visible_argument (codes "S") refl refl) ∙ ap (with_command (λ _. command.Mode)) mode_reads)
parts_read (form_part for_structure) h n = read_form (verb.Form form.Stru) (codes "F") _ (form_is form.Stru (codes "F") (visible_argument (codes "F") refl refl) ∙ ap (with_command (λ _. command.Stru)) stru_reads)
parts_read (form_part (for_port a)) h n = read_form (verb.Form form.Port) (port_text a) _ (form_is form.Port (port_text a) (port_argument a h) ∙ ap (with_command command.Port) (port_reads a h))
parts_read (form_part (for_extended_port a)) h n = read_form (verb.Form form.Eprt) (extended_port_text a) _ (form_is form.Eprt (extended_port_text a) (extended_port_argument a h) ∙ ap (with_command command.Eprt) (extended_port_reads a h))
parts_read (form_part (for_passive passive.Same)) h n = read_bare verb.Epsv _ refl
parts_read (form_part (for_passive passive.All)) h n = read_form verb.Epsv (codes "ALL") _ (passive_is (codes "ALL") (visible_argument (codes "ALL") refl refl) ∙ ap (with_command command.Epsv) all_reads)
parts_read (form_part (for_passive (passive.Protocol p))) h n = read_form verb.Epsv (decimal p) _ (passive_is (decimal p) (decimal_argument p (short p h)) ∙ ap (with_command command.Epsv) (passive_reads p h))
parts_read (form_part (for_offset a)) h n = read_form (verb.Form form.Rest) (decimal a) _ (form_is form.Rest (decimal a) (decimal_argument a (small a h)) ∙ ap (with_command command.Rest) (offset_reads a h))
parts_read (form_part (for_option a)) h n = read_form (verb.Form form.Opts) (option_text a) _ (form_is form.Opts (option_text a) (option_argument a) ∙ ap (with_command command.Opts) (option_reads a))

plain_line : (p : Parts (List ℕ)) → AreGiven p → AllByRecursion IsPlain (line p)
plain_line (bare_part v) h = plain_bare (verb.Bare v)
plain_line (text_part v t) h = plain_text (verb.Text v) t h.printed
plain_line (optional_part v None) h = plain_bare (verb.Optional v)
plain_line (optional_part v (Some t)) h = plain_text (verb.Optional v) t h.printed
plain_line (listing_part v None) h = plain_bare (verb.Listing v)
plain_line (listing_part v (Some t)) h = plain_text (verb.Listing v) t h.printed
plain_line (form_part (for_type a)) h = plain_form (verb.Form form.SetType) (type_text a) (type_argument a).printed
plain_line (form_part for_mode) h = plain_form (verb.Form form.Mode) (codes "S") (visible_argument (codes "S") refl refl).printed
plain_line (form_part for_structure) h = plain_form (verb.Form form.Stru) (codes "F") (visible_argument (codes "F") refl refl).printed
plain_line (form_part (for_port a)) h = plain_form (verb.Form form.Port) (port_text a) (port_argument a h).printed
plain_line (form_part (for_extended_port a)) h = plain_form (verb.Form form.Eprt) (extended_port_text a) (extended_port_argument a h).printed
plain_line (form_part (for_passive passive.Same)) h = plain_bare verb.Epsv
plain_line (form_part (for_passive passive.All)) h = plain_form verb.Epsv (codes "ALL") (visible_argument (codes "ALL") refl refl).printed
plain_line (form_part (for_passive (passive.Protocol p))) h = plain_form verb.Epsv (decimal p) (decimal_argument p (short p h)).printed
plain_line (form_part (for_offset a)) h = plain_form (verb.Form form.Rest) (decimal a) (decimal_argument a (small a h)).printed
plain_line (form_part (for_option a)) h = plain_form (verb.Form form.Opts) (option_text a) (option_argument a).printed

reads : (c : Command (List ℕ)) → IsGiven c → HasNoSwitch c → words_item (written_line c) ≡ Ok c
unfolding written_line
reads c h n = parts_read (parts_of c) h n ∙ ap Ok (made_again c)

plain : (c : Command (List ℕ)) → IsGiven c → AllByRecursion IsPlain (written_line c)
unfolding written_line
plain c h = plain_line (parts_of c) h

reads_back : (c : Command (List ℕ)) → IsGiven c → HasNoSwitch c → length (written_line c) ≤ LONGEST_LINE → OnlyReadsAs (written c) (Ok c ∷ [])
reads_back c h n fits =
    let r = reads_line (written_line c) (Ok c) (plain c h) fits (reads c h n) in
    (r, λ others s. same_items (written c) (Ok c ∷ []) others r s)

pub written_back : (c : Command (List ℕ)) (octets : List ℕ) → CanBeReadBack c → octets ≡ written c → OnlyReadsAs octets (Ok c ∷ [])
written_back c octets can is = subst (λ (o : List ℕ). OnlyReadsAs o (Ok c ∷ [])) (sym is) (reads_back c (given can.line c can.given) can.no_switch can.fits)
