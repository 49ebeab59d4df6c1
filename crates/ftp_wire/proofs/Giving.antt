-- What holds of each command that a line stands for.
use Rattle.std.proofs.Common.{subst, ◌≡◌, ◌==◌, ℕ, List, false, Result, Ok, Err, Option, Some, None, length, nat_le}
use Rattle.std.specs.Prelude.{IfOk, IfSome, codes}
use Rattle.std.specs.List.{after_first, before_first}
use Rattle.ftp_wire.specs.declared.items.TheConstants.{LONGEST_LINE}
use Rattle.ftp_wire.specs.declared.commands.Command.{Command}
use Rattle.ftp_wire.specs.declared.commands.Command.TheVariants as command
use Rattle.ftp_wire.specs.declared.faults.LineFault.{LineFault}
use Rattle.ftp_wire.specs.declared.table.Known.{Known}
use Rattle.ftp_wire.specs.declared.table.Known.TheVariants.{NotServed, Served}
use Rattle.ftp_wire.specs.declared.table.Verb.{Verb}
use Rattle.ftp_wire.specs.declared.table.Verb.TheVariants as verb
use Rattle.ftp_wire.specs.declared.table.Bare.{Bare}
use Rattle.ftp_wire.specs.declared.table.Bare.TheVariants as bare
use Rattle.ftp_wire.specs.declared.table.Text.{Text}
use Rattle.ftp_wire.specs.declared.table.Text.TheVariants as text
use Rattle.ftp_wire.specs.declared.table.Form.{Form}
use Rattle.ftp_wire.specs.declared.table.Form.TheVariants as form
use Rattle.ftp_wire.specs.declared.table.Optional.{Optional}
use Rattle.ftp_wire.specs.declared.table.Optional.TheVariants as optional
use Rattle.ftp_wire.specs.declared.table.Listing.{Listing}
use Rattle.ftp_wire.specs.declared.table.Listing.TheVariants as listing
use Rattle.ftp_wire.specs.Arguments.{extended_passive_of, extended_port_of, letter_of, offset_of, option_of, port_of, type_of, without_switches}
use Rattle.ftp_wire.specs.Commands.{bare_command, listing_command, optional_command, text_command}
use Rattle.ftp_wire.specs.Given.{IsArgument, IsExtendedPassive, IsExtendedPort, IsGiven, IsHostPort, IsOffset}
use Rattle.ftp_wire.specs.Items.{Item, absent_item, argument_item, form_command, known_item, line_item, text_item, with_command, without_cr, words_item}
use Rattle.ftp_wire.specs.Table.{row_of, table}
use Rattle.ftp_wire.specs.Words.{is_blank, is_space, is_text}
use Rattle.ftp_wire.proofs.FormsHold.{cond_ok, extended_port_holds, offset_holds, passive_holds, port_holds, switches_hold}

with_holds : {X : Type 0} (P : X → Type 0) (make : X → Command (List ℕ)) → ((x : X) → P x → IsGiven (make x)) → (r : Result X LineFault) → IfOk r P → IfOk (with_command make r) IsGiven
with_holds P make h (Ok x) p = h x p
with_holds P make h (Err e) p = tt

any_ok : {X : Type 0} (r : Result X LineFault) → IfOk r (λ _. Unit {0})
any_ok (Ok x) = tt
any_ok (Err e) = tt

bare_holds : (v : Bare) → IsGiven (bare_command v)
bare_holds bare.Cdup = tt
bare_holds _ = tt

text_holds : (v : Text) (t : List ℕ) → IsArgument t → IsGiven (text_command v t)
text_holds text.User t h = h
text_holds _ t h = h

optional_holds : (v : Optional) (t : Option (List ℕ)) → IfSome t IsArgument → IsGiven (optional_command v t)
optional_holds optional.Pass t h = h
optional_holds _ t h = h

listing_holds : (v : Listing) (t : Option (List ℕ)) → IfSome t IsArgument → IsGiven (listing_command v t)
listing_holds listing.List t h = h
listing_holds _ t h = h

form_holds : (v : Form) (t : List ℕ) → IfOk (form_command v t) IsGiven
form_holds form.SetType t = with_holds (λ _. Unit {0}) command.SetType (λ _ h. h) (type_of t) (any_ok (type_of t))
form_holds form.Mode t = with_holds (λ _. Unit {0}) (λ _. command.Mode) (λ _ h. h) (letter_of (codes "S") (codes "B") (codes "C") t) (any_ok (letter_of (codes "S") (codes "B") (codes "C") t))
form_holds form.Stru t = with_holds (λ _. Unit {0}) (λ _. command.Stru) (λ _ h. h) (letter_of (codes "F") (codes "R") (codes "P") t) (any_ok (letter_of (codes "F") (codes "R") (codes "P") t))
form_holds form.Port t = with_holds IsHostPort command.Port (λ _ h. h) (port_of t) (port_holds t)
form_holds form.Eprt t = with_holds IsExtendedPort command.Eprt (λ _ h. h) (extended_port_of t) (extended_port_holds t)
form_holds form.Rest t = with_holds IsOffset command.Rest (λ _ h. h) (offset_of t) (offset_holds t)
form_holds form.Opts t = with_holds (λ _. Unit {0}) command.Opts (λ _ h. h) (option_of t) (any_ok (option_of t))

absent_holds : (v : Verb) → IfOk (absent_item v) IsGiven
absent_holds (verb.Bare v) = bare_holds v
absent_holds (verb.Text v) = tt
absent_holds (verb.Form v) = tt
absent_holds (verb.Optional v) = optional_holds v None tt
absent_holds (verb.Listing v) = listing_holds v None tt
absent_holds verb.Epsv = tt

text_item_holds : (v : Verb) (t : List ℕ) → IsArgument t → IfOk (text_item v t) IsGiven
text_item_holds (verb.Bare v) t h = tt
text_item_holds (verb.Text v) t h = text_holds v t h
text_item_holds (verb.Form v) t h = form_holds v t
text_item_holds (verb.Optional v) t h = optional_holds v (Some t) h
text_item_holds (verb.Listing v) t h = listing_holds v (without_switches t) (switches_hold t h)
text_item_holds verb.Epsv t h = with_holds IsExtendedPassive command.Epsv (λ _ h. h) (extended_passive_of t) (passive_holds t)

argument_holds : (v : Verb) (t : List ℕ) → is_blank t ≡ false → IfOk (argument_item v t) IsGiven
argument_holds (verb.Bare v) t b = tt
argument_holds (verb.Text v) t b = cond_ok IsGiven (is_text t) _ _ (λ e. text_item_holds (verb.Text v) t (record { some = b; printed = e })) (λ _. tt)
argument_holds (verb.Form v) t b = cond_ok IsGiven (is_text t) _ _ (λ e. text_item_holds (verb.Form v) t (record { some = b; printed = e })) (λ _. tt)
argument_holds (verb.Optional v) t b = cond_ok IsGiven (is_text t) _ _ (λ e. text_item_holds (verb.Optional v) t (record { some = b; printed = e })) (λ _. tt)
argument_holds (verb.Listing v) t b = cond_ok IsGiven (is_text t) _ _ (λ e. text_item_holds (verb.Listing v) t (record { some = b; printed = e })) (λ _. tt)
argument_holds verb.Epsv t b = cond_ok IsGiven (is_text t) _ _ (λ e. text_item_holds verb.Epsv t (record { some = b; printed = e })) (λ _. tt)

known_holds : (o : Option Known) (t : List ℕ) → IfOk (known_item o t) IsGiven
known_holds None t = tt
known_holds (Some NotServed) t = tt
known_holds (Some (Served v)) t = cond_ok IsGiven (is_blank t) (absent_item v) (argument_item v t) (λ _. absent_holds v) (λ e. argument_holds v t e)

words_hold : (line : List ℕ) → IfOk (words_item line) IsGiven
unfolding words_item
words_hold line = cond_ok IsGiven (length (before_first is_space line) == 0) _ _ (λ _. tt) (λ _. known_holds (row_of table (before_first is_space line)) (after_first is_space line))

line_holds : (line : List ℕ) → IfOk (line_item line) IsGiven
unfolding line_item
line_holds line = cond_ok IsGiven (nat_le (length (without_cr line)) LONGEST_LINE) _ _ (λ _. words_hold (without_cr line)) (λ _. tt)

pub given : (line : List ℕ) (c : Command (List ℕ)) → line_item line ≡ Ok c → IsGiven c
given line c e = subst (λ (i : Item). IfOk i IsGiven) e (line_holds line)
