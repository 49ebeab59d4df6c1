-- The texts of a command, as octets.
use Rattle.std.proofs.Common.{ap, refl, ◌≡◌, ◌∙◌, ℕ, List, Result, Ok, Err}
use Rattle.ftp_wire.specs.declared.commands.Command.{Command}
use Rattle.ftp_wire.specs.declared.commands.Command.TheVariants as command
use Rattle.ftp_wire.specs.declared.faults.LineFault.{LineFault}
use Rattle.ftp_wire.specs.declared.table.Form.{Form}
use Rattle.ftp_wire.specs.declared.table.Form.TheVariants as form
use Rattle.ftp_wire.specs.Arguments.{extended_port_of, letter_of, offset_of, option_of, port_of, type_of}
use Rattle.ftp_wire.specs.declared.table.Text.{Text}
use Rattle.ftp_wire.specs.declared.table.Text.TheVariants as text
use Rattle.ftp_wire.specs.declared.table.Optional.{Optional}
use Rattle.ftp_wire.specs.declared.table.Optional.TheVariants as optional
use Rattle.ftp_wire.specs.declared.table.Listing.{Listing}
use Rattle.ftp_wire.specs.declared.table.Listing.TheVariants as listing
use Rattle.ftp_wire.specs.Commands.{listing_command, optional_command, text_command, with_texts}
use Rattle.ftp_wire.specs.Items.{form_command, with_command}
use Rattle.std.specs.Prelude.{Option, codes, option_map}

twice : {X T : Type 0} (f : T → List ℕ) (make : X → Command T) (same : X → Command (List ℕ)) → ((x : X) → with_texts f (make x) ≡ same x)
    → (r : Result X LineFault) → with_command (with_texts f) (with_command make r) ≡ with_command same r
twice f make same is (Ok x) = rw is refl
twice f make same is (Err e) = refl

-- a form has no texts
pub form_texts : {T : Type 0} (f : T → List ℕ) (v : Form) (text : List ℕ) → with_command (with_texts f) (form_command v text) ≡ form_command v text
form_texts f form.SetType text = twice f command.SetType command.SetType (λ _. refl) (type_of text)
form_texts f form.Mode text = twice f (λ _. command.Mode) (λ _. command.Mode) (λ _. refl) (letter_of (codes "S") (codes "B") (codes "C") text)
form_texts f form.Stru text = twice f (λ _. command.Stru) (λ _. command.Stru) (λ _. refl) (letter_of (codes "F") (codes "R") (codes "P") text)
form_texts f form.Port text = twice f command.Port command.Port (λ _. refl) (port_of text)
form_texts f form.Eprt text = twice f command.Eprt command.Eprt (λ _. refl) (extended_port_of text)
form_texts f form.Rest text = twice f command.Rest command.Rest (λ _. refl) (offset_of text)
form_texts f form.Opts text = twice f command.Opts command.Opts (λ _. refl) (option_of text)

-- a command with its text as octets is that with the octets
text_texts : {T : Type 0} (f : T → List ℕ) (v : Text) (t : T) → with_texts f (text_command v t) ≡ text_command v (f t)
text_texts f text.User t = refl
text_texts f _ t = refl

optional_texts : {T : Type 0} (f : T → List ℕ) (v : Optional) (t : Option T) → with_texts f (optional_command v t) ≡ optional_command v (option_map f t)
optional_texts f optional.Pass t = refl
optional_texts f _ t = refl

listing_texts : {T : Type 0} (f : T → List ℕ) (v : Listing) (t : Option T) → with_texts f (listing_command v t) ≡ listing_command v (option_map f t)
listing_texts f listing.List t = refl
listing_texts f _ t = refl

-- the command that was made with a text
pub text_made : {T : Type 0} (f : T → List ℕ) (v : Text) (t : T) (c : Command T) (words : List ℕ) → c ≡ text_command v t → f t ≡ words → with_texts f c ≡ text_command v words
text_made f v t c words is same = ap (with_texts f) is ∙ text_texts f v t ∙ ap (text_command v) same

pub optional_made : {T : Type 0} (f : T → List ℕ) (v : Optional) (t : Option T) (c : Command T) (words : Option (List ℕ)) → c ≡ optional_command v t → option_map f t ≡ words
    → with_texts f c ≡ optional_command v words
optional_made f v t c words is same = ap (with_texts f) is ∙ optional_texts f v t ∙ ap (optional_command v) same

pub listing_made : {T : Type 0} (f : T → List ℕ) (v : Listing) (t : Option T) (c : Command T) (words : Option (List ℕ)) → c ≡ listing_command v t → option_map f t ≡ words
    → with_texts f c ≡ listing_command v words
listing_made f v t c words is same = ap (with_texts f) is ∙ listing_texts f v t ∙ ap (listing_command v) same
