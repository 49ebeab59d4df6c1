-- The codes of the table, as words of a line.
use Rattle.std.proofs.Common.{refl, ap, ◌∙◌, ◌≡◌, ◌++◌, ◌∷◌, [], ℕ, List, append-nil, true}
use Rattle.std.specs.List.{AllByRecursion}
use Rattle.ftp_wire.specs.declared.table.Verb.{Verb}
use Rattle.ftp_wire.specs.declared.table.Verb.TheVariants as verb
use Rattle.ftp_wire.specs.declared.table.Bare.TheVariants as bare
use Rattle.ftp_wire.specs.declared.table.Text.TheVariants as text
use Rattle.ftp_wire.specs.declared.table.Form.TheVariants as form
use Rattle.ftp_wire.specs.declared.table.Optional.TheVariants as optional
use Rattle.ftp_wire.specs.declared.table.Listing.TheVariants as listing
use Rattle.ftp_wire.specs.Items.{Item, verb_item, words_item}
use Rattle.ftp_wire.specs.Table.{code}
use Rattle.ftp_wire.specs.Words.{is_text}
use Rattle.ftp_wire.proofs.Decimals.{is_visible_text, visible_plain}
use Rattle.ftp_wire.proofs.PlainText.{IsPlain}
use Rattle.ftp_wire.proofs.Utf8Octets.{join_all, text_plain}

-- the first line of a kind has the check take all verbs one by one
with_argument : (v : Verb) (t : List ℕ) → words_item (code v ++ 32 ∷ t) ≡ verb_item v t
unfolding words_item
with_argument (verb.Bare bare.Cdup) t = refl
with_argument (verb.Text text.User) t = refl
with_argument (verb.Form form.SetType) t = refl
with_argument (verb.Optional optional.Pass) t = refl
with_argument (verb.Listing listing.List) t = refl
with_argument _ t = refl

without_argument : (v : Verb) → words_item (code v) ≡ verb_item v []
unfolding words_item
without_argument (verb.Bare bare.Cdup) = refl
without_argument (verb.Text text.User) = refl
without_argument (verb.Form form.SetType) = refl
without_argument (verb.Optional optional.Pass) = refl
without_argument (verb.Listing listing.List) = refl
without_argument _ = refl

code_visible : (v : Verb) → is_visible_text (code v) ≡ true
code_visible (verb.Bare bare.Cdup) = refl
code_visible (verb.Text text.User) = refl
code_visible (verb.Form form.SetType) = refl
code_visible (verb.Optional optional.Pass) = refl
code_visible (verb.Listing listing.List) = refl
code_visible _ = refl

-- the line of a command with a text, with a form, and with neither
pub read_text : (v : Verb) (t : List ℕ) (item : Item) → verb_item v t ≡ item → words_item (code v ++ ((32 ∷ t) ++ [])) ≡ item
read_text v t item e = ap (λ s. words_item (code v ++ s)) (append-nil (32 ∷ t)) ∙ with_argument v t ∙ e

pub read_form : (v : Verb) (t : List ℕ) (item : Item) → verb_item v t ≡ item → words_item (code v ++ ([] ++ 32 ∷ t)) ≡ item
read_form v t item e = with_argument v t ∙ e

pub read_bare : (v : Verb) (item : Item) → verb_item v [] ≡ item → words_item (code v ++ ([] ++ [])) ≡ item
read_bare v item e = ap words_item (append-nil (code v)) ∙ without_argument v ∙ e

pub plain_bare : (v : Verb) → AllByRecursion IsPlain (code v ++ ([] ++ []))
plain_bare v = join_all IsPlain (code v) [] (visible_plain (code v) (code_visible v)) tt

pub plain_form : (v : Verb) (t : List ℕ) → is_text t ≡ true → AllByRecursion IsPlain (code v ++ ([] ++ 32 ∷ t))
plain_form v t e = join_all IsPlain (code v) (32 ∷ t) (visible_plain (code v) (code_visible v)) (join_all IsPlain (32 ∷ []) t (visible_plain (32 ∷ []) refl) (text_plain t e))

pub plain_text : (v : Verb) (t : List ℕ) → is_text t ≡ true → AllByRecursion IsPlain (code v ++ ((32 ∷ t) ++ []))
plain_text v t e =
    join_all IsPlain (code v) ((32 ∷ t) ++ []) (visible_plain (code v) (code_visible v))
    (join_all IsPlain (32 ∷ t) [] (join_all IsPlain (32 ∷ []) t (visible_plain (32 ∷ []) refl) (text_plain t e)) tt)
