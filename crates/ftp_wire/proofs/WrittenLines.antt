-- The parts of a written line.
use Rattle.std.proofs.Common.{refl, sym, ap, ◌∙◌, ◌≡◌, ◌++◌, ◌∷◌, [], ℕ, List, append_assoc}
use Rattle.std.specs.Prelude.{Option, option_map}
use Rattle.ftp_wire.specs.declared.commands.Command.{Command}
use Rattle.ftp_wire.specs.declared.commands.Command.TheVariants as command
use Rattle.ftp_wire.specs.Commands.{text_argument, verb_of, with_texts}
use Rattle.ftp_wire.specs.Table.{code}
use Rattle.ftp_wire.specs.Written.{argument_part, form_argument, written, written_line}

same_verb : {T : Type 0} (f : T → List ℕ) (c : Command T) → verb_of (with_texts f c) ≡ verb_of c
same_verb f (command.User t) = refl
same_verb f _ = refl

same_text : {T : Type 0} (f : T → List ℕ) (c : Command T) → text_argument (with_texts f c) ≡ option_map f (text_argument c)
same_text f (command.User t) = refl
same_text f _ = refl

same_form : {T : Type 0} (f : T → List ℕ) (c : Command T) → form_argument (with_texts f c) ≡ form_argument c
same_form f (command.User t) = refl
same_form f _ = refl

-- four texts, each behind what stood before
four_behind : (b0 b1 b2 b3 b4 w t f e : List ℕ) → b1 ≡ b0 ++ w → b2 ≡ b1 ++ t → b3 ≡ b2 ++ f → b4 ≡ b3 ++ e → b4 ≡ b0 ++ ((w ++ (t ++ f)) ++ e)
four_behind b0 b1 b2 b3 b4 w t f e e1 e2 e3 e4 =
    let front : b3 ≡ (b0 ++ w) ++ (t ++ f) = e3 ∙ ap (λ l. l ++ f) (e2 ∙ ap (λ l. l ++ t) e1) ∙ append_assoc (b0 ++ w) t f in
    e4 ∙ ap (λ l. l ++ e) (front ∙ append_assoc b0 w (t ++ f)) ∙ append_assoc b0 (w ++ (t ++ f)) e

same_line : {T : Type 0} (f : T → List ℕ) (c : Command T) → code (verb_of c) ++ (argument_part (option_map f (text_argument c)) ++ argument_part (form_argument c)) ≡ written_line (with_texts f c)
unfolding written_line
same_line f c =
    let text = argument_part (option_map f (text_argument c)) in
    let form = argument_part (form_argument c) in
    ap (λ v. code v ++ (text ++ form)) (sym (same_verb f c)) ∙ ap (λ x. code (verb_of (with_texts f c)) ++ (argument_part x ++ form)) (sym (same_text f c))
    ∙ ap (λ x. code (verb_of (with_texts f c)) ++ (argument_part (text_argument (with_texts f c)) ++ argument_part x)) (sym (same_form f c))

-- a command's line, whose parts stand each behind what stood before
pub line_of : {T : Type 0} (f : T → List ℕ) (c : Command T) (b0 b1 b2 b3 b4 word : List ℕ) (argument : Option T) → word ≡ code (verb_of c) → argument ≡ text_argument c
    → b1 ≡ b0 ++ word → b2 ≡ b1 ++ argument_part (option_map f argument) → b3 ≡ b2 ++ argument_part (form_argument c) → b4 ≡ b3 ++ 13 ∷ 10 ∷ [] → b4 ≡ b0 ++ written (with_texts f c)
line_of f c b0 b1 b2 b3 b4 word argument is_code is_text e1 e2 e3 e4 =
    let form = argument_part (form_argument c) in
    let same : word ++ (argument_part (option_map f argument) ++ form) ≡ written_line (with_texts f c) =
    ap (λ w. w ++ (argument_part (option_map f argument) ++ form)) is_code ∙ ap (λ o. code (verb_of c) ++ (argument_part (option_map f o) ++ form)) is_text ∙ same_line f c in
    four_behind b0 b1 b2 b3 b4 word (argument_part (option_map f argument)) form (13 ∷ 10 ∷ []) e1 e2 e3 e4 ∙ ap (λ l. b0 ++ (l ++ 13 ∷ 10 ∷ [])) same
