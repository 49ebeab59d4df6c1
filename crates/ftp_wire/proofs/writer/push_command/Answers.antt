use Rattle.std.proofs.Common.{◌≡◌, ◌++◌, ◌∷◌, [], List, ℕ, Result, Ok, Err, OnOk}
use Rattle.std.specs.Prelude.{if◌then◌else◌, option_map, string_bytes}
use Rattle.std.specs.Result.{is_ok}
use Rattle.ftp_wire.specs.Commands.{with_texts}
use Rattle.ftp_wire.specs.Written.{written}
use Rattle.ftp_wire.proofs.WrittenLines.{line_of}
use Rattle.ftp_wire.proofs.writer.push_command.Goals as goal

-- what follows where the last words were written
when_ok : {T E : Type 0} (r : Result T E) (x a b : List ℕ) (Q : Type 0) → (x ≡ a → Q) → x ≡ (if is_ok r then a else b) → OnOk r Q
when_ok (Ok value) x a b Q f e = f e
when_ok (Err fault) x a b Q f e = tt

pub returns : goal.returns
returns g c =
    let command = c.args.command.now in
    let old = string_bytes c.args.out.now in
    let last = string_bytes c.push_str-2.new.self in
    let form = string_bytes c.push_form.new.out in
    let line : last ≡ form ++ 13 ∷ 10 ∷ [] → last ≡ old ++ written (with_texts string_bytes command) =
    line_of string_bytes command old (string_bytes c.push_str.new.self) (string_bytes c.push_text.new.out) form last c.code_of.result.now (option_map (λ t. t.now) c.argument_of.result)
    c.code_of.ensures.code c.argument_of.ensures.text c.in_ok-push_str.ensures.bytes c.in_ok-push_text.ensures.appended c.in_ok-push_form.ensures.appended in
    record { appended = when_ok c.push_str-2.result last (form ++ 13 ∷ 10 ∷ []) form (last ≡ old ++ written (with_texts string_bytes command)) line c.push_str-2.ensures.bytes }
