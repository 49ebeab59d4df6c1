use Rattle.std.proofs.Common.{◌≡◌, ◌&&◌, Bool, true, false, refl}
use Rattle.std.specs.List.{list_all}
use Rattle.std.specs.Str.{is_utf8}
use Rattle.std.proofs.lemmas.Str.{IsUtf8-from_is_utf8, is_utf8-from_IsUtf8}
use Rattle.ftp_wire.specs.Words.{is_printed}
use Rattle.ftp_wire.proofs.words.text_of.Goals as goal

both : (a b : Bool) → a ≡ true → b ≡ true → (a && b) ≡ true
both true true p q = refl
both true false p q = cc
both false b p q = cc

refused : (b : Bool) → (b ≡ true → ⊥) → b ≡ false
refused true never = absurd (never refl)
refused false never = refl

second_fails : (a b : Bool) → b ≡ false → (a && b) ≡ false
second_fails true b e = e
second_fails false b e = refl

pub returns-in-Ok : goal.returns-in-Ok
returns-in-Ok c =
    let octets = c.args.octets.now in
    let printed : list_all is_printed octets ≡ true = cc in
    record { text = (both (list_all is_printed octets) (is_utf8 octets) printed (is_utf8-from_IsUtf8 octets c.in-Ok.ensures.cases.1), c.in-Ok.ensures.cases.0) }

pub returns-in-Err : goal.returns-in-Err
returns-in-Err c =
    let octets = c.args.octets.now in
    record { text = second_fails (list_all is_printed octets) (is_utf8 octets) (refused (is_utf8 octets) (λ e. c.in-Err.ensures.cases.0 (IsUtf8-from_is_utf8 octets e))) }
