use Rattle.std.proofs.Common.{◌≢◌, ◌<◌, ℕ, Some, None, length, get_or, ◌∙◌, subst, lit<}
use Rattle.std.proofs.lemmas.Str.Pattern.{rfind_char}
use Rattle.virtual_path.proofs.Texts.{IsLastSlash, up_to_slash, no_slash_at_root}
use Rattle.virtual_path.proofs.walk.leave.Goals as goal

pub returns-in-Some : goal.returns-in-Some
returns-in-Some g c =
    let last = rfind_char 47 c.deref.result.now (Some c.in-Some.slash) c.in-Some.ensures.cases (lit< tt) in
    let is : IsLastSlash c.deref.result.now c.in-Some.slash = record { within = last.0; slash = last.1; none_after = last.2 } in
    record { leaves = λ path names text. c.truncate.ensures.bytes ∙ up_to_slash path _ _ names text (subst (λ t. IsLastSlash t c.in-Some.slash) c.deref.ensures is) }

pub returns-in_default : goal.returns-in_default
returns-in_default g c =
    let none = rfind_char 47 c.deref.result.now None c.in_default.ensures.cases (lit< tt) in
    record { leaves = λ path names text. text ∙ no_slash_at_root path _ text (subst (λ t. (i : ℕ) → i < length t → get_or t i 0 ≢ 47) c.deref.ensures none) }
