use Rattle.std.proofs.Common.{◌≡◌, List, [], ◌∷◌, ◌++◌, ℕ, Some, ap, ◌∙◌, string_bytes}
use Rattle.virtual_path.specs.Path.{names_in, HasNoSlash}
use Rattle.memory_store.proofs.PathKeys.{no_key, text_cut, plain_names, key_from_cut, key_text_from_cut}
use Rattle.memory_store.proofs.key.PathKey.split.Goals as goal

pub returns-in-None : goal.returns-in-None
returns-in-None g c = no_key c.args.text.now c.requires c.in-None.ensures.parts

pub invariant_of-result : goal.invariant_of-result
invariant_of-result g c =
    let parts : (c.args.text.now ≡ c.in-Some.directory.now ++ 47 ∷ c.in-Some.name.now) × HasNoSlash c.in-Some.name.now = rw (← c.in-Some.directory-is, ← c.in-Some.name-is) c.in-Some.ensures.parts in
    let cut = text_cut c.args.text.now c.in-Some.directory.now c.in-Some.name.now c.requires parts.0 parts.1 in
    key_text_from_cut (names_in c.args.text.now) c.in-Some.directory.now c.in-Some.name.now _ _ (plain_names c.args.text.now) cut parts.1 c.in_ok-from_str-in-Some.ensures.ok c.in_ok-from_str-in-Some-2.ensures.ok

pub returns-in_ok-from_str-in-Some-2 : goal.returns-in_ok-from_str-in-Some-2
returns-in_ok-from_str-in-Some-2 g c =
    let parts : (c.args.text.now ≡ c.in-Some.directory.now ++ 47 ∷ c.in-Some.name.now) × HasNoSlash c.in-Some.name.now = rw (← c.in-Some.directory-is, ← c.in-Some.name-is) c.in-Some.ensures.parts in
    let cut = text_cut c.args.text.now c.in-Some.directory.now c.in-Some.name.now c.requires parts.0 parts.1 in
    ap (λ (f : List ℕ). Some (names_in f ++ string_bytes c.in_ok-from_str-in-Some-2.field-0 ∷ [])) c.in_ok-from_str-in-Some.ensures.ok
    ∙ ap (λ (b : List ℕ). Some (names_in c.in-Some.directory.now ++ b ∷ [])) c.in_ok-from_str-in-Some-2.ensures.ok
    ∙ key_from_cut (names_in c.args.text.now) c.in-Some.directory.now c.in-Some.name.now (plain_names c.args.text.now) cut
