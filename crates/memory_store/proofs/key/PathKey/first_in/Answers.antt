use Rattle.std.proofs.Common.{◌∙◌, ap, List, [], ◌∷◌, ◌++◌, ℕ, string_bytes}
use Rattle.virtual_path.specs.Path.{Path, names_in}
use Rattle.memory_store.proofs.PathKeys.{text_kept, names_of_text, key_text}
use Rattle.memory_store.proofs.key.PathKey.first_in.Goals as goal

pub invariant_of-result : goal.invariant_of-result
invariant_of-result g c =
    key_text c.directory_text.result.now [] _ _
    (text_kept c.args.path.now c.directory_text.result.now c.directory_text.ensures.names c.directory_text.ensures.text) tt c.in_ok-from_str.ensures.ok c.new.ensures.bytes

pub returns : goal.returns
returns g c =
    ap (λ (t : List ℕ). names_in t ++ string_bytes c.new.result ∷ []) c.in_ok-from_str.ensures.ok
    ∙ ap (λ (t : List ℕ). names_in c.directory_text.result.now ++ t ∷ []) c.new.ensures.bytes
    ∙ ap (λ (p : Path). p ++ [] ∷ []) (names_of_text c.args.path.now c.directory_text.result.now c.directory_text.ensures.names c.directory_text.ensures.text)
