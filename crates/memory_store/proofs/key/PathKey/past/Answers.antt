use Rattle.std.proofs.Common.{refl, ◌∙◌, ap, List, [], ◌∷◌, ◌++◌, ℕ, string_bytes}
use Rattle.virtual_path.specs.Path.{Path, names_in}
use Rattle.memory_store.proofs.PathKeys.{names_past, past_kept, key_text}
use Rattle.memory_store.proofs.key.PathKey.past.Goals as goal

pub invariant_of-result : goal.invariant_of-result
invariant_of-result g c =
    let text = c.in_ok-push_str.ensures.bytes ∙ ap (λ (t : List ℕ). t ++ 47 ∷ []) (c.in_ok-directory.ensures.ok ∙ c.directory_text.ensures.text) in
    key_text (string_bytes c.push_str.new.self) [] _ _ (past_kept c.args.path.now (string_bytes c.push_str.new.self) c.directory_text.ensures.names text) tt refl c.new.ensures.bytes

pub returns : goal.returns
returns g c =
    let text = c.in_ok-push_str.ensures.bytes ∙ ap (λ (t : List ℕ). t ++ 47 ∷ []) (c.in_ok-directory.ensures.ok ∙ c.directory_text.ensures.text) in
    ap (λ (t : List ℕ). names_in (string_bytes c.push_str.new.self) ++ t ∷ []) c.new.ensures.bytes
    ∙ ap (λ (p : Path). p ++ [] ∷ []) (names_past c.args.path.now (string_bytes c.push_str.new.self) c.directory_text.ensures.names text)
