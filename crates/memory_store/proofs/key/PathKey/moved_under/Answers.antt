use Rattle.std.proofs.Common.{◌≡◌, ◌∙◌, sym, ap, List, [], ◌∷◌, ◌++◌, ℕ, string_bytes, refl}
use Rattle.virtual_path.specs.Path.{Path, names_in}
use Rattle.memory_store.specs.Tree.{last_of}
use Rattle.memory_store.proofs.PathKeys.{joined_text, joined_plain, names_of_text, text_kept, key_text, last_of-push}
use Rattle.memory_store.proofs.key.PathKey.moved_under.Goals as goal

pub invariant_of-result : goal.invariant_of-result
invariant_of-result g c =
    let text = joined_text c.args.to.now c.args.rest.now (string_bytes c.push_str.new.self) c.requires.to c.requires.rest (c.in_ok-push_str.ensures.bytes ∙ ap (λ (t : List ℕ). t ++ c.args.rest.now) c.in_ok-directory.ensures.ok) in
    key_text (string_bytes c.push_str.new.self) (string_bytes c.self.inside.name) _ _ (text_kept _ (string_bytes c.push_str.new.self) (joined_plain c.args.to.now c.args.rest.now) text) c.self.invariant.no_slash refl
    (c.in_ok-from_str.ensures.ok ∙ c.as_str.ensures.value)

pub returns : goal.returns
returns g c =
    let text = joined_text c.args.to.now c.args.rest.now (string_bytes c.push_str.new.self) c.requires.to c.requires.rest (c.in_ok-push_str.ensures.bytes ∙ ap (λ (t : List ℕ). t ++ c.args.rest.now) c.in_ok-directory.ensures.ok) in
    let name : string_bytes c.in_ok-from_str.field-0 ≡ last_of c.args.self.now =
    c.in_ok-from_str.ensures.ok ∙ c.as_str.ensures.value ∙ sym (last_of-push (names_in (string_bytes c.self.inside.directory)) (string_bytes c.self.inside.name)) ∙ ap last_of c.self.view_is in
    ap (λ (p : Path). p ++ string_bytes c.in_ok-from_str.field-0 ∷ []) (names_of_text _ (string_bytes c.push_str.new.self) (joined_plain c.args.to.now c.args.rest.now) text)
    ∙ ap (λ (t : List ℕ). (names_in c.args.to.now ++ names_in c.args.rest.now) ++ t ∷ []) name
