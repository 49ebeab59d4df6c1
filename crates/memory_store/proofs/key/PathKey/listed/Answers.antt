use Rattle.std.proofs.Common.{◌≡◌, ◌∙◌, sym, ap, List, ℕ, string_bytes}
use Rattle.ftp_terms.specs.declared.entries.Meta.{Meta}
use Rattle.virtual_path.specs.Path.{is_name, names_in}
use Rattle.virtual_tree.specs.Calls.{Entry}
use Rattle.memory_store.specs.Tree.{last_of}
use Rattle.memory_store.proofs.PathKeys.{last_of-push}
use Rattle.memory_store.proofs.key.PathKey.listed.Goals as goal

pub returns-then-not-is_name : goal.returns-then-not-is_name
returns-then-not-is_name g c =
    let last : last_of c.args.self.now ≡ string_bytes c.self.inside.name =
    ap last_of (sym c.self.view_is) ∙ last_of-push (names_in (string_bytes c.self.inside.directory)) (string_bytes c.self.inside.name) in
    ap is_name (last ∙ sym c.as_str.ensures.value) ∙ sym c.is_name.ensures.tested ∙ c.if-not-is_name.true

pub returns : goal.returns
returns g c =
    let last : last_of c.args.self.now ≡ string_bytes c.self.inside.name =
    ap last_of (sym c.self.view_is) ∙ last_of-push (names_in (string_bytes c.self.inside.directory)) (string_bytes c.self.inside.name) in (
      ap is_name (last ∙ sym c.as_str.ensures.value) ∙ sym c.is_name.ensures.tested ∙ c.if-not-is_name.false,
      ap (λ (n : List ℕ). let entry : Entry = (n, c.meta.result) in entry) (c.in_ok-from_str.ensures.ok ∙ c.as_str-2.ensures.value ∙ sym last)
          ∙ ap (λ (m : Meta). let entry : Entry = (last_of c.args.self.now, m) in entry) c.meta.ensures,
    )
