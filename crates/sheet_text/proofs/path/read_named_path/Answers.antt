use Rattle.std.proofs.Common.{◌≡◌, ◌∙◌, sym, true}
use Rattle.sheet_text.specs.Text.{is_named_path}
use Rattle.sheet_text.proofs.PathText.{is_text, is_rooted, path_ascii, is_named}
use Rattle.sheet_text.proofs.path.read_named_path.Goals as goal

pub returns-then-is_named_path : goal.returns-then-is_named_path
returns-then-is_named_path c =
    let text = c.args.text.now in
    let named : is_named_path text ≡ true = sym c.is_named_path.ensures.path ∙ c.if-is_named_path.true in
    record {
      path = is_text c.ok.result c.from_utf8.result text _ c.from_utf8.ensures.cases c.ok.ensures.value (path_ascii text named) ∙ sym (is_named text named);
      text = is_rooted c.ok.result c.from_utf8.result text _ c.from_utf8.ensures.cases c.ok.ensures.value named;
    }
