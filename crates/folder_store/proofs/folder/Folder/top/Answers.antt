use Rattle.std.proofs.Common.{◌∙◌, inr, refl, string_bytes}
use Rattle.folder_store.proofs.Places.{leads_top}
use Rattle.folder_store.proofs.folder.Folder.top.Goals as goal

pub returns : goal.returns
returns g c = record {
  place = leads_top (string_bytes c.args.self.now.path) (string_bytes c.args.self.now.path) _ refl (inr (c.in_ok-place.ensures.text ∙ c.as_str.ensures.value));
  top = c.in_ok-place.ensures.text ∙ c.as_str.ensures.value;
}
