use Rattle.std.proofs.Common.{inr, map, refl, string_bytes}
use Rattle.folder_store.proofs.Places.{leads_further}
use Rattle.folder_store.proofs.folder.Folder.below.Goals as goal

pub returns : goal.returns
returns g c = record {
  place =
      leads_further (string_bytes c.args.self.now.path) _ _ c.args.last.now (map (λ name. name.now) c.args.above.now) c.in_ok-place.ensures.place c.in_ok-push.ensures.further;
  path = c.in_ok-place.ensures.path;
  walked = inr (map (λ name. name.now) c.args.above.now, c.args.last.now, _, refl, c.in_ok-place.ensures.walked, c.in_ok-push.ensures.further);
}
