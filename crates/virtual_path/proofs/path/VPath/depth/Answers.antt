use Rattle.std.proofs.Common.{◌∙◌, ap}
use Rattle.std.specs.List.{count_by}
use Rattle.std.specs.String.{string_bytes}
use Rattle.virtual_path.specs.Path.{is_slash}
use Rattle.virtual_path.proofs.Parts.{depth_of}
use Rattle.virtual_path.proofs.path.VPath.depth.Goals as goal

pub returns : goal.returns
returns g c = record { depth = c.count_slashes.ensures.count ∙ ap (count_by is_slash) c.as_bytes.ensures.value ∙ depth_of (string_bytes c.self.inside.text) _ c.self.view_is }
