use Rattle.std.proofs.Common.{◌≡◌}
use Rattle.std.specs.Str.{IsUtf8}
use Rattle.virtual_path.specs.Path.{path_text}
use Rattle.authorizer.specs.Stored.{map_of}
use Rattle.authorizer.specs.Users.{above}
use Rattle.authorizer.proofs.Decides.{NoneBelow}
use Rattle.authorizer.proofs.allowed.deepest.Given as goal

abbrev pub invariant-loop-up : goal.invariant-loop-up
invariant-loop-up g l = record {
  here : l.text ≡ path_text (above l.up l.path);
  none : NoneBelow (map_of (λ rule. rule) l.rules) l.path l.up;
  utf8 : IsUtf8 l.text;
}
