use Rattle.std.proofs.Common.{◌≡◌, Bool, true, false}
use Rattle.limit_tree.specs.Outline.{limits}
use Rattle.round_tally.proofs.NameLemmas.{candidate, server_name}
use Rattle.round_tally.proofs.names.name_of.Goals as goal

apart : (b : Bool) → b ≡ false → b ≡ true → ⊥
apart b f t = cc

pub returns : goal.returns
returns g c = record {
  name = server_name c.args.limits.now c.args.tick c.args.ask c.args.asks.now (limits c.args.tree.now) c.args.node c.requires.named.0 (candidate c.args.limits.now c.args.ask c.requires.named.0 c.requires.named.1) c.requires.named.2
      (λ is. apart c.is_name_of-3.result c.if-is_name_of-3.false (c.is_name_of-3.ensures.no is)) c.in_default.ensures.none
      (λ is. apart c.is_name_of-2.result c.if-is_name_of-2.false (c.is_name_of-2.ensures.no is)) (λ is. apart c.is_name_of.result c.if-is_name_of.false (c.is_name_of.ensures.no is));
}
