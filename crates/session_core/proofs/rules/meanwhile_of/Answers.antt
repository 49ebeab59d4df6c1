use Rattle.std.proofs.Common.{◌∙◌, List, ap, sym, ℕ}
use Rattle.ftp_wire.specs.Reading.{item_of}
use Rattle.session_table.specs.Rules.{meanwhile_of}
use Rattle.session_table.specs.declared.rules.Rule.{Rule}
use Rattle.session_core.proofs.rules.meanwhile_of.Goals as goal

pub returns-in-Command : goal.returns-in-Command
returns-in-Command g c = record {
  meanwhile = ap (λ (rule : Rule (List ℕ)). rule.conditions.meanwhile) c.rule_of.ensures.rule ∙ sym (ap (λ item. meanwhile_of (item_of item)) c.in-Command.is);
}
