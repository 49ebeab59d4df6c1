use Rattle.std.proofs.Common.{length, arith}
use Rattle.sheet_text.proofs.Cuts.{cut_names, cut_all, no_cut_before}
use Rattle.sheet_text.proofs.names.name_len.Goals as goal

pub returns-then-octet-eq47-clause-name : goal.returns-then-octet-eq47-clause-name
returns-then-octet-eq47-clause-name c = cut_names c.args.text.now c.loop-at.at (omega arith) c.loop-at.invariant c.if-octet-eq47.true

pub returns-then-octet-eq47-clause-alone : goal.returns-then-octet-eq47-clause-alone
returns-then-octet-eq47-clause-alone c = no_cut_before c.args.text.now c.loop-at.at (omega arith) c.loop-at.invariant

pub returns-clause-name : goal.returns-clause-name
returns-clause-name c = cut_all c.args.text.now (λ k less. c.loop-at.invariant k (omega arith))

pub returns-clause-alone : goal.returns-clause-alone
returns-clause-alone c = no_cut_before c.args.text.now (length c.args.text.now) (omega arith) (λ k less. c.loop-at.invariant k (omega arith))
