use Rattle.log_lines.proofs.Cuts.{cut_none, cut_some}
use Rattle.log_lines.proofs.word.cut_at.Goals as goal

pub returns-in-Some : goal.returns-in-Some
returns-in-Some c = record {
  parts = cut_some c.args.mark c.args.text.now c.split_once.result c.in-Some.first c.in-Some.rest c.split_once.ensures.cases c.requires.ascii c.in-Some.is;
}

pub returns-in-None : goal.returns-in-None
returns-in-None c = record {
  parts = cut_none c.args.mark c.args.text.now c.split_once.result c.split_once.ensures.cases c.requires.ascii c.in-None.is;
}
