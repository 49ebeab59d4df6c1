use Rattle.std.proofs.Common.{◌≤◌, ◌++◌, ◌∙◌, ℕ, List, Some, arith, ap, string_bytes, subst, sym}
use Rattle.serde_json.specs.Data.{Data, depth}
use Rattle.usage_report.proofs.Depths.{report_depth}
use Rattle.usage_report.proofs.values.json_text.Goals as goal

pub returns : goal.returns
returns c =
    let drawn = c.in_ok-value.ensures.report in
    let shallow = report_depth c.args.report.now in
    let reads = c.in_ok-text.ensures.reads_back (subst (λ (d : Data). depth d ≤ 127) (sym drawn) shallow) in
    let ends = c.in_ok-push.ensures.bytes ∙ ap (λ (octets : List ℕ). string_bytes c.in_ok-text.text ++ octets) (c.in_ok-push.ensures.ascii (omega arith)) in
    record {
      text = (string_bytes c.in_ok-text.text, ends, reads ∙ ap Some drawn);
    }
