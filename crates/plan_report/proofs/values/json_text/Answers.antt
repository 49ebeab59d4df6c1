use Rattle.std.proofs.Common.{◌≡◌, ◌≤◌, ◌++◌, ◌∙◌, ℕ, List, Some, arith, ap, map, string_bytes, subst, sym}
use Rattle.serde_json.specs.Data.{Data, array, depth}
use Rattle.serde_json.specs.View.{items_of, view}
use Rattle.serde_json.proofs.Views.{view-Array}
use Rattle.plan_report.specs.PlanData.{plan_data}
use Rattle.plan_report.proofs.Rows.{plan_depth}
use Rattle.plan_report.proofs.values.json_text.Goals as goal

pub returns : goal.returns
returns c =
    let rows = map view c.in_ok-rows.rows.items in
    let server = c.args.named.server.now in
    let shares = c.args.shares.now in
    let drawn : view c.in_ok-plan.plan ≡ plan_data server shares (array (items_of rows)) =
    c.in_ok-plan.ensures.plan ∙ ap (λ (transfers : Data). plan_data server shares transfers) (view-Array c.in_ok-rows.rows) in
    let shallow = plan_depth server c.args.named.groups.now c.args.named.users.now shares rows c.in_ok-rows.ensures.rows in
    let reads = c.in_ok-text.ensures.reads_back (subst (λ (d : Data). depth d ≤ 127) (sym drawn) shallow) in
    let ends = c.in_ok-push.ensures.bytes ∙ ap (λ (octets : List ℕ). string_bytes c.in_ok-text.text ++ octets) (c.in_ok-push.ensures.ascii (omega arith)) in
    record {
      text = (string_bytes c.in_ok-text.text, rows, ends, c.in_ok-rows.ensures.rows, reads ∙ ap Some drawn);
    }
