use Rattle.std.proofs.Common.{ap, map, ◌∙◌, List, ℕ}
use Rattle.serde_json.proofs.Views.{view-Array}
use Rattle.serde_json.specs.Data.{Data, array}
use Rattle.serde_json.specs.View.{items_of, view}
use Rattle.serde_json.specs.declared.value.Value.TheVariants.{Array}
use Rattle.change_report.specs.declared.limits.LimitChange.{LimitChange}
use Rattle.change_report.specs.declared.names.NameChange.{NameChange}
use Rattle.change_report.specs.declared.settings.SettingChange.{SettingChange}
use Rattle.change_report.specs.ChangeData.{limit_data, name_data, outcome_word, reason_data, setting_data, whole_data}
use Rattle.change_report.proofs.values.change_value.Goals as goal

pub returns : goal.returns
returns c =
    let changes = c.args.changes.now in
    let settings = view-Array c.in_ok-settings.settings ∙ ap (λ (values : List Data). array (items_of values)) c.in_ok-settings.ensures.settings ∙ ap (λ (xs : List SettingChange). array (items_of (map setting_data xs))) c.as_slice.ensures.value in
    let names = view-Array c.in_ok-names.names ∙ ap (λ (values : List Data). array (items_of values)) c.in_ok-names.ensures.names ∙ ap (λ (xs : List NameChange). array (items_of (map name_data xs))) c.as_slice-2.ensures.value in
    let limits = view-Array c.in_ok-limits.limits ∙ ap (λ (values : List Data). array (items_of values)) c.in_ok-limits.ensures.limits ∙ ap (λ (xs : List LimitChange). array (items_of (map limit_data xs))) c.as_slice-3.ensures.value in
    let word = ap (λ (w : List ℕ). whole_data w (view c.in_ok-reason.reason) (view (Array c.in_ok-settings.settings)) (view (Array c.in_ok-names.names)) (view (Array c.in_ok-limits.limits))) c.outcome.ensures.outcome in
    let first = ap (λ (d : Data). whole_data (outcome_word changes) d (view (Array c.in_ok-settings.settings)) (view (Array c.in_ok-names.names)) (view (Array c.in_ok-limits.limits))) c.in_ok-reason.ensures.reason in
    let second = ap (λ (d : Data). whole_data (outcome_word changes) (reason_data changes.reason) d (view (Array c.in_ok-names.names)) (view (Array c.in_ok-limits.limits))) settings in
    let third = ap (λ (d : Data). whole_data (outcome_word changes) (reason_data changes.reason) (array (items_of (map setting_data changes.settings.items))) d (view (Array c.in_ok-limits.limits))) names in
    let fourth = ap (λ (d : Data). whole_data (outcome_word changes) (reason_data changes.reason) (array (items_of (map setting_data changes.settings.items))) (array (items_of (map name_data changes.names.items))) d) limits in
    record {
      change = c.in_ok-value.ensures.whole ∙ word ∙ first ∙ second ∙ third ∙ fourth;
    }
