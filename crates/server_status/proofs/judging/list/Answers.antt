use Rattle.std.proofs.Common.{◌∙◌, Option, ap, map, sym}
use Rattle.std.specs.Prelude.{option_and_then, unwrap_or}
use Rattle.serde_json.specs.Data.{Data, Items, no_items}
use Rattle.serde_json.specs.Find.{as_array}
use Rattle.serde_json.specs.View.{view}
use Rattle.serde_json.specs.declared.value.Value.{Value}
use Rattle.std.proofs.Common.{List}
use Rattle.server_status.specs.StatusRead.{listed}
use Rattle.server_status.proofs.Lists.{listed-items_of}
use Rattle.server_status.proofs.judging.list.Goals as goal

pub returns-in-Some-as_array : goal.returns-in-Some-as_array
returns-in-Some-as_array c = record {
  list =
      ap (λ (values : List Value). map view values) c.as_slice.ensures.value ∙ sym (listed-items_of (map view c.in-Some-as_array.values.now.items))
      ∙ ap (λ (o : Option Items). listed (unwrap_or o no_items)) (c.in-Some-as_array.ensures ∙ ap (λ (o : Option Data). option_and_then as_array o) c.in-Some.ensures);
}
