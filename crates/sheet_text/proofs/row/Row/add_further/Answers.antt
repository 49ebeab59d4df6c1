use Rattle.std.proofs.Common.{Some}
use Rattle.std.specs.BTreeMap.{get_by}
use Rattle.std.specs.Ordering.{nat_cmp}
use Rattle.std.specs.Cmp.Lexicographic.{slice_cmp}
use Rattle.std.proofs.lemmas.Map.Text.{btree_map_updates_str}
use Rattle.sheet_text.proofs.Marks.{other_more}
use Rattle.sheet_text.proofs.row.Row.add_further.Goals as goal

pub returns-in-Ok-clause-added : goal.returns-in-Ok-clause-added
returns-in-Ok-clause-added g c = other_more c.args.name.now c.args.place (λ mark. get_by (nat_cmp mark) c.args.self.now.marks) (λ name. get_by (λ key. slice_cmp nat_cmp name key.now) c.args.self.now.others) (λ name. get_by (λ key. slice_cmp nat_cmp name key.now) c.insert.new.self) c.requires.absent (btree_map_updates_str c.args.name.now c.args.self.now.others c.insert.new.self (Some c.args.place) c.in-Ok.ensures.updates)
