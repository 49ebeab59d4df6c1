use Rattle.sheet_commands.proofs.PictureEntries.{named_node}
use Rattle.sheet_commands.proofs.columns.column_of.Goals as goal

pub holder_of-requires : goal.holder_of-requires
holder_of-requires g c = record { node = named_node c.args.sheet.now.outline c.args.grants.now c.args.entries.now c.args.leaf c.requires.named c.requires.leaf }
