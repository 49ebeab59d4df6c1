use Rattle.sheet_commands.proofs.ShareEntries.{named_node}
use Rattle.sheet_commands.proofs.share.share_of.Goals as goal

pub path_of-requires : goal.path_of-requires
path_of-requires g c = record { node = named_node c.args.sheet.now.outline c.args.grants.now c.args.entries.now c.args.leaf c.requires.named c.requires.leaf }
