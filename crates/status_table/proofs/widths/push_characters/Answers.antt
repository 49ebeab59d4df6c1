use Rattle.std.proofs.Common.{rules, string_bytes}
use Rattle.status_table.proofs.Texts.{encode_more}
use Rattle.status_table.proofs.widths.push_characters.Goals as goal

pub loop-character-preserved : goal.loop-character-preserved
loop-character-preserved c =
    encode_more c.args.characters.now c.loop-character.character-index c.character-item.result (string_bytes c.args.text.now) (string_bytes c.loop-character.text) (string_bytes c.push.new.self)
    c.loop-character-test.true (search rules) c.loop-character.invariant (search rules)
