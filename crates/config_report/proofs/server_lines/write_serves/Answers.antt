use Rattle.std.proofs.Common.{◌∷◌, [], string_bytes}
use Rattle.config_report.specs.ServerLines.{contents_text, root_text}
use Rattle.config_report.proofs.Joined.{three}
use Rattle.config_report.proofs.server_lines.write_serves.Goals as goal

pub returns : goal.returns
returns c =
    let tables = c.args.tables.now in
    record {
      line = three (string_bytes c.args.text.now) (string_bytes c.write_root.new.text) (string_bytes c.write_contents.new.text) (string_bytes c.write_word.new.text)
          (root_text tables.server) (contents_text tables) (10 ∷ [])
          c.in_ok-write_root.ensures.root c.in_ok-write_contents.ensures.contents c.in_ok-write_word.ensures.word;
    }
