use Rattle.session_host.specs.Breaks.{IsBreak, MayBreakReading, MayBreakWriting}
use Rattle.script_session.specs.Served.{IsBrokenBy, IsSessionBreak, IsUnserved, most_reads}
use Rattle.script_session.proofs.Stores.{no_folder, on_reported, on_broken}
use Rattle.script_session.proofs.serving.serve_config.Goals as goal

pub returns-in-Memory : goal.returns-in-Memory
returns-in-Memory g c = record {
  served = on_reported c.serve_memory-served.result c.reported.result c.reported.ensures.served c.serve_memory-served.ensures.served
      (λ is. (c.in-Memory.store, c.in-Memory.is, is));
  broken = on_broken
      (IsBrokenBy c.args.config.users.users c.args.config.limits c.in-Memory.store c.args.config.settings c.args.config.numbers.passive_first
      (g.R.TextReader.remaining c.args.reader.now) (g.R.TextReader.remaining c.serve_memory-served.new.reader)
      (g.W.TextWriter.contents c.args.writer.now) (g.W.TextWriter.contents c.serve_memory-served.new.writer))
      (IsUnserved c.args.config
      (g.R.TextReader.remaining c.args.reader.now) (g.R.TextReader.remaining c.serve_memory-served.new.reader)
      (g.W.TextWriter.contents c.args.writer.now) (g.W.TextWriter.contents c.serve_memory-served.new.writer))
      c.serve_memory-served.result c.reported.result c.reported.ensures.broken c.serve_memory-served.ensures.broken
      (λ why is. (c.in-Memory.store, c.in-Memory.is, is));
  breaks = on_broken
      (IsBreak (MayBreakReading most_reads (g.R.TextReader.may_fail c.args.reader.now) (g.R.TextReader.remaining c.args.reader.now))
      (MayBreakWriting g.W.TextWriter.contents g.W.TextWriter.may_refuse c.args.writer.now))
      (IsSessionBreak (MayBreakReading most_reads (g.R.TextReader.may_fail c.args.reader.now) (g.R.TextReader.remaining c.args.reader.now))
      (MayBreakWriting g.W.TextWriter.contents g.W.TextWriter.may_refuse c.args.writer.now))
      c.serve_memory-served.result c.reported.result c.reported.ensures.broken c.serve_memory-served.ensures.breaks (λ why is. is);
  untouched = no_folder _ c.serve_memory-served.result c.reported.result c.reported.ensures.broken;
}
