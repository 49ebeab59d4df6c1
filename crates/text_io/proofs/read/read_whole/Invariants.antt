use Rattle.std.proofs.Common.{◌≤◌, ◌≡◌, vec_len}
use Rattle.std.specs.Io.KnownBytes.{Consumes}
use Rattle.text_io.proofs.read.read_whole.Given as goal

abbrev pub invariant-reads : goal.invariant-reads
invariant-reads g l = record {
  short : vec_len l.all ≤ 4194304;
  reads : l.counter ≤ vec_len l.all;
  chunk : vec_len l.chunk ≡ 65536;
  taken : Consumes (g.R.TextReader.remaining l.initial.reader) (g.R.TextReader.remaining l.reader) l.all.items;
  stays : g.R.TextReader.may_fail l.reader ≡ g.R.TextReader.may_fail l.initial.reader;
}
