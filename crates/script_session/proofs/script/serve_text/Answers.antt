use Rattle.std.proofs.Common.{rules, refl, ℕ, List}
use Rattle.std.specs.declared.alloc.Global.{Global}
use Rattle.memory_store.specs.InMemory.{InMemory}
use Rattle.session_host.specs.Alone.{AloneDoes}
use Rattle.session_host.specs.Rows.{IsRow}
use Rattle.session_host.specs.Sessions.{IsServed, new_session}
use Rattle.session_host.specs.Silent.{StaysSilent}
use Rattle.script_session.specs.Scripts.{AnswersScript, IsScript, ReadsZero, home_address, script_parts, unasked}
use Rattle.script_session.proofs.Ending.{ends_as}
use Rattle.script_session.proofs.Scripting.{script_reported}
use Rattle.script_session.proofs.script.serve_text.Goals as goal

pub returns-clause-whole : goal.returns-clause-whole
returns-clause-whole g c =
    let host = c.run_alone.new.host in (
      host.side.now,
      ends_as (λ last. IsServed (IsRow {A = Global} {R = List ℕ} InMemory)
          (AloneDoes c.args.users.now.users ReadsZero AnswersScript StaysSilent g.R.TextReader.remaining g.R.TextReader.may_fail g.W.TextWriter.contents g.W.TextWriter.may_refuse)
          4294967295 c.run_alone.result (new_session c.args.settings home_address)
          (script_parts c.args.store.now c.args.floors.now (unasked c.args.port) c.args.reader.now c.args.writer.now) last)
          host.side.now host.store.now _ host.floors.now _ host.reader.now _ host.writer.now _ (search rules) (search rules) (search rules) (search rules) c.run_alone.ensures.whole,
    )

pub returns-clause-script : goal.returns-clause-script
returns-clause-script g c =
    let host = c.run_alone.new.host in
    ends_as (λ last. IsScript c.args.users.now.users c.args.settings c.args.port c.args.floors.now c.args.store.now last.store
    (g.R.TextReader.remaining c.args.reader.now) (g.R.TextReader.remaining last.reader)
    (g.W.TextWriter.contents c.args.writer.now) (g.W.TextWriter.contents last.writer) c.run_alone.result)
    host.side.now host.store.now _ c.args.floors.now c.args.floors.now host.reader.now _ host.writer.now _ (search rules) refl (search rules) (search rules)
    (script_reported c.args.users.now.users c.args.settings c.args.port g.R.TextReader.remaining g.W.TextWriter.contents c.run_alone.result
    c.args.store.now host.store.now c.args.floors.now host.floors.now host.side.now c.args.reader.now host.reader.now c.args.writer.now host.writer.now
    c.run_alone.ensures.floors c.run_alone.ensures.reported)
