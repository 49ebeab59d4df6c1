-- Lines of notes.
use Rattle.std.specs.Prelude.{ℕ, List, [], ◌∷◌, codes, Option, Some}
use Rattle.std.specs.Fmt.{◌++?◌}
use Rattle.log.specs.Kv.{Pair}
use Rattle.log.specs.Line.{record_line}
use Rattle.log.specs.Record.{metadata_level, record_args, record_metadata}
use Rattle.log.specs.Span.{Scope}
use Rattle.log.specs.declared.record.Record.{Record}
use Rattle.line_queue.specs.declared.sink.LogForm.{LogForm}
use Rattle.line_queue.specs.declared.sink.LogForm.TheVariants.{Plain, Journal}
use Rattle.log.specs.declared.level.Level.{Level}
use Rattle.log.specs.declared.level.Level.TheVariants.{Error, Warn, Info, Debug, Trace}

-- the priorities of syslog(3) that sd-daemon(3) takes: an error, a warning, an information, and
-- what is for those who look for faults
abbrev pub priority : Level → List ℕ
priority Error = codes "<3>"
priority Warn = codes "<4>"
priority Info = codes "<6>"
priority Debug = codes "<7>"
priority Trace = codes "<7>"

module _ {D K S : Type 0} where
  -- The text of a record in a form: the line of the kit's `log`, or the priority and the message.
  -- The first three arguments are the members of `D`, `K` and `S`.
  abbrev pub form_text : (D → Option (List ℕ)) → (K → Option (List Pair))
      → (S → Option (List Scope)) → LogForm → Record D K S → Option (List ℕ)
  form_text output pairs scopes Plain r = record_line output pairs scopes r
  form_text output pairs scopes Journal r =
      Some (priority (metadata_level (record_metadata r))) ++? output (record_args r)

  -- the same with its end
  abbrev pub note_line : (D → Option (List ℕ)) → (K → Option (List Pair))
      → (S → Option (List Scope)) → LogForm → Record D K S → Option (List ℕ)
  note_line output pairs scopes form r = form_text output pairs scopes form r ++? Some (10 ∷ [])
