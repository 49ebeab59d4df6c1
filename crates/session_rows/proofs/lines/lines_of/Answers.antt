use Rattle.std.proofs.Common.{◌≡◌, ◌∙◌, ◌∷◌, ◌+◌, ◌++◌, [], add-one, ap, drop, drop-cons, get_or, map, refl, subst, sym}
use Rattle.std.proofs.lemmas.List.{append-nil, drop_all}
use Rattle.ftp_terms.specs.LineText.{text_of}
use Rattle.session_table.specs.Texts.{AreReported, IsReported}
use Rattle.session_table.specs.TransferRows.{entry_reported}
use Rattle.virtual_tree.specs.Calls.{entry_of}
use Rattle.session_rows.proofs.OneMore.{one_more}
use Rattle.session_rows.proofs.lines.lines_of.Goals as goal

pub loop-entry-preserved : goal.loop-entry-preserved
loop-entry-preserved g c = λ rest reported.
    let i = c.loop-entry.entry-index in
    let entries = c.args.entries.now in
    let entry = c.entry-item.result in
    let f = entry_reported c.args.users.now.users c.args.state.now c.args.above.now c.args.style in
    let first : drop i entries ≡ entry ∷ drop (i + 1) entries =
    drop-cons entries i entry c.loop-entry-test.true
    ∙ ap (λ j. get_or entries i entry ∷ drop j entries) (sym (add-one i))
    ∙ ap (λ x. x ∷ drop (i + 1) entries) (sym c.entry-item.is) in
    let line = text_of c.in_ok-line.line in
    let reported_line : IsReported (f (entry_of entry)) line =
    subst (λ name. IsReported (f (name, entry.meta)) line) c.as_str-name.ensures.value c.in_ok-line.ensures.reported in
    let whole : AreReported (map f (map entry_of entries)) (map text_of c.loop-entry.lines.items ++ line ∷ rest) =
    c.loop-entry.invariant (line ∷ rest)
    (subst (λ xs. AreReported (map f (map entry_of xs)) (line ∷ rest)) (sym first) (line, rest, reported_line, reported, refl)) in
    subst (λ items. AreReported (map f (map entry_of entries)) (map text_of items ++ rest)) (sym c.in_ok-push.ensures.items)
    (subst (λ lines. AreReported (map f (map entry_of entries)) lines)
    (sym (one_more text_of c.loop-entry.lines.items c.in_ok-line.line rest)) whole)

pub returns : goal.returns
returns g c =
    let entries = c.args.entries.now in
    let f = entry_reported c.args.users.now.users c.args.state.now c.args.above.now c.args.style in
    let items = c.loop-entry.lines.items in
    record {
      reported =
          subst (λ lines. AreReported (map f (map entry_of entries)) lines) (append-nil (map text_of items))
          (c.loop-entry.invariant []
          (subst (λ xs. AreReported (map f (map entry_of xs)) [])
          (sym (drop_all c.loop-entry.entry-index entries c.loop-entry-test.false)) refl));
    }
