use Rattle.std.proofs.Common.{◌≡◌, ◌∙◌, ◌∷◌, ◌+◌, ◌++◌, [], add-one, ap, append_assoc, drop, drop-cons, get_or, map, refl, subst, sym}
use Rattle.std.proofs.lemmas.List.{append-nil, drop_all, flat_map_more}
use Rattle.ftp_terms.specs.LineText.{text_of}
use Rattle.session_table.specs.Texts.{AreReported, IsReported, ended_lines}
use Rattle.session_table.specs.TransferRows.{entry_reported}
use Rattle.virtual_tree.specs.Calls.{entry_of}
use Rattle.session_rows.proofs.lines.octets_of.Goals as goal

pub loop-entry-init : goal.loop-entry-init
loop-entry-init g c = ([], c.new-octets.ensures.items, λ rest reported. reported)

pub loop-entry-preserved : goal.loop-entry-preserved
loop-entry-preserved g c =
    let i = c.loop-entry.entry-index in
    let entries = c.args.entries.now in
    let entry = c.entry-item.result in
    let done = c.loop-entry.invariant.0 in
    let f = entry_reported c.args.users.now.users c.args.state.now c.args.above.now c.args.style in
    let first : drop i entries ≡ entry ∷ drop (i + 1) entries =
    drop-cons entries i entry c.loop-entry-test.true
    ∙ ap (λ j. get_or entries i entry ∷ drop j entries) (sym (add-one i))
    ∙ ap (λ x. x ∷ drop (i + 1) entries) (sym c.entry-item.is) in
    let line = text_of c.in_ok-line.line in
    let reported_line : IsReported (f (entry_of entry)) line =
    subst (λ name. IsReported (f (name, entry.meta)) line) c.as_str-name.ensures.value c.in_ok-line.ensures.reported in (
      done ++ line ∷ [],
      c.in_ok-push_line.ensures.line
          ∙ ap (λ octets. octets ++ (c.as_str.result.now ++ 13 ∷ 10 ∷ [])) c.loop-entry.invariant.1
          ∙ ap (λ text. ended_lines done ++ (text ++ 13 ∷ 10 ∷ [])) c.as_str.ensures.text
          ∙ flat_map_more (λ one. one ++ 13 ∷ 10 ∷ []) [] done line,
      λ rest reported.
          let whole : AreReported (map f (map entry_of entries)) (done ++ line ∷ rest) =
          c.loop-entry.invariant.2 (line ∷ rest)
          (subst (λ xs. AreReported (map f (map entry_of xs)) (line ∷ rest)) (sym first) (line, rest, reported_line, reported, refl)) in
          subst (λ lines. AreReported (map f (map entry_of entries)) lines) (sym (append_assoc done (line ∷ []) rest)) whole,
    )

pub returns : goal.returns
returns g c =
    let entries = c.args.entries.now in
    let f = entry_reported c.args.users.now.users c.args.state.now c.args.above.now c.args.style in
    let done = c.loop-entry.invariant.0 in
    record {
      reported = (
        done,
        subst (λ lines. AreReported (map f (map entry_of entries)) lines) (append-nil done)
            (c.loop-entry.invariant.2 []
            (subst (λ xs. AreReported (map f (map entry_of xs)) [])
            (sym (drop_all c.loop-entry.entry-index entries c.loop-entry-test.false)) refl)),
        c.new.ensures.octets ∙ c.loop-entry.invariant.1,
      );
    }
