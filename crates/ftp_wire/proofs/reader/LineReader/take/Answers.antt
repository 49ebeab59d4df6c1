use Rattle.std.proofs.Common.{sym, ap, ◌∙◌, ◌≡◌, ◌++◌, ◌∷◌, [], append_assoc}
use Rattle.std.proofs.lemmas.List.{map-append}
use Rattle.ftp_wire.specs.Reading.{item_of, items_of}
use Rattle.ftp_wire.proofs.Reading.{read_end, read_octet}
use Rattle.ftp_wire.proofs.reader.LineReader.take.Goals as goal

pub returns-then-kept-eq-LF : goal.returns-then-kept-eq-LF
returns-then-kept-eq-LF g c = record {
  reads = λ octets items h.
      let old = c.args.found.now.items in
      let item = c.in_ok-item.item in
      let views : (items ++ items_of old) ++ item_of item ∷ [] ≡ items ++ items_of c.push.new.self.items =
      append_assoc items (items_of old) (item_of item ∷ []) ∙ ap (λ v. items ++ v) (sym (map-append item_of old (item ∷ [])))
      ∙ ap (λ v. items ++ items_of v) (sym c.in_ok-push.ensures.items) in
      rw (← views) (read_end octets (items ++ items_of old) c.args.octet (item_of item) c.args.self.now _ h
      (rw c.if-kept-eq-LF.true at c.in-Some.ensures.strips) c.in_ok-item.ensures.item c.in_ok-item.ensures.empty);
}

pub returns : goal.returns
returns g c = record {
  reads = λ octets items h.
      read_octet octets (items ++ items_of c.args.found.now.items) c.args.octet c.in-Some.kept c.args.self.now _ h
      c.in-Some.ensures.strips c.if-kept-eq-LF.false c.in_ok-keep.ensures.holds;
}
