use Rattle.std.proofs.Common.{rules, arith, ap, sym, take, [], ◌+◌, ◌∷◌, ◌++◌, ◌≡◌, ◌∙◌, append_assoc, append-nil, slice_index_or}
use Rattle.std.proofs.lemmas.List.{take_more}
use Rattle.std.proofs.Math.Seq.{take_all}
use Rattle.ftp_wire.specs.Reading.{items_of}
use Rattle.ftp_wire.proofs.Reading.{only_reads_as}
use Rattle.ftp_wire.proofs.reader.LineReader.feed.Goals as goal

pub loop-octet-init : goal.loop-octet-init
loop-octet-init g c octets items h = rw (append-nil octets, c.new-found.ensures.items, append-nil items) (c.in_ok-next.ensures.reads octets items h)

pub loop-octet-preserved : goal.loop-octet-preserved
loop-octet-preserved g c octets items h =
    let piece = c.args.piece.now in
    let i = c.loop-octet.octet-index in
    let step = c.in_ok-take.ensures.reads (octets ++ take i piece) items (c.loop-octet.invariant octets items h) in
    let further : (octets ++ take i piece) ++ slice_index_or piece i 0 ∷ [] ≡ octets ++ take (i + 1) piece =
    append_assoc octets (take i piece) (slice_index_or piece i 0 ∷ []) ∙ ap (λ t. octets ++ t) (sym (take_more piece i 0 (search rules))) in
    rw (← further) step

pub returns-clause-reads : goal.returns-clause-reads
returns-clause-reads g c octets items h =
    let piece = c.args.piece.now in
    let all : take c.loop-octet.octet-index piece ≡ piece = take_all c.loop-octet.octet-index piece (search (arith, rules)) in
    rw all at c.loop-octet.invariant octets items h

pub returns-clause-only : goal.returns-clause-only
returns-clause-only g c octets items h =
    let piece = c.args.piece.now in
    let all : take c.loop-octet.octet-index piece ≡ piece = take_all c.loop-octet.octet-index piece (search (arith, rules)) in
    only_reads_as (octets ++ piece) (items ++ items_of c.loop-octet.found.items) c.loop-octet.next (rw all at c.loop-octet.invariant octets items h)
