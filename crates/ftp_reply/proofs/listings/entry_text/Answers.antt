use Rattle.std.proofs.Common.{codes, if◌then◌else◌, ◌&&◌, []}
use Rattle.std.specs.Fmt.{decimal}
use Rattle.ftp_reply.specs.Listings.{fact, has_size, perms, type_name}
use Rattle.ftp_reply.proofs.DateLemmas.{IsAscii-from_time_val}
use Rattle.ftp_reply.proofs.ListingLemmas.{fact_parts}
use Rattle.ftp_reply.proofs.listings.entry_text.Goals as goal

pub digits_text-requires : goal.digits_text-requires
digits_text-requires g c = record { ascii = IsAscii-from_time_val _ _ c.mdtm_text-time.ensures.text }

pub returns : goal.returns
returns g c =
    let entry = c.args.entry.now in
    let facts = c.args.facts in
    record {
      text = record {
        modified = c.mdtm_text-time.result;
        modified_is = c.mdtm_text-time.ensures.text;
        text_is =
            rw (c.in_ok-push_str-2.ensures.bytes, c.in_ok-push_str.ensures.bytes, c.in_ok-push_perm.ensures.appended, c.in_ok-push_fact-2.ensures.appended, c.in_ok-push_size.ensures.appended, c.in_ok-push_fact.ensures.appended, c.new-text.ensures.bytes, c.digits_text.ensures.text, c.type_name.ensures.name)
            (fact_parts
            (if facts.kind then fact (codes "type") (type_name entry.kind) else [])
            (if facts.size && has_size entry.kind then fact (codes "size") (decimal entry.size) else [])
            (if facts.modify then fact (codes "modify") c.mdtm_text-time.result else [])
            (if facts.perm then fact (codes "perm") (perms entry.kind c.args.letters) else [])
            c.args.path.now);
      };
    }
