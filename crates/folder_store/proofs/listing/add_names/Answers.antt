use Rattle.std.proofs.Common.{rules, ◌≡◌, ◌++◌, ◌+◌, ◌<◌, [], ◌∷◌, List, ℕ, map, string_bytes, length, take, drop, sym, ap, ◌∙◌}
use Rattle.std.proofs.lemmas.List.{append-nil}
use Rattle.folder_store.specs.Listings.{names_in}
use Rattle.folder_store.proofs.Names.{after_one, cut_name, no_names}
use Rattle.folder_store.proofs.listing.add_names.Goals as goal

pub loop-rest-init : goal.loop-rest-init
loop-rest-init g c = ([], sym (append-nil (map string_bytes c.args.names.now.items)), λ more those. those)

pub loop-rest-preserved : goal.loop-rest-preserved
loop-rest-preserved g c =
    let was = c.loop-rest.invariant in
    let rest = c.loop-rest.rest.now in
    let end = c.name_length-end.result in
    let some : 0 < length rest = search rules in
    let cut : names_in rest ≡ take end rest ∷ names_in (drop (end + 1) rest) = cut_name rest end some c.name_length-end.ensures.in_bounds.0 c.name_length-end.ensures.no_nul c.name_length-end.ensures.nul in
    after_one (names_in c.args.text.now) (names_in rest) (names_in c.after_name-rest.result.now) (take end rest) (map string_bytes c.args.names.now.items) (map string_bytes c.loop-rest.names.items) (map string_bytes c.add_name.new.names.items) was.0
    (cut ∙ ap (λ (t : List ℕ). take end rest ∷ names_in t) (sym c.after_name-rest.ensures.rest)) c.in_ok-add_name.ensures.added was.1 was.2

pub returns : goal.returns
returns g c =
    let was = c.loop-rest.invariant in
    let none : length c.loop-rest.rest.now ≡ 0 = search rules in
    record {
      added = (was.0 ++ [], was.2 [] (no_names c.loop-rest.rest.now none), was.1 ∙ ap (λ t. map string_bytes c.args.names.now.items ++ t) (sym (append-nil was.0)));
    }
