use Rattle.std.proofs.Common.{◌≡◌, ◌∙◌, length, List, [], ℕ, Option, map, string_bytes, sym, ap, subst}
use Rattle.limit_tree.specs.declared.place.Place.{Place}
use Rattle.limit_tree.specs.Sharing.{IsWithin, IsBackedBy, IsBest}
use Rattle.limit_tree.specs.Outline.{limits}
use Rattle.round_allocator.specs.Rounds.{IsExhausted, IsNamed}
use Rattle.sheet_commands.specs.Columns.{column_at}
use Rattle.sheet_commands.specs.Pictures.{IsDrawn}
use Rattle.sheet_commands.specs.declared.column.Column.{Column}
use Rattle.sheet_commands.proofs.picture.sheet_picture.Goals as goal

pub columns_of-requires-clause-wants : goal.columns_of-requires-clause-wants
columns_of-requires-clause-wants g c = c.of-leaves.ensures.wants ∙ ap (λ (o : List Place). (limits o).wants) c.tree-2.ensures.tree

pub columns_of-requires-clause-floors : goal.columns_of-requires-clause-floors
columns_of-requires-clause-floors g c = c.of-leaves.ensures.floors ∙ ap (λ (o : List Place). (limits o).floors) c.tree-2.ensures.tree

pub columns_of-requires-clause-named : goal.columns_of-requires-clause-named
columns_of-requires-clause-named g c =
    let named = subst (λ (o : List Place). IsNamed (limits o) c.in_ok-grants.grants.items c.in_ok-grants.certificate) c.tree.ensures.tree c.in_ok-grants.ensures.named in
    subst (λ (gs : List ℕ). IsNamed (limits c.args.sheet.now.outline) gs c.entries-entries.result.now) (sym c.deref.ensures.value)
    (subst (λ (es : List (Option ℕ)). IsNamed (limits c.args.sheet.now.outline) c.in_ok-grants.grants.items es) (sym c.entries-entries.ensures.entries) named)

pub columns_of-requires-clause-grants : goal.columns_of-requires-clause-grants
columns_of-requires-clause-grants g c =
    ap length c.deref.ensures.value ∙ c.in_ok-grants.ensures.within.wanted.leaves ∙ ap (λ (o : List Place). length (limits o).wants) c.tree.ensures.tree

pub returns : goal.returns
returns g c =
    let sheet = c.args.sheet.now in
    let grants = c.in_ok-grants.grants.items in
    let entries = c.in_ok-grants.certificate in
    let same : c.tree.result.now ≡ sheet.outline = c.tree.ensures.tree in
    let columns = c.in_ok-columns.columns.items in
    let printed = string_bytes c.in_ok-picture.picture in
    let drawn : IsDrawn columns printed = subst (λ (cs : List Column). IsDrawn cs printed) c.deref-3.ensures.value c.in_ok-picture.ensures.drawn in
    record {
      drawn = λ text is_sheet. record {
        sheet = sheet;
        grants = grants;
        entries = entries;
        columns = columns;
        is_sheet = is_sheet;
        within = subst (λ (o : List Place). IsWithin (limits o) grants) same c.in_ok-grants.ensures.within;
        exhausted = subst (λ (o : List Place). IsExhausted (limits o) grants) same c.in_ok-grants.ensures.exhausted;
        named = subst (λ (o : List Place). IsNamed (limits o) grants entries) same c.in_ok-grants.ensures.named;
        backed = subst (λ (o : List Place). IsBackedBy (limits o) grants entries) same c.in_ok-grants.ensures.backed;
        best = subst (λ (o : List Place). IsBest (limits o) grants) same c.in_ok-grants.ensures.best;
        has = c.in_ok-columns.ensures.columns
            ∙ ap (λ (gs : List ℕ). map (column_at sheet [] gs c.entries-entries.result.now) sheet.wants) c.deref.ensures.value
            ∙ ap (λ (es : List (Option ℕ)). map (column_at sheet [] grants es) sheet.wants) c.entries-entries.ensures.entries;
        drawn = drawn;
      };
    }
