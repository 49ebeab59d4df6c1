use Rattle.std.proofs.Common.{◌≡◌, ◌∙◌, length, List, ℕ, Option, map, string_bytes, sym, ap, subst}
use Rattle.limit_tree.specs.declared.place.Place.{Place}
use Rattle.limit_tree.specs.Outline.{limits}
use Rattle.depth_users.specs.Owners.{AreOwners}
use Rattle.depth_users.specs.Shared.{IsSharedAt}
use Rattle.round_allocator.specs.Rounds.{IsNamed}
use Rattle.sheet_commands.specs.Columns.{column_at}
use Rattle.sheet_commands.specs.Pictures.{IsDrawn}
use Rattle.sheet_commands.specs.declared.column.Column.{Column}
use Rattle.sheet_commands.proofs.picture_users.user_picture.Goals as goal

pub columns_of-requires-clause-wants : goal.columns_of-requires-clause-wants
columns_of-requires-clause-wants g c = c.of-leaves.ensures.wants ∙ ap (λ (o : List Place). (limits o).wants) c.tree-3.ensures.tree

pub columns_of-requires-clause-floors : goal.columns_of-requires-clause-floors
columns_of-requires-clause-floors g c = c.of-leaves.ensures.floors ∙ ap (λ (o : List Place). (limits o).floors) c.tree-3.ensures.tree

pub columns_of-requires-clause-named : goal.columns_of-requires-clause-named
columns_of-requires-clause-named g c =
    let named = subst (λ (o : List Place). IsNamed (limits o) c.in_ok-grants.grants.items c.in_ok-grants.certificate) c.tree.ensures.tree c.in_ok-grants.ensures.named in
    subst (λ (gs : List ℕ). IsNamed (limits c.args.sheet.now.outline) gs c.entries-entries.result.now) (sym c.deref.ensures.value)
    (subst (λ (es : List (Option ℕ)). IsNamed (limits c.args.sheet.now.outline) c.in_ok-grants.grants.items es) (sym c.entries-entries.ensures.entries) named)

pub columns_of-requires-clause-grants : goal.columns_of-requires-clause-grants
columns_of-requires-clause-grants g c =
    ap length c.deref.ensures.value ∙ c.in_ok-grants.ensures.shared.within.wanted.leaves ∙ ap (λ (o : List Place). length (limits o).wants) c.tree.ensures.tree

pub returns : goal.returns
returns g c =
    let sheet = c.args.sheet.now in
    let grants = c.in_ok-grants.grants.items in
    let owners = c.in_ok-owners.owners.items in
    let entries = c.in_ok-grants.certificate in
    let same : c.tree.result.now ≡ sheet.outline = c.tree.ensures.tree in
    let also : c.tree-2.result.now ≡ sheet.outline = c.tree-2.ensures.tree in
    let columns = c.in_ok-columns.columns.items in
    let printed = string_bytes c.in_ok-picture.picture in
    let drawn : IsDrawn columns printed = subst (λ (cs : List Column). IsDrawn cs printed) c.deref-4.ensures.value c.in_ok-picture.ensures.drawn in
    record {
      drawn = λ text is_sheet. record {
        sheet = sheet;
        owners = owners;
        grants = grants;
        entries = entries;
        columns = columns;
        is_sheet = is_sheet;
        are_owners = subst (λ (o : List Place). AreOwners o c.args.depth owners) also c.in_ok-owners.ensures.owners;
        shared = subst (λ (o : List Place). IsSharedAt o c.args.depth grants entries) same c.in_ok-grants.ensures.shared;
        named = subst (λ (o : List Place). IsNamed (limits o) grants entries) same c.in_ok-grants.ensures.named;
        has = c.in_ok-columns.ensures.columns
            ∙ ap (λ (us : List ℕ). map (column_at sheet us c.deref.result.now c.entries-entries.result.now) sheet.wants) c.deref-3.ensures.value
            ∙ ap (λ (gs : List ℕ). map (column_at sheet owners gs c.entries-entries.result.now) sheet.wants) c.deref.ensures.value
            ∙ ap (λ (es : List (Option ℕ)). map (column_at sheet owners grants es) sheet.wants) c.entries-entries.ensures.entries;
        drawn = drawn;
      };
    }
