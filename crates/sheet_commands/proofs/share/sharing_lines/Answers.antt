use Rattle.std.proofs.Common.{◌≡◌, ◌∙◌, length, List, ℕ, Option, sum, sym, ap, subst, arith}
use Rattle.limit_tree.specs.declared.place.Place.{Place}
use Rattle.limit_tree.specs.Sharing.{IsWithin, IsBackedBy, IsBest}
use Rattle.limit_tree.specs.Outline.{limits}
use Rattle.round_allocator.specs.Rounds.{IsExhausted, IsNamed}
use Rattle.limit_tree.proofs.Sums.{sum-wanted}
use Rattle.sheet_commands.specs.ShareLines.{share_lines}
use Rattle.sheet_commands.specs.Sharing.{sharing_text}
use Rattle.sheet_commands.proofs.share.sharing_lines.Goals as goal

pub shares_of-requires-clause-wants : goal.shares_of-requires-clause-wants
shares_of-requires-clause-wants g c =
    c.wants.ensures.wants ∙ c.of-leaves.ensures.wants ∙ ap (λ (o : List Place). (limits o).wants) c.tree-2.ensures.tree

pub shares_of-requires-clause-grants : goal.shares_of-requires-clause-grants
shares_of-requires-clause-grants g c =
    ap length c.deref.ensures.value ∙ c.in_ok-grants.ensures.within.wanted.leaves
    ∙ ap (λ (o : List Place). length (limits o).wants) (c.tree.ensures.tree ∙ sym c.tree-2.ensures.tree) ∙ sym (ap length (c.wants.ensures.wants ∙ c.of-leaves.ensures.wants))

pub shares_of-requires-clause-leaves : goal.shares_of-requires-clause-leaves
shares_of-requires-clause-leaves g c =
    c.tree.ensures.leaves ∙ sym (ap length (c.wants.ensures.wants ∙ c.of-leaves.ensures.wants ∙ ap (λ (o : List Place). (limits o).wants) c.tree-2.ensures.tree))

pub shares_of-requires-clause-named : goal.shares_of-requires-clause-named
shares_of-requires-clause-named g c =
    let named = subst (λ (o : List Place). IsNamed (limits o) c.in_ok-grants.grants.items c.in_ok-grants.certificate) c.tree.ensures.tree c.in_ok-grants.ensures.named in
    subst (λ (gs : List ℕ). IsNamed (limits c.args.sheet.now.outline) gs c.entries.result.now) (sym c.deref.ensures.value)
    (subst (λ (es : List (Option ℕ)). IsNamed (limits c.args.sheet.now.outline) c.in_ok-grants.grants.items es) (sym c.entries.ensures.entries) named)

pub shares_of-requires-clause-few : goal.shares_of-requires-clause-few
shares_of-requires-clause-few g c =
    let trees : c.tree-2.result.now ≡ c.tree.result.now = c.tree-2.ensures.tree ∙ sym c.tree.ensures.tree in
    omega (
      arith,
      ap sum c.deref.ensures.value,
      sum-wanted (limits c.tree.result.now) c.in_ok-grants.grants.items c.in_ok-grants.ensures.within.wanted,
      ap (λ (o : List Place). sum (limits o).wants) trees,
      c.of-leaves.ensures.octets,
    )

pub returns : goal.returns
returns g c =
    let sheet = c.args.sheet.now in
    let grants = c.in_ok-grants.grants.items in
    let entries = c.in_ok-grants.certificate in
    let same : c.tree.result.now ≡ sheet.outline = c.tree.ensures.tree in
    let lines : share_lines c.deref-2.result.now ≡ sharing_text sheet grants entries =
    ap share_lines c.deref-2.ensures.value ∙ c.in_ok-shares.ensures.lines ∙ ap (λ (gs : List ℕ). sharing_text sheet gs c.entries.result.now) c.deref.ensures.value
    ∙ ap (λ (es : List (Option ℕ)). sharing_text sheet grants es) c.entries.ensures.entries in
    record {
      shared = λ text is_sheet. record {
        sheet = sheet;
        grants = grants;
        entries = entries;
        is_sheet = is_sheet;
        within = subst (λ (o : List Place). IsWithin (limits o) grants) same c.in_ok-grants.ensures.within;
        exhausted = subst (λ (o : List Place). IsExhausted (limits o) grants) same c.in_ok-grants.ensures.exhausted;
        named = subst (λ (o : List Place). IsNamed (limits o) grants entries) same c.in_ok-grants.ensures.named;
        backed = subst (λ (o : List Place). IsBackedBy (limits o) grants entries) same c.in_ok-grants.ensures.backed;
        best = subst (λ (o : List Place). IsBest (limits o) grants) same c.in_ok-grants.ensures.best;
        prints = c.in_ok-lines.ensures.lines ∙ lines;
      };
    }
