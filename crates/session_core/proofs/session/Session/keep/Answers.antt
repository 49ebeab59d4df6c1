use Rattle.std.proofs.Common.{◌≡◌, ◌∙◌, ◌∷◌, ◌++◌, [], List, ap, ap₂, sym}
use Rattle.std.proofs.lemmas.List.{map-append}
use Rattle.ftp_wire.specs.Items.{Item}
use Rattle.ftp_wire.specs.Reading.{item_of, items_of}
use Rattle.session_table.specs.Steps.{Standing}
use Rattle.session_table.specs.Plans.Plan.{Then}
use Rattle.session_core.proofs.session.Session.keep.Goals as goal

pub returns-clause-row : goal.returns-clause-row
returns-clause-row g c =
    let items = c.self.inside.held.items in
    let item = item_of c.args.item in
    let seen : c.args.self.now ≡ record { view = c.self.inside.state; held = items_of items } = sym c.self.view_is in
    let view = ap (λ (s : Standing). s.view) seen in
    let held = ap (λ (s : Standing). s.held) seen in (
      ap₂ Then (sym view) c.in_ok-actions.ensures.idle,
      ap items_of c.in_ok-push.ensures.items ∙ map-append item_of items (c.args.item ∷ []) ∙ ap (λ (its : List Item). its ++ item ∷ []) (sym held),
    )
