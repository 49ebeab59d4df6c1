use Rattle.std.proofs.Common.{◌≡◌, ◌∙◌, List, ℕ, Option, sym, ap, subst}
use Rattle.limit_tree.specs.declared.place.Place.{Place}
use Rattle.limit_tree.specs.Outline.{limits}
use Rattle.grant_certificate.specs.Flaws.{IsVerdict, IsFirstFlaw}
use Rattle.grant_certificate.specs.declared.flaw.Verdict.{Verdict}
use Rattle.sheet_commands.specs.Grants.{grants_in, entries_in}
use Rattle.sheet_commands.specs.Checking.{IsThere, verdict_text}
use Rattle.sheet_commands.proofs.There.{first_flaw_there}
use Rattle.text_io.proofs.Reported.{if_err}
use Rattle.sheet_commands.proofs.check.verdict_of.Goals as goal

pub returns-in_err-grants-clause-grants : goal.returns-in_err-grants-clause-grants
returns-in_err-grants-clause-grants g c =
    if_err c.from_residual-in_err-grants.result c.in_err-grants.field-0.0 _ c.from_residual-in_err-grants.ensures.1
    (λ known source is_sheet. record { sheet = c.args.sheet.now; is_sheet = is_sheet; no_memory = known; faulty = c.in_err-grants.ensures.read known })

pub verdict_line-requires-clause-there : goal.verdict_line-requires-clause-there
verdict_line-requires-clause-there g c flaw is =
    let sheet = c.args.sheet.now in
    let grants = c.in_ok-grants.grants.items in
    let entries = c.in_ok-grants.certificate in
    let on_tree = subst (λ (o : List Place). IsVerdict (limits o) c.deref.result.now entries c.check-verdict.result) c.tree.ensures.tree c.check-verdict.ensures.verdict in
    let judged = subst (λ (gs : List ℕ). IsVerdict (limits sheet.outline) gs entries c.check-verdict.result) c.deref.ensures.value on_tree in
    let flawed : IsFirstFlaw (limits sheet.outline) grants entries flaw = subst (λ (v : Verdict). IsVerdict (limits sheet.outline) grants entries v) is judged in
    subst (λ (gs : List ℕ). IsThere sheet gs flaw) (sym c.deref-2.ensures.value) (first_flaw_there sheet grants entries flaw c.tree.ensures.leaves flawed)

pub returns-clause-checked : goal.returns-clause-checked
returns-clause-checked g c source is_sheet =
    let sheet = c.args.sheet.now in
    let text = c.args.text.now in
    let verdict = c.check-verdict.result in
    let entries = c.in_ok-grants.certificate in
    let grants_are : c.in_ok-grants.grants.items ≡ grants_in sheet text = c.in_ok-grants.ensures.read.1 in
    let entries_are : entries ≡ entries_in sheet text = c.in_ok-grants.ensures.read.2 in
    let on_tree = subst (λ (o : List Place). IsVerdict (limits o) c.deref.result.now entries verdict) c.tree.ensures.tree c.check-verdict.ensures.verdict in
    let on_grants = subst (λ (gs : List ℕ). IsVerdict (limits sheet.outline) gs entries verdict) (c.deref.ensures.value ∙ grants_are) on_tree in
    record {
      sheet = sheet;
      is_sheet = is_sheet;
      sound = c.in_ok-grants.ensures.read.0;
      judged = subst (λ (es : List (Option ℕ)). IsVerdict (limits sheet.outline) (grants_in sheet text) es verdict) entries_are on_grants;
      prints = c.in_ok-line.ensures.line ∙ ap (λ (gs : List ℕ). verdict_text sheet gs verdict) (c.deref-2.ensures.value ∙ grants_are);
    }
