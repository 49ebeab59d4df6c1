use Rattle.std.proofs.Common.{codes, false, refl, Bool, sym, [], ◌≡◌, ◌∙◌, ap, ap₂, subst, map, ℕ, List, Option, true}
use Rattle.std.specs.Borrow.{Bor}
use Rattle.command_line.specs.Commands.{sheets}
use Rattle.command_line.specs.Given.{IsCheck, IsSheetFound, IsRefusal, IsShare}
use Rattle.clap.specs.Words.{App, Row, Text, app_of, fault_of, first_of, is_simple, is_simple_and_free, subcommand_of, takes}
use Rattle.command_line.proofs.Taken.{refused_by_none, sheets_is_free, sheets_is_simple, sheets_checks, sheets_pictures, sheets_shares}
use Rattle.command_line.proofs.GivenCommand.{check_is, share_is, sheets_found}
use Rattle.command_line.proofs.words.read_sheet_words.Goals as goal

pub returns-in-Err-clause-share : goal.returns-in-Err-clause-share
returns-in-Err-clause-share c = λ word plain are.
    c.in-Err.ensures.takes (ap₂ takes c.in-Ok.ensures.sheets are ∙ (sheets_shares word plain).taken)

pub returns-in-Err-clause-share_svg : goal.returns-in-Err-clause-share_svg
returns-in-Err-clause-share_svg c = λ word plain are.
    c.in-Err.ensures.takes (ap₂ takes c.in-Ok.ensures.sheets are ∙ (sheets_pictures word plain).taken)

pub returns-in-Err-clause-check : goal.returns-in-Err-clause-check
returns-in-Err-clause-check c = λ first second plain also are.
    c.in-Err.ensures.takes (ap₂ takes c.in-Ok.ensures.sheets are ∙ (sheets_checks first second plain also).taken)

pub returns-in-Err-clause-refused : goal.returns-in-Err-clause-refused
returns-in-Err-clause-refused c =
    let texts = map (λ (s : Bor (List ℕ)). s.now) c.args.words.now in
    let refused = c.in-Err.ensures.refused (ap is_simple_and_free c.in-Ok.ensures.sheets ∙ sheets_is_free) in
    subst (λ (a : App). IsRefusal (fault_of a texts) c.in-Err.fault) c.in-Ok.ensures.sheets refused

pub returns-in_default-clause-taken : goal.returns-in_default-clause-taken
returns-in_default-clause-taken c = λ none.
    let texts = map (λ (s : Bor (List ℕ)). s.now) c.args.words.now in
    let found = sheets_found c.args.words texts none in
    (found.0, found.1, refl)

pub returns-in-Err-clause-taken : goal.returns-in-Err-clause-taken
returns-in-Err-clause-taken c = λ none.
    let texts = map (λ (s : Bor (List ℕ)). s.now) c.args.words.now in
    let found = sheets_found c.args.words texts none in
    (found.0, found.1, refused_by_none (fault_of sheets texts) c.in-Err.fault none (returns-in-Err-clause-refused c))

pub unreachable-requires : goal.unreachable-requires
unreachable-requires c =
    let texts = map (λ (s : Bor (List ℕ)). s.now) c.args.words.now in
    let free : is_simple_and_free (app_of c.in-Ok.command) ≡ true = ap is_simple_and_free c.in-Ok.ensures.sheets ∙ sheets_is_free in
    let simple : is_simple (app_of c.in-Ok.command) ≡ true = ap is_simple c.in-Ok.ensures.sheets ∙ sheets_is_simple in
    let none : fault_of sheets texts ≡ [] = subst (λ (a : App). fault_of a texts ≡ []) c.in-Ok.ensures.sheets (c.in-Ok-parsed.ensures.given free) in
    let entered = c.in-Ok-parsed.ensures.found simple ∙ ap (λ (a : App). subcommand_of a texts) c.in-Ok.ensures.sheets in
    let found = sheets_found c.args.words texts none in
    let held = subst (λ (o : Option (Text × List Row)). IsSheetFound o found.0) (sym entered) found.1 in
    c.in-None.ensures.none refl found.0 held

pub returns-clause-share : goal.returns-clause-share
returns-clause-share c = λ word plain are.
    let held = sheets_shares word plain in
    let simple : is_simple (app_of c.in-Ok.command) ≡ true = ap is_simple c.in-Ok.ensures.sheets ∙ sheets_is_simple in
    let entered = c.in-Ok-parsed.ensures.found simple ∙ ap₂ subcommand_of c.in-Ok.ensures.sheets are ∙ held.entered in
    subst (λ (by : Option Text). IsShare word false by c.in-Some.words) held.alone
    (subst (λ (flag : Bool). IsShare word flag (first_of (codes "by") held.rows) c.in-Some.words) held.unflagged
    (share_is _ _ held.rows word entered held.sheet c.in-Some.ensures.found))

pub returns-clause-share_svg : goal.returns-clause-share_svg
returns-clause-share_svg c = λ word plain are.
    let held = sheets_pictures word plain in
    let simple : is_simple (app_of c.in-Ok.command) ≡ true = ap is_simple c.in-Ok.ensures.sheets ∙ sheets_is_simple in
    let entered = c.in-Ok-parsed.ensures.found simple ∙ ap₂ subcommand_of c.in-Ok.ensures.sheets are ∙ held.entered in
    subst (λ (by : Option Text). IsShare word true by c.in-Some.words) held.alone
    (subst (λ (flag : Bool). IsShare word flag (first_of (codes "by") held.rows) c.in-Some.words) held.flagged
    (share_is _ _ held.rows word entered held.sheet c.in-Some.ensures.found))

pub returns-clause-check : goal.returns-clause-check
returns-clause-check c = λ first second plain also are.
    let held = sheets_checks first second plain also in
    let simple : is_simple (app_of c.in-Ok.command) ≡ true = ap is_simple c.in-Ok.ensures.sheets ∙ sheets_is_simple in
    let entered = c.in-Ok-parsed.ensures.found simple ∙ ap₂ subcommand_of c.in-Ok.ensures.sheets are ∙ held.entered in
    subst (λ (by : Option Text). IsCheck first second by c.in-Some.words) held.alone
    (check_is _ _ held.rows first second entered held.sheet held.grants c.in-Some.ensures.found)

pub returns-clause-found : goal.returns-clause-found
returns-clause-found c =
    let texts = map (λ (s : Bor (List ℕ)). s.now) c.args.words.now in
    let simple : is_simple (app_of c.in-Ok.command) ≡ true = ap is_simple c.in-Ok.ensures.sheets ∙ sheets_is_simple in
    let entered = c.in-Ok-parsed.ensures.found simple ∙ ap (λ (a : App). subcommand_of a texts) c.in-Ok.ensures.sheets in
    subst (λ (found : Option (Text × List Row)). IsSheetFound found c.in-Some.words) entered c.in-Some.ensures.found
