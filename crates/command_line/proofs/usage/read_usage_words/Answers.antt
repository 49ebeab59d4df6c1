use Rattle.std.proofs.Common.{◌≡◌, ◌∙◌, ℕ, List, [], Option, ap, map, subst, true}
use Rattle.std.specs.Borrow.{Bor}
use Rattle.clap.specs.Words.{App, Row, Text, app_of, fault_of, is_simple, is_simple_and_free, subcommand_of}
use Rattle.command_line.specs.Commands.{ftpd}
use Rattle.command_line.specs.Given.{IsRefusal}
use Rattle.command_line.specs.Usages.{IsUsageRead}
use Rattle.command_line.proofs.Taken.{ftpd_is_free, ftpd_is_simple}
use Rattle.command_line.proofs.usage.read_usage_words.Goals as goal

pub returns-in-Err-clause-refused : goal.returns-in-Err-clause-refused
returns-in-Err-clause-refused c =
    let texts = map (λ (s : Bor (List ℕ)). s.now) c.args.words.now in
    let refused = c.in-Err.ensures.refused (ap is_simple_and_free c.in-Ok.ensures.ftpd ∙ ftpd_is_free) in
    subst (λ (a : App). IsRefusal (fault_of a texts) c.in-Err.fault) c.in-Ok.ensures.ftpd refused

pub returns-in-Ok-usage_in-clause-given : goal.returns-in-Ok-usage_in-clause-given
returns-in-Ok-usage_in-clause-given c =
    let texts = map (λ (s : Bor (List ℕ)). s.now) c.args.words.now in
    let free : is_simple_and_free (app_of c.in-Ok.command) ≡ true = ap is_simple_and_free c.in-Ok.ensures.ftpd ∙ ftpd_is_free in
    subst (λ (a : App). fault_of a texts ≡ []) c.in-Ok.ensures.ftpd (c.in-Ok-parsed.ensures.given free)

pub returns-in-Ok-usage_in-clause-read : goal.returns-in-Ok-usage_in-clause-read
returns-in-Ok-usage_in-clause-read c =
    let texts = map (λ (s : Bor (List ℕ)). s.now) c.args.words.now in
    let simple : is_simple (app_of c.in-Ok.command) ≡ true = ap is_simple c.in-Ok.ensures.ftpd ∙ ftpd_is_simple in
    let entered = c.in-Ok-parsed.ensures.found simple ∙ ap (λ (a : App). subcommand_of a texts) c.in-Ok.ensures.ftpd in
    subst (λ (found : Option (Text × List Row)). IsUsageRead found c.in-Ok-usage_in.words) entered c.in-Ok-usage_in.ensures.read
