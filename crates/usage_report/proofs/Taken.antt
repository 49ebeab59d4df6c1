-- Lines that are taken one after another.
use Rattle.std.proofs.Common.{◌≡◌, ◌≢◌, ◌<◌, ◌∙◌, List, [], ◌∷◌, ◌++◌, append_assoc, map, length, Option, Some, None, IfSome, is_some, refl, sym, ap, subst, arith}
use Rattle.std.specs.Io.BufRead.{DropsThrough, drop_through, take_through}
use Rattle.std.specs.Io.KnownBytes.{IsAtEnd}
use Rattle.std.proofs.lemmas.List.{append-nil}
use Rattle.log_lines.specs.Lines.{Line, line_of}
use Rattle.log_lines.specs.Words.{Octets}
use Rattle.usage_report.specs.Looks.{ComesToEnd, HasLooked, IsLogTaken, IsLookOf, TakesFrom, TakesLines, looked}
use Rattle.usage_report.specs.Usages.{HasSeen, lines_in, without_end}
use Rattle.usage_report.specs.declared.look.LogLook.{LogLook}
use Rattle.usage_report.specs.declared.usage.Usage.{Usage}
use Rattle.usage_report.proofs.Cut.{first_line}
use Rattle.usage_report.proofs.Looked.{looked_both, looked_more, looked_nothing}
use Rattle.usage_report.proofs.Seen.{seen_both, seen_nothing}

pub takes_nothing : (usage : Usage) (look : LogLook) (text : Octets) → TakesLines usage usage look look text text
takes_nothing usage look text = record { seen = []; sums = seen_nothing usage; looks = looked_nothing look; left = refl }

pub takes_both : (one two three : Usage) (look next last : LogLook) (text more rest : Octets) → TakesLines one two look next text more → TakesLines two three next last more rest
    → TakesLines one three look last text rest
takes_both one two three look next last text more rest a b = record {
  seen = a.seen ++ b.seen;
  sums = seen_both one two three a.seen b.seen a.sums b.sums;
  looks = looked_both look next last a.seen b.seen a.looks b.looks;
  left = a.left ∙ ap (λ (lines : List (Option Line)). a.seen ++ lines) b.left ∙ sym (append_assoc a.seen b.seen (map line_of (lines_in rest)));
}

-- the same from what a reader has left
pub from_nothing : (usage : Usage) (look : LogLook) (left rest : Option Octets) → rest ≡ left → TakesFrom usage usage look look left rest
from_nothing usage look None rest is = tt
from_nothing usage look (Some text) rest is = (text, is, takes_nothing usage look text)

pub from_both : (one two three : Usage) (look next last : LogLook) (left more rest : Option Octets) → TakesFrom one two look next left more → TakesFrom two three next last more rest
    → TakesFrom one three look last left rest
from_both one two three look next last None more rest a b = tt
from_both one two three look next last (Some text) more rest a b =
    let there = subst (λ (m : Option Octets). TakesFrom two three next last m rest) a.1 b in
    (there.0, there.1, takes_both one two three look next last text a.0 there.0 a.2 there.2)

-- a log that was read to its end
pub all_taken : (before after : Usage) (look further : LogLook) (text : Octets) → TakesLines before after look further text [] → IsLookOf look [] → IsLogTaken before after further text
all_taken before after look further text takes none =
    let all : map line_of (lines_in text) ≡ takes.seen = takes.left ∙ append-nil takes.seen in
    record {
      sums = subst (HasSeen before after) (sym all) takes.sums;
      looks = subst (IsLookOf further) (sym all) (takes.looks [] none);
    }

-- the first line of a text is taken
take_one : (before after : Usage) (look further : LogLook) (text line : Octets) → line ≡ take_through 10 text → text ≢ []
    → HasSeen before after (line_of (without_end line) ∷ []) → further ≡ looked look (is_some (line_of (without_end line)))
    → TakesLines before after look further text (drop_through 10 text)
take_one before after look further text line is some seen more = record {
  seen = line_of (without_end line) ∷ [];
  sums = seen;
  looks = subst (λ (l : LogLook). HasLooked look l (line_of (without_end line) ∷ [])) (sym more) (looked_more look (line_of (without_end line)));
  left =
      ap (map line_of) (first_line text some)
      ∙ ap (λ (l : Octets). line_of (without_end l) ∷ map line_of (lines_in (drop_through 10 text))) (sym is);
}

no_line : (text line : Octets) → line ≡ take_through 10 text → 0 < length line → text ≢ []
no_line text line is some none =
    let empty : line ≡ [] = is ∙ ap (take_through 10) none in
    let nothing : length line ≡ 0 = ap length empty in
    absurd (omega arith)

-- and that of what a reader has left
pub from_one : (before after : Usage) (look further : LogLook) (left rest : Option Octets) (line : Octets) → IfSome left (λ text. line ≡ take_through 10 text) → DropsThrough left rest 10
    → 0 < length line → HasSeen before after (line_of (without_end line) ∷ []) → further ≡ looked look (is_some (line_of (without_end line)))
    → TakesFrom before after look further left rest
from_one before after look further None rest line is drops some seen more = tt
from_one before after look further (Some text) rest line is drops some seen more =
    (drop_through 10 text, drops, take_one before after look further text line is (no_line text line is some) seen more)

-- at its end nothing is taken, and nothing left
pub from_end : (usage : Usage) (look : LogLook) (left rest : Option Octets) → IsAtEnd left → DropsThrough left rest 10 → TakesFrom usage usage look look left rest
from_end usage look None rest end drops = tt
from_end usage look (Some text) rest end drops =
    let none : rest ≡ Some [] = drops ∙ ap (λ (t : Octets). Some (drop_through 10 t)) end in
    ([], none, subst (λ (t : Octets). TakesLines usage usage look look t []) (sym end) (takes_nothing usage look []))

pub comes_to_end : (left rest : Option Octets) → IsAtEnd left → DropsThrough left rest 10 → ComesToEnd left rest
comes_to_end None rest end drops = tt
comes_to_end (Some text) rest end drops = drops ∙ ap (λ (t : Octets). Some (drop_through 10 t)) end

-- a log of which nothing is left is taken
pub log_taken : (one two three : Usage) (look next last : LogLook) (left more rest : Option Octets) → TakesFrom one two look next left more → TakesFrom two three next last more rest
    → ComesToEnd more rest → IsLookOf look [] → IfSome left (IsLogTaken one three last)
log_taken one two three look next last None more rest a b end none = tt
log_taken one two three look next last (Some text) more rest a b end none =
    let all = from_both one two three look next last (Some text) more rest a b in
    let ended : rest ≡ Some [] = subst (λ (o : Option Octets). IfSome o (λ _. rest ≡ Some [])) a.1 end in
    let empty : all.0 ≡ [] = let both : Some all.0 ≡ Some [] = sym all.1 ∙ ended in cc in
    all_taken one three look last text (subst (λ (t : Octets). TakesLines one three look last text t) empty all.2) none

-- what is appended to nothing is all
pub cleared : (left : Option Octets) (line old : Octets) → IfSome left (λ text. line ≡ old ++ take_through 10 text) → old ≡ [] → IfSome left (λ text. line ≡ take_through 10 text)
cleared None line old is none = tt
cleared (Some text) line old is none = is ∙ ap (λ (front : Octets). front ++ take_through 10 text) none
