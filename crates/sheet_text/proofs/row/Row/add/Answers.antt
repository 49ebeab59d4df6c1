use Rattle.std.proofs.Common.{◌∙◌, ap, Option, Bor, List, ℕ}
use Rattle.sheet_text.specs.Named.{held_by, named_further}
use Rattle.sheet_text.proofs.Marks.{none_further, other_more}
use Rattle.sheet_text.proofs.row.Row.add.Goals as goal

pub add_further-requires : goal.add_further-requires
add_further-requires g c = record { absent = none_further c.args.self.now.first c.args.name.now (named_further c.args.self.now c.args.name.now) c.requires.absent }

pub returns-in-Ok-clause-added : goal.returns-in-Ok-clause-added
returns-in-Ok-clause-added g c = λ q.
    ap (λ (first : Option (Bor (List ℕ) × ℕ)). held_by first q (named_further c.add_further.new.self q)) c.add_further.ensures.first
    ∙ other_more c.args.name.now c.args.place (λ mark. c.args.self.now.first) (named_further c.args.self.now) (named_further c.add_further.new.self) c.requires.absent c.in-Ok.ensures.added q

pub returns-in-Err-clause-kept : goal.returns-in-Err-clause-kept
returns-in-Err-clause-kept g c = λ q.
    ap (λ (first : Option (Bor (List ℕ) × ℕ)). held_by first q (named_further c.add_further.new.self q)) c.add_further.ensures.first
    ∙ ap (held_by c.args.self.now.first q) (c.in-Err.ensures.kept q)
