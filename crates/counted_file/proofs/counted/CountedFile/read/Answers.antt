use Rattle.std.proofs.Common.{rules, ◌≡◌, ◌∙◌, ap, inl, refl}
use Rattle.std.proofs.KnownBytes.{Keeps-refl, Keeps-trans}
use Rattle.std.specs.IoError.{error_kind}
use Rattle.std.specs.declared.io.ErrorKind.TheVariants.{Interrupted}
use Rattle.counted_file.proofs.Counting.{raised_once}
use Rattle.counted_file.proofs.counted.CountedFile.read.Goals as goal

pub reads-init : goal.reads-init
reads-init g c = record { kept = Keeps-refl _; passed = refl; failed = refl; turns = inl (refl, refl) }

pub reads-preserved : goal.reads-preserved
reads-preserved g c =
    let was = c.reads.invariant in
    let is : error_kind c.in-Err.error ≡ Interrupted = search rules in
    let calls = c.in-Err.ensures.interrupted is in
    record {
      kept = Keeps-trans _ _ _ was.kept c.in-Err.ensures.octets;
      passed = ap (λ x. x.passed) calls ∙ was.passed;
      failed = ap (λ x. x.failed) calls ∙ was.failed;
      turns = raised_once c.reads.turn c.args.self.now.calls.interrupted c.reads.self.calls.interrupted _ was.turns (ap (λ x. x.interrupted) calls);
    }
