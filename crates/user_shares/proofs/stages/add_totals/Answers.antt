use Rattle.std.proofs.Common.{arith, ◌≡◌, ◌+◌, ◌∙◌, ℕ, length, refl, ap}
use Rattle.std.specs.Prelude.{slice_index}
use Rattle.std.proofs.Math.ListN.{length-set}
use Rattle.limit_tree.proofs.Sums.{sum_in}
use Rattle.grant_certificate.specs.Users.{leaves_of}
use Rattle.grant_certificate.proofs.UserRanges.{in_fits}
use Rattle.user_shares.proofs.Added.{totals-more}
use Rattle.user_shares.proofs.stages.add_totals.Goals as goal

pub loop-leaf-init : goal.loop-leaf-init
loop-leaf-init c = record { size = refl; sums = λ u l. c.requires.none u l }

pub overflow_add-total : goal.overflow_add-total
overflow_add-total c =
    let owners = c.args.owners.now in
    let leaf = c.loop-leaf.leaf in
    let user = slice_index owners leaf in
    omega (
      arith,
      c.loop-leaf.invariant.sums user (omega (arith, c.requires.few leaf (omega arith), c.loop-leaf.invariant.size)),
      c.requires.fits,
      in_fits (leaves_of owners user) c.args.grants.now leaf (omega (arith, c.requires.owners)),
    )

pub loop-leaf-preserved : goal.loop-leaf-preserved
loop-leaf-preserved c =
    let owners = c.args.owners.now in
    let leaf = c.loop-leaf.leaf in
    let items = c.loop-leaf.totals in
    let user = slice_index owners leaf in
    let total = slice_index items user + slice_index c.args.grants.now leaf in
    record {
      size = length-set items user total ∙ c.loop-leaf.invariant.size;
      sums = λ u l. totals-more owners c.args.grants.now items leaf total (omega arith) (omega (arith, c.requires.few leaf (omega arith), c.loop-leaf.invariant.size)) c.loop-leaf.invariant.sums refl u (omega (arith, l, length-set items user total));
    }

pub returns : goal.returns
returns c =
    let owners = c.args.owners.now in
    let done : c.loop-leaf.leaf ≡ length owners = omega arith in
    record {
      totals = record {
        each = c.loop-leaf.invariant.size;
        sums = λ u l. c.loop-leaf.invariant.sums u (omega (arith, l, c.loop-leaf.invariant.size)) ∙ ap (λ (n : ℕ). sum_in n (leaves_of owners u) (λ i. slice_index c.args.grants.now i)) done;
      };
    }
