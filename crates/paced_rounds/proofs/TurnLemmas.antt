-- Steps over the grants of a round, for what lanes have had.
use Rattle.std.proofs.Common.{◌≡◌, ℕ, ◌+◌, ◌<◌, List, drop, length, get_or, sym, ap, ◌∙◌, arith}
use Rattle.lane_desk.proofs.PostedLemmas.{drops}
use Rattle.paced_rounds.specs.Turning.{had_more, had_all}

pub had_next : (lanes grants : List ℕ) (i : ℕ) (old new : List ℕ) → i < length lanes → length lanes ≡ length grants → new ≡ had_more (get_or lanes i 0) (get_or grants i 0) old
    → had_all (drop (i + 1) lanes) (drop (i + 1) grants) new ≡ had_all (drop i lanes) (drop i grants) old
had_next lanes grants i old new h e is =
    ap (had_all (drop (i + 1) lanes) (drop (i + 1) grants)) is
    ∙ (λ k. had_all (sym (drops lanes 0 i h) k) (sym (drops grants 0 i (omega (arith, h, e))) k) old)
