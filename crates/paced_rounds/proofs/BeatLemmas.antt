-- Steps over the asks of a round, for the beats of their rows.
use Rattle.std.proofs.Common.{◌≡◌, ℕ, ◌+◌, ◌<◌, List, drop, length, get_or, sym, ap, ◌∙◌, arith}
use Rattle.line_rates.specs.declared.ask.Ask.{Ask}
use Rattle.line_rates.specs.declared.share_by.ShareBy.{ShareBy}
use Rattle.line_rates.specs.Rates.{Rates}
use Rattle.lane_desk.proofs.PostedLemmas.{drops}
use Rattle.round_pace.specs.Paced.{Paced}
use Rattle.round_pace.specs.declared.rows.TransferRows.{TransferRows}
use Rattle.round_pace.specs.Rows.{rows_of}
use Rattle.round_cadence.specs.Cadences.{Beats, add_to, settle_of}
use Rattle.round_cadence.specs.Crowds.{crowd_of}
use Rattle.paced_rounds.specs.History.{leaves}
use Rattle.paced_rounds.specs.Beating.{add_all, settle_all}

pub add_next : (p : Paced) (xs : List Ask) (ns : List ℕ) (d : Ask) (i : ℕ) (b c : Beats) (rows : TransferRows) (crowd : ℕ) (by : ShareBy) (r : Rates) → i < length xs → length xs ≡ length ns → c ≡ add_to (get_or xs i d) rows (get_or ns i 0) crowd b → rows ≡ rows_of (get_or xs i d).way (get_or xs i d).user p
    → crowd ≡ crowd_of by xs (get_or xs i d) → by ≡ r.share_by → r ≡ p.offered → add_all p xs (leaves (drop (i + 1) xs) (drop (i + 1) ns)) c ≡ add_all p xs (leaves (drop i xs) (drop i ns)) b
add_next p xs ns d i b c rows crowd by r h e is same many shared offered =
    ap (add_all p xs (leaves (drop (i + 1) xs) (drop (i + 1) ns))) (is ∙ (λ k. add_to (get_or xs i d) (same k) (get_or ns i 0) ((many ∙ ap (λ (s : ShareBy). crowd_of s xs (get_or xs i d)) (shared ∙ ap (λ (x : Rates). x.share_by) offered)) k) b))
    ∙ (λ k. add_all p xs (leaves (sym (drops xs d i h) k) (sym (drops ns 0 i (omega (arith, h, e))) k)) b)

pub settle_next : (p : Paced) (tick : ℕ) (xs : List Ask) (d : Ask) (i : ℕ) (b c : Beats) (rows : TransferRows) → i < length xs → c ≡ settle_of (get_or xs i d).way (get_or xs i d).user rows tick b → rows ≡ rows_of (get_or xs i d).way (get_or xs i d).user p
    → settle_all p tick (drop (i + 1) xs) c ≡ settle_all p tick (drop i xs) b
settle_next p tick xs d i b c rows h is same =
    ap (settle_all p tick (drop (i + 1) xs)) (is ∙ ap (λ (r : TransferRows). settle_of (get_or xs i d).way (get_or xs i d).user r tick b) same)
    ∙ (λ k. settle_all p tick (sym (drops xs d i h) k) b)
