use Rattle.std.proofs.Common.{◌∙◌, ◌++◌, ℕ, List, ap, length, string_bytes}
use Rattle.server_status.specs.declared.status.TransferStatus.{TransferStatus}
use Rattle.status_table.specs.Heads.{counts_of}
use Rattle.status_table.specs.Rates.{waiting}
use Rattle.status_table.proofs.Screens.{on_ok}
use Rattle.status_table.proofs.heads.push_counts.Goals as goal

pub returns : goal.returns
returns c =
    let value = c.as_slice-transfers.ensures.value in
    let transfers = c.as_slice-transfers.result.now in
    let old = string_bytes c.args.line.now in
    record {
      appended = on_ok c.push_numbers.result _ _
          (λ is.
          is ∙ (ap (λ (n : ℕ). old ++ counts_of (length transfers) n) c.waiting.ensures.waiting
          ∙ ap (λ (ts : List TransferStatus). old ++ counts_of (length ts) (waiting ts)) value))
          c.push_numbers.ensures.appended;
    }
