use Rattle.std.proofs.Common.{Err, refl}
use Rattle.std.proofs.lemmas.Result.{err_from_is_err_and}
use Rattle.ftp_server.specs.Ranges.{range_fault}
use Rattle.ftp_server.specs.Rows.{no_others, rates_fault}
use Rattle.ftp_server.proofs.Served.{allowed_alike, alone, err_number, err_refused, rated}
use Rattle.ftp_server.proofs.server.FtpServer.serve_folder.Goals as goal

pub returns-in_err-parts-clause-number : goal.returns-in_err-parts-clause-number
returns-in_err-parts-clause-number g c =
    let failed = err_from_is_err_and c.from_residual.result c.from_residual.ensures.1 in
    err_number (range_fault c.args.self) (Err c.in_err-parts.field-0.0) c.from_residual.result c.in_err-parts.field-0.0 failed.0 refl failed.1 failed.2 c.in_err-parts.ensures.number

pub returns-in_err-parts-clause-refused : goal.returns-in_err-parts-clause-refused
returns-in_err-parts-clause-refused g c =
    let failed = err_from_is_err_and c.from_residual.result c.from_residual.ensures.1 in
    λ none. err_refused (rates_fault c.args.self) (Err c.in_err-parts.field-0.0) c.from_residual.result c.in_err-parts.field-0.0 failed.0 refl failed.1 failed.2 (c.in_err-parts.ensures.refused none)

pub returns-clause-seconds : goal.returns-clause-seconds
returns-clause-seconds g c = alone c.args.self.rate c.serve_parts.result (rated no_others c.serve_parts.result _ _ c.in_ok-parts.ensures.limits c.serve_parts.ensures.seconds)

pub returns-clause-rates : goal.returns-clause-rates
returns-clause-rates g c = allowed_alike no_others c.serve_parts.result _ _ c.in_ok-parts.ensures.limits c.serve_parts.ensures.rates
