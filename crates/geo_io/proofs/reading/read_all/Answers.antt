use Rattle.std.proofs.lemmas.Result.{err_from_is_err_and}
use Rattle.geo_io.proofs.Refusals.{IsErrOf-passed}
use Rattle.geo_io.proofs.reading.read_all.Goals as goal

-- Here and below: the refusal is that of reading through, so what was taken there is what was taken
pub returns-in_err-read_through-clause-too_long : goal.returns-in_err-read_through-clause-too_long
returns-in_err-read_through-clause-too_long g c =
    let p = err_from_is_err_and c.from_residual.result c.from_residual.ensures.1 in
    rw (p.1, p.2) (λ e. c.in_err-read_through.ensures.too_long (IsErrOf-passed _ _ e))

pub returns-in_err-read_through-clause-fault_taken : goal.returns-in_err-read_through-clause-fault_taken
returns-in_err-read_through-clause-fault_taken g c =
    let p = err_from_is_err_and c.from_residual.result c.from_residual.ensures.1 in
    rw (p.1, p.2) (λ e. c.in_err-read_through.ensures.fault_taken (IsErrOf-passed _ _ e))

pub returns-in_err-read_through-clause-lost : goal.returns-in_err-read_through-clause-lost
returns-in_err-read_through-clause-lost g c =
    let p = err_from_is_err_and c.from_residual.result c.from_residual.ensures.1 in
    rw (p.1, p.2) (λ e. c.in_err-read_through.ensures.lost (IsErrOf-passed _ _ e))

pub returns-in_err-read_through-clause-told : goal.returns-in_err-read_through-clause-told
returns-in_err-read_through-clause-told g c =
    let p = err_from_is_err_and c.from_residual.result c.from_residual.ensures.1 in
    rw (p.1, p.2) (λ no. c.in_err-read_through.ensures.told (λ e. no (IsErrOf-passed _ _ e)))
