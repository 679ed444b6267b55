-- An error that goes up.
use Rattle.std.proofs.Common.{◌≡◌, Err, ap}
use Rattle.std.specs.Prelude.{IsErrOf}

-- the same error, of a call with another answer
pub IsErrOf-passed : {A B E : Type 0} (d e : E) → IsErrOf {T = A} (Err d) e → IsErrOf {T = B} (Err d) e
IsErrOf-passed d e h = let same : d ≡ e = cc in ap Err same
