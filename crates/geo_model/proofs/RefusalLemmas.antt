-- Where nothing is refused, each test fails.
use Rattle.std.specs.Prelude.{◌≡◌, Bool, true, false, List, [], ◌∷◌, ◌++◌, None}
use Rattle.std.proofs.Common.{refl}
use Rattle.geo_model.specs.Words.{first_error}

-- where nothing is refused, the first test fails, and nothing of the rest refuses
pub none_refused : {E : Type 0} (b : Bool) (e : E) (rows : List (Bool × E)) → first_error ((b, e) ∷ rows) ≡ None
    → (b ≡ false) × (first_error rows ≡ None)
none_refused true e rows none = absurd (let no : ⊥ = cc in no)
none_refused false e rows none = (refl, none)

-- nothing is against the tests behind others
pub none_behind : {E : Type 0} (xs ys : List (Bool × E)) → first_error (xs ++ ys) ≡ None → first_error ys ≡ None
none_behind [] ys none = none
none_behind (row ∷ xs) ys none = none_behind xs ys (none_refused row.0 row.1 (xs ++ ys) none).1
