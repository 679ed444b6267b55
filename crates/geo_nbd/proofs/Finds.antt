-- The first of a list that passes a test.
use Rattle.std.proofs.Common.{◌≡◌, ℕ, ◌+◌, ◌<◌, Bool, List, length, drop, get_or, cond, Some, ap, sym, ◌∙◌, add-one, drop-cons, suc}
use Rattle.std.specs.List.{find}

-- it is the next one, or else it is behind that
pub find-next :
    {X : Type 0} (p : X → Bool) (xs : List X) (i : ℕ) (x : X) → i < length xs → x ≡ get_or xs i x
    → find p (drop i xs) ≡ cond (p x) (Some x) (find p (drop (i + 1) xs))
find-next {X} p xs i x inside is =
    rw add-one
    (ap (find p) (drop-cons xs i x inside)
    ∙ ap (λ (y : X). cond (p y) (Some y) (find p (drop (suc i) xs))) (sym is))
