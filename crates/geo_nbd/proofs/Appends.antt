-- Bytes that are written in parts.
use Rattle.std.proofs.Common.{◌≡◌, ℕ, List, ◌++◌, Result, Ok, Err, OnOk, ap, ◌∙◌, append_assoc}

-- two parts, and three, of which the last may not be written
pub two_parts :
    {E : Type 0} (r : Result (Unit {0}) E) (old a b first second : List ℕ) → first ≡ old ++ a
    → OnOk r (second ≡ first ++ b) → OnOk r (second ≡ old ++ (a ++ b))
two_parts (Ok done) old a b first second begun ended =
    ended ∙ ap (λ (x : List ℕ). x ++ b) begun ∙ append_assoc old a b
two_parts (Err error) old a b first second begun ended = tt

pub three_parts :
    {E : Type 0} (r : Result (Unit {0}) E) (old a b c first second third : List ℕ) → first ≡ old ++ a
    → second ≡ first ++ b → OnOk r (third ≡ second ++ c) → OnOk r (third ≡ old ++ (a ++ (b ++ c)))
three_parts (Ok done) old a b c first second third begun gone ended =
    ended ∙ ap (λ (x : List ℕ). x ++ c) (gone ∙ ap (λ (x : List ℕ). x ++ b) begun ∙ append_assoc old a b)
    ∙ append_assoc old (a ++ b) c ∙ ap (λ (x : List ℕ). old ++ x) (append_assoc a b c)
three_parts (Err error) old a b c first second third begun gone ended = tt
