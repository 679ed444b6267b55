-- Names of partitions in digits, and names that aren't taken.
use Rattle.std.proofs.Common.{◌≡◌, ℕ, ◌+◌, ◌/◌, ◌%◌, ◌<◌, ◌≤◌, List, [], ◌∷◌, ◌++◌, codes, decimal, ◌∙◌, ap, arith, append_assoc, rules}
use Rattle.std.proofs.lemmas.Fmt.{decimal_digit, decimal_step}
use Rattle.geo_base.specs.Name.{name_of}
use Rattle.geo_model.specs.Names.{logical_name}
use Rattle.geo_model.specs.Topology.{Topology}
use Rattle.geo_model.specs.World.{Config}
use Rattle.geo_taste.specs.Free.{free_name, untaken}

-- a name that isn't taken is one that is free
pub untaken_name : (t : Topology Config) (name : List ℕ) → untaken t (name_of name) ≡ free_name t name
untaken_name t name = search rules

-- the name of a partition of one digit
pub name_of_one : (below : List ℕ) (n : ℕ) → n < 9 → logical_name below n ≡ below ++ 108 ∷ (48 + (n + 1)) ∷ []
name_of_one below n small =
    append_assoc below (codes "l") (decimal (n + 1))
    ∙ ap (λ ds. below ++ (codes "l" ++ ds)) (decimal_digit (n + 1) (omega arith))

-- and of two
pub name_of_two : (below : List ℕ) (n : ℕ) → 9 ≤ n → n < 99
    → logical_name below n ≡ below ++ 108 ∷ (48 + (n + 1) / 10) ∷ (48 + (n + 1) % 10) ∷ []
name_of_two below n large small =
    append_assoc below (codes "l") (decimal (n + 1))
    ∙ ap (λ ds. below ++ (codes "l" ++ ds))
    (decimal_step (n + 1) (omega arith) (omega arith)
    ∙ ap (λ ds. ds ++ (48 + (n + 1) % 10) ∷ []) (decimal_digit ((n + 1) / 10) (omega arith)))
