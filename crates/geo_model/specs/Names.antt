-- The names that geoms and providers get.
use Rattle.std.specs.Prelude.{ℕ, ◌+◌, List, [], ◌∷◌, ◌++◌, codes, decimal}

abbrev pub dev_name : List ℕ
dev_name = codes "dev"

abbrev pub taste_name : List ℕ
taste_name = codes "taste"

-- the slice at a place of an MBR table, counted from 0
abbrev pub slice_name : List ℕ → ℕ → List ℕ
slice_name below k = below ++ (codes "s" ++ (k + 49) ∷ [])

-- the logical partition at a place of a chain, counted from 0
abbrev pub logical_name : List ℕ → ℕ → List ℕ
logical_name below k = below ++ codes "l" ++ decimal (k + 1)

abbrev pub label_name : List ℕ → List ℕ
label_name name = codes "label/" ++ name

abbrev pub concat_name : List ℕ → List ℕ
concat_name name = codes "concat/" ++ name

abbrev pub stripe_name : List ℕ → List ℕ
stripe_name name = codes "stripe/" ++ name

abbrev pub nop_name : List ℕ → List ℕ
nop_name below = below ++ codes ".nop"
