-- What stays and what becomes the nearest child of a parent where a child is added or taken away.
use Rattle.std.proofs.Common.{◌≡◌, ℕ, Some, None, Option, sym, refl, ◌∙◌, rules}
use Rattle.std.proofs.lemmas.Bool.{ne_eqb}
use Rattle.geo_family.specs.Nearest.{IsNearest, put}

module _ (f : ℕ → Option ℕ) (c : ℕ) (o : Option ℕ) where
  -- elsewhere the value stays
  pub put-other : (d : ℕ) → (d ≡ c → ⊥) → put f c o d ≡ f d
  put-other d other = rw (ne_eqb d c other) refl

-- a child under a parent
module _ (f : ℕ → Option ℕ) (child parent : ℕ) (free : f child ≡ None) where
  -- one that had a parent isn't the new child
  not_child : (d p : ℕ) → f d ≡ Some p → d ≡ child → ⊥
  not_child d p had same = let no : None ≡ Some p = sym free ∙ (rw same at had) in cc

  -- who had a parent keeps it
  still : (d p : ℕ) → f d ≡ Some p → put f child (Some parent) d ≡ Some p
  still d p had = put-other f child (Some parent) d (not_child d p had) ∙ had

  module _ (S : ℕ → Type 0) (R : ℕ → ℕ → Type 0) where
    -- where the new child isn't seen, the nearest one stays
    pub add_unseen : (p : ℕ) (o : Option ℕ) → (S child → parent ≡ p → ⊥) → IsNearest S R f p o
        → IsNearest S R (put f child (Some parent)) p o
    add_unseen p None unseen is = search rules
    add_unseen p (Some c) unseen is = search rules

-- a child taken off its parent
module _ (f : ℕ → Option ℕ) (child : ℕ) where
  -- who has a parent still isn't the child, and had it
  pub left : (d p : ℕ) → put f child None d ≡ Some p → (d ≡ child → ⊥) × (f d ≡ Some p)
  left d p has = search rules

  module _ (S : ℕ → Type 0) (R : ℕ → ℕ → Type 0) where
    -- another nearest one stays
    pub drop_other : (p : ℕ) (o : Option ℕ) → (o ≡ Some child → ⊥) → IsNearest S R f p o
        → IsNearest S R (put f child None) p o
    drop_other p None other is = λ d in_s has. is d in_s (left d p has).1
    drop_other p (Some c) other is = search rules
