-- What a shelf tells of a name before and after.
use Rattle.std.proofs.Common.{◌≡◌, ℕ, List, Option, Some, None, refl, ◌∙◌, IfSome, IsSomeAnd}
use Rattle.geo_base.specs.Images.{Images}
use Rattle.geo_disk.specs.Shelf.{WhereBothTell}

-- a fact on what a name had and has, where it is told
pub record OfName (old new : Option Images) (name : List ℕ)
    (F : Option (List ℕ) → Option (List ℕ) → Type 0) : Type 0 where
  pub is : IfSome old (λ had. IsSomeAnd new (λ has. F (had name) (has name)))

-- a name has what it had
abbrev pub IsSame : Option (List ℕ) → Option (List ℕ) → Type 0
IsSame had has = has ≡ had

-- a fact on all names tells one of each
pub of_name : (old new : Option Images) (name : List ℕ) (P : Images → Images → Type 0)
    {F : Option (List ℕ) → Option (List ℕ) → Type 0}
    → ((o n : Images) → P o n → F (o name) (n name)) → WhereBothTell P old new → OfName old new name F
of_name None None name P f h = record { is = tt }
of_name None (Some n) name P f h = record { is = tt }
of_name (Some o) None name P f h = absurd h
of_name (Some o) (Some n) name P f h = record { is = f o n h }

-- one after the other
pub chain : (a b c : Option Images) (name : List ℕ) {F G H : Option (List ℕ) → Option (List ℕ) → Type 0}
    → ((x y z : Option (List ℕ)) → F x y → G y z → H x z) → OfName a b name F → OfName b c name G → OfName a c name H
chain None b c name f p q = record { is = tt }
chain (Some x) None c name f p q = absurd p.is
chain (Some x) (Some y) None name f p q = absurd q.is
chain (Some x) (Some y) (Some z) name f p q = record { is = f (x name) (y name) (z name) p.is q.is }

-- what is told stays
pub same : (a : Option Images) (name : List ℕ) → OfName a a name IsSame
same None name = record { is = tt }
same (Some x) name = record { is = refl }

-- what doesn't change twice doesn't change
pub same_twice : (a b c : Option Images) (name : List ℕ) → OfName a b name IsSame → OfName b c name IsSame
    → OfName a c name IsSame
same_twice a b c name p q = chain a b c name (λ x y z s t. t ∙ s) p q

-- a fact that follows
pub weaker : (a b : Option Images) (name : List ℕ) {F G : Option (List ℕ) → Option (List ℕ) → Type 0}
    → ((x y : Option (List ℕ)) → F x y → G x y) → OfName a b name F → OfName a b name G
weaker None b name f p = record { is = tt }
weaker (Some x) None name f p = absurd p.is
weaker (Some x) (Some y) name f p = record { is = f (x name) (y name) p.is }
