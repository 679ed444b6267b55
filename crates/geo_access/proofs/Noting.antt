-- Notes that are dropped: the noted provider lives, and the stored counts are as before.
use Rattle.std.specs.Prelude.{◌≡◌, ℕ, ◌==◌, Bool, true, false, List, [], ◌∷◌, map, find, Some, IsSome}
use Rattle.std.proofs.Common.{refl, ap, rules}
use Rattle.geo_model.specs.Topology.{Provider, provider_at}
use Rattle.geo_mesh.specs.Topo.{TopoView, with_notes}
use Rattle.geo_slots.specs.Slots.{with_value}
use Rattle.geo_access.specs.Access.{IsCounted, first_noted}

pub keys_stay : (rows : List (ℕ × Bool)) (n : ℕ) (v : Bool)
    → map (λ row. row.0) (with_value rows n v) ≡ map (λ row. row.0) rows
keys_stay [] n v = refl
keys_stay (row ∷ rows) n v = search (rules, ap (λ ks. row.0 ∷ ks) (keys_stay rows n v))

-- a list in which a number stands has an item of it
there : (xs : List Provider) (n : ℕ) (x : Provider) (b : Bool) → (x.number == n) ≡ b
    → IsSome (find (λ (y : Provider). y.number == n) xs) → IsSome (find (λ (y : Provider). y.number == n) (x ∷ xs))
there xs n x true e some = rw e refl
there xs n x false e some = rw e some

noted_there : (rows : List (ℕ × Bool)) (xs : List Provider) (p : ℕ)
    → map (λ (row : ℕ × Bool). row.0) rows ≡ map (λ (x : Provider). x.number) xs → first_noted rows ≡ Some p
    → IsSome (find (λ (y : Provider). y.number == p) xs)
noted_there [] xs p same found = let no : ⊥ = cc in absurd no
noted_there (row ∷ rows) [] p same found = let no : ⊥ = cc in absurd no
noted_there (row ∷ rows) (x ∷ xs) p same found = search (rules, noted_there rows xs p)

module _ {C : Type 0} where
  -- the provider with the least note lives
  pub risen_lives : (t : TopoView C) (p : ℕ) → IsCounted t → first_noted t.risen ≡ Some p
      → IsSome (provider_at t.topology p)
  risen_lives t p counted found = noted_there t.risen t.topology.providers p counted.risen found

  pub fallen_lives : (t : TopoView C) (p : ℕ) → IsCounted t → first_noted t.fallen ≡ Some p
      → IsSome (provider_at t.topology p)
  fallen_lives t p counted found = noted_there t.fallen t.topology.providers p counted.fallen found

  -- other notes leave the stored counts
  pub notes_counted : (t : TopoView C) (p : ℕ) (risen fallen : Bool) → IsCounted t
      → IsCounted (with_notes t p risen fallen)
  notes_counted t p risen fallen counted = search (rules, keys_stay t.risen p risen, keys_stay t.fallen p fallen)
