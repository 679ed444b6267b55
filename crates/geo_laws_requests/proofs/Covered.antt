-- What covers a bio in one world covers it in another in which its provider has the same map.
use Rattle.std.specs.Prelude.{◌≡◌, ℕ, List, [], ◌∷◌, map, Option, Some, None, not, IsTrue, All, IsSomeAnd, option_map}
use Rattle.std.proofs.Common.{refl, sym, ◌∙◌, ap, subst}
use Rattle.geo_model.specs.Words.{is_flush, is_write, same_cmd}
use Rattle.geo_laws_graph.proofs.Numbered.{number_found}
use Rattle.geo_model.specs.Topology.{Topology, Provider, provider_at}
use Rattle.geo_model.specs.World.{World, Config, Bio}
use Rattle.geo_model.specs.Place.{flat, ends}
use Rattle.geo_model.specs.Results.{Leaf, CoversRange, CoversEnds, sector_offsets}
use Rattle.geo_laws_maps.specs.Covers.{CoversBy}
use Rattle.geo_laws_steps.specs.WayLaws.{SameMap}
use Rattle.geo_laws_requests.specs.Covering.{CoversThere}
use Rattle.geo_laws_requests.specs.Ledger.{IsSameRequest}

-- a provider that is found by a number has it
pub number_of_found : (t : Topology Config) (n : ℕ) (p : Provider) → provider_at t n ≡ Some p → p.number ≡ n
number_of_found t n p found = number_found (λ (x : Provider). x.number) t.providers n p found

-- with the same sectors and the same map a range that was covered is covered
covered_at : (w v : World) (x : Bio) (p q : Provider) (found : List Leaf) → SameMap w.topology v.topology x.target
    → p.number ≡ x.target → q.number ≡ x.target → q.sector ≡ p.sector → CoversBy w x p found → CoversBy v x q found
covered_at w v x p q found same its_number number sector covers = record {
  range = λ moves.
      let old : CoversRange w x p found = covers.range moves in
      record {
        sectors =
            old.sectors
            ∙ ap (λ n. map (flat w.topology n) (sector_offsets p.sector x.offset x.len)) its_number
            ∙ maps_alike (flat w.topology x.target) (flat v.topology x.target) (λ o. sym (same.sectors o))
            (sector_offsets p.sector x.offset x.len)
            ∙ ap (λ s. map (flat v.topology x.target) (sector_offsets s x.offset x.len)) (sym sector)
            ∙ ap (λ n. map (flat v.topology n) (sector_offsets q.sector x.offset x.len)) (sym number);
        commands = old.commands;
        bytes = old.bytes;
      };
  flush = λ flushes.
      let old : CoversEnds w x p found = covers.flush flushes in
      record {
        disks = old.disks ∙ ap (λ n. ends w.topology n) its_number ∙ sym same.disks
            ∙ ap (λ n. ends v.topology n) (sym number);
        commands = old.commands;
      };
}
  where
    maps_alike : {X Y : Type 0} (f g : X → Y) → ((x : X) → f x ≡ g x) → (xs : List X) → map f xs ≡ map g xs
    maps_alike f g alike [] = refl
    maps_alike f g alike (x ∷ xs) = rw (alike x, maps_alike f g alike xs) refl

-- so it is at the provider of the bio
pub covers_stay : (w v : World) (x : Bio) (found : List Leaf) → SameMap w.topology v.topology x.target
    → CoversThere w x found → CoversThere v x found
covers_stay w v x found same covers =
    by (provider_at w.topology x.target) refl (provider_at v.topology x.target) refl same.sizes covers
  where
    by : (o : Option Provider) → provider_at w.topology x.target ≡ o
        → (k : Option Provider) → provider_at v.topology x.target ≡ k
        → option_map {U = ℕ × ℕ} (λ (y : Provider). (y.sector, y.size)) k
        ≡ option_map {U = ℕ × ℕ} (λ (y : Provider). (y.sector, y.size)) o
        → IsSomeAnd o (λ p. CoversBy w x p found) → IsSomeAnd k (λ p. CoversBy v x p found)
    by None is k are sizes covers = absurd covers
    by (Some p) is None are sizes covers = absurd (let bad : ⊥ = cc in bad)
    by (Some p) is (Some q) are sizes covers =
        let both : (q.sector, q.size) ≡ (p.sector, p.size) = pair_of (q.sector, q.size) (p.sector, p.size) sizes in
        covered_at w v x p q found same (number_of_found w.topology x.target p is)
        (number_of_found v.topology x.target q are) (ap (λ (y : ℕ × ℕ). y.0) both) covers
      where
        pair_of : (a b : ℕ × ℕ) → Some a ≡ Some b → a ≡ b
        pair_of a b e = cc

-- what covers a bio covers it however far it has come
pub covers_request : (w : World) (x y : Bio) (found : List Leaf) → IsSameRequest x y → CoversThere w x found
    → CoversThere w y found
covers_request w x y found same covers =
    subst (λ n. IsSomeAnd (provider_at w.topology n) (λ p. CoversBy w y p found)) (sym same.target)
    (by (provider_at w.topology x.target) covers)
  where
    by : (o : Option Provider) → IsSomeAnd o (λ p. CoversBy w x p found) → IsSomeAnd o (λ p. CoversBy w y p found)
    by None some = some
    by (Some p) some = record {
      range = λ moves.
          let old : CoversRange w x p found = some.range (subst (λ c. IsTrue (not (is_flush c))) same.cmd moves) in
          record {
            sectors = old.sectors
                ∙ ap (λ n. map (flat w.topology p.number) (sector_offsets p.sector n x.len)) (sym same.offset)
                ∙ ap (λ n. map (flat w.topology p.number) (sector_offsets p.sector y.offset n)) (sym same.len);
            commands = subst (λ c. All (λ (leaf : Leaf). IsTrue (same_cmd leaf.request.cmd c)) found) (sym same.cmd)
                old.commands;
            bytes = λ writes. old.bytes (subst (λ c. IsTrue (is_write c)) same.cmd writes) ∙ sym same.bytes;
          };
      flush = λ flushes.
          let old : CoversEnds w x p found = some.flush (subst (λ c. IsTrue (is_flush c)) same.cmd flushes) in
          record {
            disks = old.disks;
            commands = subst (λ c. All (λ (leaf : Leaf). IsTrue (same_cmd leaf.request.cmd c)) found) (sym same.cmd)
                old.commands;
          };
    }
