-- Links in two rows of cells.
use Rattle.std.proofs.Common.{◌≡◌, ℕ, ◌||◌, List, [], ◌∷◌, ◌++◌, length, map, Option, refl, ap, arith}
use Rattle.std.specs.Prelude.{◌==◌, is_some}
use Rattle.std.specs.List.{list_any}
use Rattle.geo_model.specs.declared.class.EbrPart.{EbrPart}
use Rattle.geo_model.specs.Chain.{LinkRead, has_part}
use Rattle.geo_class.specs.ebr.Links.{links_read}

-- rows of the same length
pub links-length : (visited : List ℕ) (parts : List (Option EbrPart)) → length visited ≡ length parts
    → length (links_read visited parts) ≡ length visited
links-length [] parts alike = refl
links-length (v ∷ visited) [] alike = absurd (omega (arith, alike))
links-length (v ∷ visited) (p ∷ parts) alike =
    let rest : length visited ≡ length parts = omega (arith, alike) in
    let so : length (links_read visited parts) ≡ length visited = links-length visited parts rest in
    omega (arith, so)

-- a sector among those that were read
pub links-any_sector : (visited : List ℕ) (parts : List (Option EbrPart)) (sector : ℕ) → length visited ≡ length parts
    → list_any (λ (l : LinkRead). l.sector == sector) (links_read visited parts) ≡ list_any (λ v. v == sector) visited
links-any_sector [] parts sector alike = refl
links-any_sector (v ∷ visited) [] sector alike = absurd (omega (arith, alike))
links-any_sector (v ∷ visited) (p ∷ parts) sector alike =
    let rest : length visited ≡ length parts = omega (arith, alike) in
    ap (λ b. (v == sector) || b) (links-any_sector visited parts sector rest)

-- a partition among those that were named
pub links-has_part : (visited : List ℕ) (parts : List (Option EbrPart)) → length visited ≡ length parts
    → has_part (links_read visited parts) ≡ list_any is_some parts
links-has_part [] [] alike = refl
links-has_part [] (p ∷ parts) alike = absurd (omega (arith, alike))
links-has_part (v ∷ visited) [] alike = absurd (omega (arith, alike))
links-has_part (v ∷ visited) (p ∷ parts) alike =
    let rest : length visited ≡ length parts = omega (arith, alike) in
    ap (λ b. is_some p || b) (links-has_part visited parts rest)

-- the partitions of the links
pub links-parts : (visited : List ℕ) (parts : List (Option EbrPart)) → length visited ≡ length parts
    → map (λ (l : LinkRead). l.part) (links_read visited parts) ≡ parts
links-parts [] [] alike = refl
links-parts [] (p ∷ parts) alike = absurd (omega (arith, alike))
links-parts (v ∷ visited) [] alike = absurd (omega (arith, alike))
links-parts (v ∷ visited) (p ∷ parts) alike =
    let rest : length visited ≡ length parts = omega (arith, alike) in
    ap (λ ps. p ∷ ps) (links-parts visited parts rest)

-- one link more
pub links-more : (visited : List ℕ) (parts : List (Option EbrPart)) (v : ℕ) (p : Option EbrPart)
    → length visited ≡ length parts
    → links_read (visited ++ v ∷ []) (parts ++ p ∷ []) ≡ links_read visited parts ++ record { sector = v; part = p }
    ∷ []
links-more [] [] v p alike = refl
links-more [] (q ∷ parts) v p alike = absurd (omega (arith, alike))
links-more (w ∷ visited) [] v p alike = absurd (omega (arith, alike))
links-more (w ∷ visited) (q ∷ parts) v p alike =
    let rest : length visited ≡ length parts = omega (arith, alike) in
    ap (λ ls. record { sector = w; part = q } ∷ ls) (links-more visited parts v p rest)
