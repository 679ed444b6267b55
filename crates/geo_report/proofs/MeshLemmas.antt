-- The lines of the mesh are those of the model.
use Rattle.std.proofs.Common.{◌≡◌, ℕ, List, [], ◌∷◌, ◌++◌, flat_map, refl, ap, ◌∙◌, inl, inr, codes, decimal, if◌then◌else◌}
use Rattle.std.proofs.lemmas.Bool.{cases_Bool}
use Rattle.std.proofs.lemmas.List.{append_assoc}
use Rattle.geo_base.specs.Kind.{kind_text}
use Rattle.geo_model.specs.declared.listing.ConsLine.{ConsLine}
use Rattle.geo_model.specs.declared.listing.GeomLine.{GeomLine}
use Rattle.geo_model.specs.declared.listing.ProvLine.{ProvLine}
use Rattle.geo_model.specs.Report.{prov_text, cons_text, geom_text, mesh_text, end_line}
use Rattle.geo_report.specs.MeshTexts.{counts_part, sizes_part, state_part, provider_line, consumer_line, name_part, head_part, geom_lines}

-- The parts in another grouping

provider_parts : (a p s ds k dk b r dr w dw e de x n : List ℕ)
    → a ++ p ++ (s ++ ds ++ k ++ dk) ++ ((b ++ r ++ dr ++ w ++ dw ++ e ++ de) ++ (x ++ n))
    ≡ a ++ p ++ s ++ ds ++ k ++ dk ++ b ++ (r ++ dr ++ w ++ dw ++ e ++ de) ++ x ++ n
provider_parts a p s ds k dk b r dr w dw e de x n = simp append_assoc

consumer_parts : (a p b r dr w dw e de n : List ℕ) → a ++ p ++ (b ++ r ++ dr ++ w ++ dw ++ e ++ de) ++ n
    ≡ a ++ p ++ b ++ (r ++ dr ++ w ++ dw ++ e ++ de) ++ n
consumer_parts a p b r dr w dw e de n = simp append_assoc

geom_parts : (a x n f g : List ℕ) → a ++ (x ++ n) ++ f ++ g ≡ a ++ x ++ n ++ f ++ g
geom_parts a x n f g = simp append_assoc

-- The lines

provider_with : (p : ProvLine) (x : List ℕ)
    → codes "  provider " ++ p.name ++ sizes_part p ++ (counts_part p.counts ++ (x ++ end_line))
    ≡ codes "  provider " ++ p.name ++ codes " size " ++ decimal p.size ++ codes " sector " ++ decimal p.sector
    ++ codes " "
    ++ (codes "r" ++ decimal p.counts.r ++ codes "w" ++ decimal p.counts.w ++ codes "e" ++ decimal p.counts.e) ++ x
    ++ end_line
unfolding sizes_part counts_part
provider_with p x =
    provider_parts (codes "  provider ") p.name (codes " size ") (decimal p.size) (codes " sector ") (decimal p.sector)
    (codes " ") (codes "r") (decimal p.counts.r) (codes "w") (decimal p.counts.w) (codes "e") (decimal p.counts.e) x
    end_line

provider_is : (p : ProvLine) → provider_line p ≡ prov_text p
unfolding provider_line state_part sizes_part
provider_is p = elim (cases_Bool p.errored) [
  | inl hit ↦
      rw hit (provider_with p (codes " ENXIO"))
  | inr miss ↦ rw miss (provider_with p [])
]

consumer_is : (c : ConsLine) → consumer_line c ≡ cons_text c
unfolding consumer_line counts_part
consumer_is c =
    consumer_parts (codes "  consumer ") c.prov (codes " ") (codes "r") (decimal c.counts.r) (codes "w")
    (decimal c.counts.w) (codes "e") (decimal c.counts.e) end_line

-- two texts of each element that are one
pub flat_map_same : {X : Type 0} (f g : X → List ℕ) → ((x : X) → f x ≡ g x) → (xs : List X)
    → flat_map f xs ≡ flat_map g xs
flat_map_same f g same [] = refl
flat_map_same f g same (x ∷ xs) = ap (λ l. l ++ flat_map f xs) (same x) ∙ ap (λ l. g x ++ l) (flat_map_same f g same xs)

head_is : (g : GeomLine) (f c : List ℕ) → head_part g ++ f ++ c
    ≡ codes "geom " ++ kind_text g.kind ++ codes " " ++ g.name ++ codes " rank " ++ decimal g.rank
    ++ (if g.withering then codes " withering" else []) ++ end_line ++ f ++ c
unfolding head_part name_part
head_is g f c =
    let own : List ℕ =
    codes "geom " ++ kind_text g.kind ++ codes " " ++ g.name ++ codes " rank " ++ decimal g.rank in
    elim (cases_Bool g.withering) [
      | inl hit ↦
          rw hit (geom_parts own (codes " withering") end_line f c)
      | inr miss ↦ rw miss (geom_parts own [] end_line f c)
    ]

geom_is : (g : GeomLine) → geom_lines g ≡ geom_text g
unfolding geom_lines
geom_is g =
    ap (λ l. head_part g ++ l ++ flat_map consumer_line g.consumers)
    (flat_map_same provider_line prov_text provider_is g.providers)
    ∙ ap (λ l. head_part g ++ flat_map prov_text g.providers ++ l)
    (flat_map_same consumer_line cons_text consumer_is g.consumers)
    ∙ head_is g (flat_map prov_text g.providers) (flat_map cons_text g.consumers)

-- all lines of the mesh
pub mesh_is : (geoms : List GeomLine) → flat_map geom_lines geoms ≡ mesh_text geoms
unfolding mesh_text
mesh_is geoms = flat_map_same geom_lines geom_text geom_is geoms
