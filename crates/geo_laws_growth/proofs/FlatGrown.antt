-- Across an append each offset lies in the end where it lay.
use Rattle.std.specs.Prelude.{◌≡◌, ◌⊎◌, ℕ, suc, ◌+◌, ◌<◌, ◌==◌, true, false, ◌&&◌, length, Option, Some, None, All, Contains, IsSome, IsSomeAnd, IsTrue}
use Rattle.std.proofs.Common.{refl, sym, ◌∙◌, ap, subst, arith, inl, inr}
use Rattle.std.proofs.lemmas.Bool.{and_from, cases_eq, false_from_ne_true}
use Rattle.std.proofs.lemmas.List.Elements.{All-contains}
use Rattle.geo_model.specs.Words.{◌>>=◌}
use Rattle.geo_model.specs.Topology.{Geom, Provider, Consumer, geom_at, provider_at, is_errored, is_withering}
use Rattle.geo_model.specs.Rank.{rank}
use Rattle.geo_model.specs.Opens.{below, has_error_below}
use Rattle.geo_model.specs.Demand.{have, is_zero}
use Rattle.geo_model.specs.World.{World, Config, granted_in}
use Rattle.geo_model.specs.Place.{disk_of}
use Rattle.geo_model.specs.Acceptance.{add_place}
use Rattle.geo_model.specs.Append.{Growing}
use Rattle.geo_model.specs.Sound.{Sound, LeadsDown, IsPlaced}
use Rattle.geo_model.proofs.DemandLemmas.{find_passes}
use Rattle.geo_laws_graph.proofs.Members.{find-Contains}
use Rattle.geo_laws_graph.proofs.Lists.{length-changed}
use Rattle.geo_laws_graph.proofs.Living.{found-before}
use Rattle.geo_laws_graph.proofs.Numbered.{any-contained}
use Rattle.geo_laws_counts.proofs.LimitFacts.{all_of}
use Rattle.geo_laws_growth.specs.GrowthLaws.{KeepsPlaces, IsKept, IsKeptGeom, KeepsWays, IsLaid, IsFoundGrowing, FlatStays, grown}
use Rattle.geo_laws_growth.proofs.GrownPlaces.{keeps_places, same_places}
use Rattle.geo_laws_growth.proofs.Grown.{grown_is_found}
use Rattle.geo_laws_growth.proofs.JoiningBelow.{below_lower}
use Rattle.geo_laws_growth.proofs.FlatKept.{with_geom, flat_kept}

-- What an append keeps

module _ (w : World) (x : Growing) (q : Provider) (found : IsFoundGrowing w.topology x) where
  -- each provider stands
  provider_kept : (r : ℕ) (y : Provider) → provider_at w.topology r ≡ Some y → IsKept y (provider_at (grown w x q) r)
  provider_kept r y e =
      elim (cases_eq r x.provider.number) [
        | inl same ↦
            (let here : provider_at w.topology x.provider.number
            ≡ Some y = subst (λ n. provider_at w.topology n ≡ Some y) same e in
            let one : x.provider ≡ y = the_same (sym found.provider ∙ here) in
            record {
              now = record x.provider { size = x.provider.size + q.size };
              found = ap (provider_at (grown w x q)) same ∙ grown_is_found.provider w x q found;
              geom = ap (λ (z : Provider). z.geom) one;
              name = ap (λ (z : Provider). z.name) one;
              sector = ap (λ (z : Provider). z.sector) one;
            })
        | inr other ↦
            record {
              now = y;
              found = grown_is_found.other_providers w x q r other
                  ∙ e;
              geom = refl;
              name = refl;
              sector = refl;
            }
      ]
    where
      the_same : Some x.provider ≡ Some y → x.provider ≡ y
      the_same e = cc

  -- each geom stands with its places
  geom_kept : (n : ℕ) (g : Geom Config) → geom_at w.topology n ≡ Some g → IsKeptGeom g (geom_at (grown w x q) n)
  geom_kept n g e =
      elim (cases_eq n x.geom.number) [
        | inl same ↦
            (let here : geom_at w.topology x.geom.number ≡ Some g = subst (λ m. geom_at w.topology m ≡ Some g) same e in
            let one : x.geom ≡ g = the_same (sym found.geom ∙ here) in
            record {
              now = record x.geom { config = add_place x.geom.config w.topology.next_consumer q.size };
              found = ap (geom_at (grown w x q)) same ∙ grown_is_found.geom w x q found;
              places = subst (λ (z : Geom Config). KeepsPlaces z.config
                  (add_place x.geom.config w.topology.next_consumer q.size)) one
                  (keeps_places x.geom.config w.topology.next_consumer q.size);
            })
        | inr other ↦ record {
          now = g;
          found = grown_is_found.other_geoms w x q n other
              ∙ e;
          places = same_places g.config;
        }
      ]
    where
      the_same : Some x.geom ≡ Some g → x.geom ≡ g
      the_same e = cc

  -- so the ways down stand
  ways_kept : KeepsWays w.topology (grown w x q)
  ways_kept = record {
    providers = provider_kept;
    geoms = geom_kept;
    consumers = λ c d e. found-before (λ (z : Consumer). z.number == c) w.topology.consumers _ d e;
    levels = length-changed (λ (z : Geom Config). z.number == x.geom.number)
        (λ z. record z { config = add_place x.geom.config w.topology.next_consumer q.size }) w.topology.geoms;
  }

-- What is laid

module _ (w : World) (sound : Sound w) (p : ℕ) (clean : has_error_below w.topology p ≡ false) where
  -- a provider that is reached carries no error
  no_error : (r : ℕ) → Contains (below w.topology p) r → (y : Provider) → provider_at w.topology r ≡ Some y
      → y.errored ≡ true → ⊥
  no_error r there y found bad =
      let errored : is_errored w.topology r ≡ true =
      any-contained (λ (z : Provider). (z.number == r) && z.errored) w.topology.providers y
      (find-Contains (λ (z : Provider). z.number == r) w.topology.providers y found)
      (and_from (y.number == r) y.errored (find_passes (λ (z : Provider). z.number == r) w.topology.providers y found)
      bad) in
      let some : has_error_below w.topology p
      ≡ true = any-contained (is_errored w.topology) (below w.topology p) r there errored in
      let no : true ≡ false = sym some ∙ clean in
      cc

  -- so its geom doesn't wither
  no_withering : (r : ℕ) → Contains (below w.topology p) r → (y : Provider) → provider_at w.topology r ≡ Some y
      → (g : Geom Config) → geom_at w.topology y.geom ≡ Some g → g.withering ≡ true → ⊥
  no_withering r there y found g of bad =
      let withers : is_withering w.topology y.geom ≡ true =
      any-contained (λ (z : Geom Config). (z.number == y.geom) && z.withering) w.topology.geoms g
      (find-Contains (λ (z : Geom Config). z.number == y.geom) w.topology.geoms g of)
      (and_from (g.number == y.geom) g.withering
      (find_passes (λ (z : Geom Config). z.number == y.geom) w.topology.geoms g of) bad) in
      no_error r there y found
      (All-contains (λ (z : Provider). IsTrue (is_withering w.topology z.geom) → z.errored ≡ true)
      w.topology.providers y sound.providers.withering
      (find-Contains (λ (z : Provider). z.number == r) w.topology.providers y found) withers)

  -- and it is laid
  laid_with : (r : ℕ) → Contains (below w.topology p) r → (y : Provider) → provider_at w.topology r ≡ Some y
      → (o : Option (Geom Config)) → geom_at w.topology y.geom ≡ o
      → IsSomeAnd o (λ g. (is_zero (have (granted_in w) w.topology y.number) ≡ false) ⊎ (g.withering ≡ false)
      → IsSome (disk_of g.config) ⊎ IsPlaced w.topology g y)
      → IsSomeAnd (o >>= (λ g. Some (with_geom y g)))
      (λ here. IsSome (disk_of here.1.config) ⊎ IsPlaced w.topology here.1 here.0)
  laid_with r there y found None of leads = absurd leads
  laid_with r there y found (Some g) of leads =
      leads (inr (false_from_ne_true g.withering (no_withering r there y found g of)))

  -- where it stands
  laid_at : (r : ℕ) → Contains (below w.topology p) r → (o : Option Provider) → provider_at w.topology r ≡ o
      → IsSomeAnd o (λ y. IsTrue true)
      → IsSomeAnd (o >>= (λ y. geom_at w.topology y.geom >>= (λ g. Some (with_geom y g))))
      (λ here. IsSome (disk_of here.1.config) ⊎ IsPlaced w.topology here.1 here.0)
  laid_at r there None found stands = absurd stands
  laid_at r there (Some y) found stands =
      laid_with r there y found (geom_at w.topology y.geom) refl
      (All-contains (LeadsDown (granted_in w) w.topology) w.topology.providers y sound.places
      (find-Contains (λ (z : Provider). z.number == r) w.topology.providers y found))

  -- a provider stands that has a rank
  stands_if : (n : ℕ) (o : Option Provider) → IsSomeAnd o (λ y. rank w.topology y.geom < n)
      → IsSomeAnd o (λ y. IsTrue true)
  stands_if n None low = low
  stands_if n (Some y) low = refl

  -- one that stands has a rank below some number
  some_rank : (o : ℕ) (z : Option Provider) → IsSomeAnd z (λ y. o < y.size) → (n : ℕ)
      × IsSomeAnd z (λ y. rank w.topology y.geom < n)
  some_rank o None inside = absurd inside
  some_rank o (Some y) inside = (suc (rank w.topology y.geom), omega arith)

  -- so all that is reached is laid
  laid_below : (o : ℕ) → IsSomeAnd (provider_at w.topology p) (λ y. o < y.size)
      → All (IsLaid w.topology) (below w.topology p)
  laid_below o inside =
      let top = some_rank o (provider_at w.topology p) inside in
      all_of (IsLaid w.topology) (below w.topology p)
      (λ r there.
      laid_at r there (provider_at w.topology r) refl
      (stands_if top.0 (provider_at w.topology r)
      (below_lower w.topology sound.ranks.ranked (length w.topology.geoms) top.0 r p top.1 there)))

-- each offset lies in the end where it lay
pub flat_stays : FlatStays
flat_stays = record {
  kept = λ t u ways ranked p o laid inside. flat_kept t u ways ranked p laid o inside;
  grown = λ w x q sound found p o clean inside.
      flat_kept w.topology (grown w x q) (ways_kept w x q found) sound.ranks.ranked p
      (laid_below w sound p clean o inside) o inside;
}
