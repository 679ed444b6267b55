-- The tests of Steady say what Steady says.
use Rattle.std.specs.Prelude.{◌≡◌, ℕ, ◌==◌, Bool, true, false, not, ◌||◌, List, [], ◌∷◌, length, Option, Some, None, is_some, find, option_and_then}
use Rattle.std.specs.Bool.{Decides}
use Rattle.std.proofs.Common.{refl, arith, sym, ap}
use Rattle.std.proofs.lemmas.Bool.{true≢false, eqb-true}
use Rattle.std.proofs.lemmas.Bool.Decides.{Decides-and, Decides-or, Decides-like, Decides-eqb, Decides-ltb}
use Rattle.std.proofs.lemmas.Option.{same_Some}
use Rattle.geo_laws_scripts.proofs.Deciders.{always, itself, each}
use Rattle.geo_rows.proofs.TestFacts.{under, there_and}
use Rattle.geo_base.specs.declared.request.Counts.{Counts}
use Rattle.geo_model.specs.declared.step.BioResult.{BioResult}
use Rattle.geo_model.specs.declared.step.BioResult.TheVariants as results
use Rattle.geo_model.specs.declared.step.Owner.{Owner}
use Rattle.geo_model.specs.declared.step.Owner.TheVariants as owners
use Rattle.geo_model.specs.Words.{is_read, names_number}
use Rattle.geo_model.specs.Topology.{Topology, Geom, geom_at, provider_at, consumer_at, providers_of, consumers_of}
use Rattle.geo_model.specs.World.{World, Config, Bio, Handle, Taste, is_up, is_done, granted_in}
use Rattle.geo_model.specs.Place.{components}
use Rattle.geo_model.specs.Steady.{AreMade, PartsHaveGeoms, AreAttached, has_free_place, has_open_provider, HasItsComponents, WaitsForPlaces, ComesFromItsOwner, FitsBio, HasItsResult, Steady}
use Rattle.geo_rows.specs.WorkedSteady.{are_made, parts_have_geoms, are_attached, has_its_components, waits_for_places, comes_from_its_owner, result_fits, has_its_result, is_steady}

-- a test that is false
pub untrue : (b : Bool) → Decides (not b) (b ≡ false)
untrue true = (λ e. sym e, λ e. sym e)
untrue false = (λ e. refl, λ e. refl)

-- an empty list
pub bare : {A : Type 0} → (xs : List A) → Decides (length xs == 0) (xs ≡ [])
bare [] = (λ e. refl, λ e. refl)
bare (x ∷ xs) = (
  λ e. let no : length (x ∷ xs) ≡ 0 = eqb-true (length (x ∷ xs)) 0 e in absurd (omega (arith, no)),
  λ e. absurd (let no : length (x ∷ xs) ≡ 0 = ap (λ ys. length ys) e in omega (arith, no)),
)

-- a number that is named
pub named : (o : Option ℕ) (n : ℕ) → Decides (names_number o n) (o ≡ Some n)
named None n = (λ e. absurd (true≢false (sym e)), λ e. absurd (true≢false (ap (λ o. is_some o) (sym e))))
named (Some m) n =
    (λ e. ap (λ k. Some k) (eqb-true m n e), λ e. (Decides-eqb m n).1 (same_Some m n e))

-- DEV and TASTE aren't automatic
made : (t : Topology Config) → Decides (are_made t) (AreMade t)
made t =
    each _ _ (λ g.
    under ((g.number == 1) || (g.number == 2)) _
    (Decides-or (g.number == 1) (g.number == 2) (Decides-eqb g.number 1) (Decides-eqb g.number 2))
    (untrue g.automatic))
    t.geoms

-- each part's geom is there
parts : (t : Topology Config) → Decides (parts_have_geoms t) (PartsHaveGeoms t)
parts t =
    Decides-like _ (λ h. assumption) (λ h. assumption)
    (Decides-and _ _
    (each _ _ (λ p. itself (is_some (geom_at t p.geom))) t.providers)
    (each _ _ (λ c. itself (is_some (geom_at t c.geom))) t.consumers))

-- each consumer is attached
attached : (t : Topology Config) → Decides (are_attached t) (AreAttached t)
attached t = each _ _ (λ c. itself (is_some (option_and_then (provider_at t) c.provider))) t.consumers

-- components are attached consumers of the geom
its_components : (granted : ℕ → Counts) (t : Topology Config) (g : Geom Config)
    → Decides (has_its_components granted t g) (HasItsComponents granted t g)
its_components granted t g =
    under (not g.withering || has_open_provider granted t g) _
    (Decides-or (not g.withering) (has_open_provider granted t g) (untrue g.withering)
    (itself (has_open_provider granted t g)))
    (each _ _ (λ c.
    there_and (consumer_at t c) _ _ (λ x.
    Decides-and (x.geom == g.number) (is_some x.provider) (Decides-eqb x.geom g.number) (itself (is_some x.provider))))
    (components g.config))

-- an assembly with a free place has no provider
partial_waits : (t : Topology Config) (g : Geom Config) → Decides (waits_for_places t g) (WaitsForPlaces t g)
partial_waits t g = under (has_free_place g) _ (itself (has_free_place g)) (bare (providers_of t g.number))

-- a root comes from its owner
from_owner : (hs : List Handle) (taste : Option Taste) (x : Bio) (o : Owner)
    → Decides (comes_from_its_owner hs taste x o) (ComesFromItsOwner hs taste x o)
from_owner hs taste x (owners.Line handle line) =
    there_and (find (λ h. h.number == handle) hs) _ _ (λ h. named h.consumer x.source)
from_owner hs taste x owners.Taste =
    there_and taste _ _ (λ s.
    Decides-and (s.consumer == x.source) (s.provider == x.target) (Decides-eqb s.consumer x.source)
    (Decides-eqb s.provider x.target))
from_owner hs taste x (owners.Child parent index) = Decides-ltb parent x.number

-- a result is one that the bio can have
of_bio : (x : Bio) (got : BioResult) → Decides (result_fits x got) (FitsBio x got)
of_bio x (results.Bytes bytes) =
    Decides-and (is_read x.cmd) (length bytes == x.len) (itself (is_read x.cmd)) (Decides-eqb (length bytes) x.len)
of_bio x results.Done = untrue (is_read x.cmd)
of_bio x (results.Failed e) = always

-- a bio that is back has its result
its_result : (x : Bio) → Decides (has_its_result x) (HasItsResult x)
its_result x =
    under (is_up x.phase || is_done x.phase) _ (itself (is_up x.phase || is_done x.phase))
    (there_and x.result _ _ (of_bio x))

pub steady_tested : (w : World) → Decides (is_steady w) (Steady w)
unfolding is_steady
steady_tested w =
    Decides-like _ (λ h. assumption) (λ h. assumption)
    (Decides-and _ _ (made w.topology)
    (Decides-and _ _ (parts w.topology)
    (Decides-and _ _ (attached w.topology)
    (Decides-and _ _ (each _ _ (its_components (granted_in w) w.topology) w.topology.geoms)
    (Decides-and _ _ (each _ _ (partial_waits w.topology) w.topology.geoms)
    (Decides-and _ _ (each _ _ (λ x. from_owner w.handles w.taste x x.owner) w.bios)
    (Decides-and _ _ (each _ _ its_result w.bios)
    (Decides-and _ _ (each _ _ (λ c. untrue c.spoiled) (consumers_of w.topology 1)) always))))))))
