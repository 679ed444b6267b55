-- The facts of Steady as tests, so that they can be computed at each moment of the worked runs.
use Rattle.std.specs.Prelude.{ℕ, ◌==◌, nat_lt, Bool, true, not, ◌&&◌, ◌||◌, List, [], ◌∷◌, length, count_by, Option, is_some, option_and_then, find}
use Rattle.std.specs.Bool.{Decides}
use Rattle.std.specs.List.{list_all}
use Rattle.geo_base.specs.declared.request.Counts.{Counts}
use Rattle.geo_model.specs.declared.step.BioResult.{BioResult}
use Rattle.geo_model.specs.declared.step.BioResult.TheVariants as results
use Rattle.geo_model.specs.declared.step.Entry.{Entry}
use Rattle.geo_model.specs.declared.step.Owner.{Owner}
use Rattle.geo_model.specs.declared.step.Owner.TheVariants as owners
use Rattle.geo_model.specs.Words.{is_read, names_number}
use Rattle.geo_model.specs.Topology.{Topology, Geom, geom_at, provider_at, consumer_at, providers_of, consumers_of}
use Rattle.geo_model.specs.World.{World, Config, Plan, Bio, Handle, Taste, is_up, is_done, granted_in}
use Rattle.geo_model.specs.Place.{components}
use Rattle.geo_model.specs.Steady.{Steady, has_free_place, has_open_provider, is_offer_of}
use Rattle.geo_model.specs.Log.{moments, replay, after_entry}
use Rattle.geo_model.specs.Opening.{opening}
use Rattle.geo_rows.specs.FixedRuns.{run_fixed, zero_devices}
use Rattle.geo_rows.specs.WorkedSound.{some_and, all_hold}

abbrev pub are_made : Topology Config → Bool
are_made t = list_all (λ g. not ((g.number == 1) || (g.number == 2)) || not g.automatic) t.geoms

abbrev pub parts_have_geoms : Topology Config → Bool
parts_have_geoms t =
    list_all (λ p. is_some (geom_at t p.geom)) t.providers && list_all (λ c. is_some (geom_at t c.geom)) t.consumers

abbrev pub are_attached : Topology Config → Bool
are_attached t = list_all (λ c. is_some (option_and_then (provider_at t) c.provider)) t.consumers

abbrev pub has_its_components : (ℕ → Counts) → Topology Config → Geom Config → Bool
has_its_components granted t g =
    not (not g.withering || has_open_provider granted t g)
    || list_all
    (λ c. some_and (consumer_at t c) (λ x. (x.geom == g.number) && is_some x.provider))
    (components g.config)

abbrev pub waits_for_places : Topology Config → Geom Config → Bool
waits_for_places t g = not (has_free_place g) || (length (providers_of t g.number) == 0)

abbrev pub comes_from_its_owner : List Handle → Option Taste → Bio → Owner → Bool
comes_from_its_owner hs o x (owners.Line handle line) =
    some_and (find (λ h. h.number == handle) hs) (λ h. names_number h.consumer x.source)
comes_from_its_owner hs o x owners.Taste = some_and o (λ s. (s.consumer == x.source) && (s.provider == x.target))
comes_from_its_owner hs o x (owners.Child parent index) = nat_lt parent x.number

abbrev pub result_fits : Bio → BioResult → Bool
result_fits x (results.Bytes bytes) = is_read x.cmd && (length bytes == x.len)
result_fits x results.Done = not (is_read x.cmd)
result_fits x (results.Failed e) = true

abbrev pub has_its_result : Bio → Bool
has_its_result x = not (is_up x.phase || is_done x.phase) || some_and x.result (result_fits x)

-- whether the world is steady
unfoldable pub is_steady : World → Bool
is_steady w = all_hold
    (are_made w.topology
    ∷ parts_have_geoms w.topology
    ∷ are_attached w.topology
    ∷ list_all (has_its_components (granted_in w) w.topology) w.topology.geoms
    ∷ list_all (waits_for_places w.topology) w.topology.geoms
    ∷ list_all (λ x. comes_from_its_owner w.handles w.taste x x.owner) w.bios
    ∷ list_all has_its_result w.bios
    ∷ list_all (λ c. not c.spoiled) (consumers_of w.topology 1)
    ∷ [])

-- the test is true of a world exactly where it is steady
abbrev pub TestsSteady : Type 0
TestsSteady = (w : World) → Decides (is_steady w) (Steady w)

-- whether a step offers only what lives for taste
abbrev pub offers_only_living : World → World → Bool
offers_only_living before after =
    list_all
    (λ x.
    not (nat_lt (count_by (is_offer_of x.number) before.events) (count_by (is_offer_of x.number) after.events))
    || (not x.errored && some_and (geom_at after.topology x.geom) (λ g. not g.withering)))
    after.topology.providers

-- whether each world of a log is steady, and each step offers only what lives
abbrev pub steady_along : World → List Entry → Bool
steady_along opened log =
    list_all (λ m. is_steady m.before && offers_only_living m.before (after_entry m.before m.entry))
    (moments opened log)
    && is_steady (replay opened log)

-- whether the run of a plan is
abbrev pub run_is_steady : Plan → List (ℕ × ℕ) → Bool
run_is_steady plan facts =
    steady_along (opening plan facts) (run_fixed 400 (opening plan facts) (zero_devices facts)).log
