-- The view that the client of the first actor shows, and who looks at it.
use Rattle.std.specs.Prelude.{◌≡◌, List, [], ◌∷◌, Option, Some, None, IfSome, ⊤}
use Rattle.std.specs.Option.{option_map}
use Rattle.atomic_table.specs.Seated.{TableId}
use mathlib.Core.List.{IsPrefix}
use Rattle.geo_model.specs.declared.step.Entry.{Entry}
use Rattle.geo_model.specs.Listing.{listing}
use Rattle.geo_model.specs.Log.{replay}
use Rattle.geo_core.specs.declared.logged.MeshStart.{MeshStart}
use Rattle.geo_core.specs.Mesh.{MeshView, opened}
use Rattle.geo_jobs.specs.Ends.{PublisherView, WatcherView, begun_of, listing_at}
use Rattle.geo_jobs.specs.declared.left.Seen.{Seen}
use Rattle.geo_jobs.specs.declared.left.Seen.TheVariants as seens
use Rattle.geo_jobs.specs.declared.run.Worker.{Worker}
use Rattle.geo_jobs.specs.Jobs.{publisher_of}

-- which view somebody shows, if anybody does
abbrev pub shown_by : Option PublisherView → Option TableId
shown_by p = option_map (λ (v : PublisherView). v.view) p

-- which view somebody looks at, if anybody does
abbrev pub seen_by : Option WatcherView → Option TableId
seen_by w = option_map (λ (v : WatcherView). v.view) w

-- by what the first of the workers shows, if it shows
abbrev pub first_publisher : {D : Type 0} → List (Worker D) → Option PublisherView
first_publisher [] = None
first_publisher (w ∷ ws) = publisher_of w.job.role

-- which view the first of the workers shows, if it shows one
abbrev pub first_view : {D : Type 0} → List (Worker D) → Option TableId
first_view ws = shown_by (first_publisher ws)

-- with what the mesh began of which somebody sees listings, if anybody does
abbrev pub begun_by : Option WatcherView → Option (Option MeshStart)
begun_by w = option_map begun_of w

-- whoever looks looks at the view that the first of the workers shows
abbrev pub LooksAtFirst : {D : Type 0} → Option WatcherView → List (Worker D) → Type 0
LooksAtFirst {D} w ws = IfSome w (λ (v : WatcherView). first_view ws ≡ Some v.view)

-- and whoever looks looks at what this one shows
abbrev pub LooksAt : Option WatcherView → Option PublisherView → Type 0
LooksAt w p = IfSome w (λ (v : WatcherView). shown_by p ≡ Some v.view)

-- the last look: nothing where nobody looks; else the mesh as it is printed after just what was shown last, unless
-- memory was wanting
abbrev pub IsLastLook : Option WatcherView → Option PublisherView → Seen → Type 0
IsLastLook None p seen = seen ≡ seens.Nothing
IsLastLook (Some w) p seens.Nothing = ⊥
IsLastLook (Some w) p (seens.List list) = IfSome p (λ (q : PublisherView). list ≡ listing_at w.of q.stands)
IsLastLook (Some w) p seens.NoMemory = ⊤

-- what was seen last is the mesh as it is printed after a beginning of its log
abbrev pub ShowsPrefixOf : MeshView → Seen → Type 0
ShowsPrefixOf m (seens.List list) =
    (log : List Entry) × IsPrefix log m.log × (list ≡ listing (replay (opened m) log))
ShowsPrefixOf m _ = ⊤

-- somebody looked when all jobs had ended
abbrev pub HasLooked : Seen → Type 0
HasLooked seens.Nothing = ⊥
HasLooked (seens.List list) = ⊤
HasLooked seens.NoMemory = ⊤
