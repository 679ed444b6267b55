-- What contracts see of the two ends of a view.
use Rattle.std.specs.Prelude.{◌≡◌, ℕ, ◌<◌, List, [], ◌∷◌, true, false, Option, Some, option_and_then}
use Rattle.std.specs.Option.{option_map_or}
use mathlib.Core.List.{IsPrefix}
use Rattle.atomic_table.specs.Seated.{TableId}
use Rattle.geo_model.specs.declared.listing.GeomLine.{GeomLine}
use Rattle.geo_model.specs.declared.step.Entry.{Entry}
use Rattle.geo_core.specs.declared.logged.MeshStart.{MeshStart}
use Rattle.geo_jobs.specs.Passes.{IsGoodPass, MeshPass}
use Rattle.geo_jobs.specs.declared.role.Role.TheVariants.{Shows, Looks}
use Rattle.geo_jobs.specs.declared.shown.Shown.{Shown}
use Rattle.geo_jobs.specs.Kept.{Seat, Slot}
use Rattle.geo_jobs.specs.Listings.{listing_after}
use Rattle.geo_jobs.specs.Views.{AreOnePass}

-- which view, the pass with which it began, and what that pass had seen of which the list is shown
pub record PublisherView : Type 0 where
  pub view : TableId
  pub of : Option MeshPass
  pub stands : List Entry

-- which view, the pass with which it began, what that pass had seen of which the watcher saw the list, and what it was
-- told of since
pub record WatcherView : Type 0 where
  pub view : TableId
  pub of : Option MeshPass
  pub seen : List Entry
  pub told : List (List Entry)

-- which view, and where it stood, or what was seen of it
pub record ToldView : Type 0 where
  pub view : TableId
  pub stood : List Entry

-- the mesh as it is printed after these entries, in the yard of the pass
abbrev pub listing_at : Option MeshPass → List Entry → List GeomLine
listing_at of log = option_map_or (λ p. listing_after p log) of []

-- the mesh as it is printed after what the watcher has seen
abbrev pub listing_of_watcher : WatcherView → List GeomLine
listing_of_watcher v = listing_at v.of v.seen

-- with what the mesh of the watcher's yard began
abbrev pub begun_of : WatcherView → Option MeshStart
begun_of v = option_and_then (λ (p : MeshPass). p.start) v.of

-- the publisher can show what this pass has seen: it is the pass of the view, and has seen all at which the view stands
pub record CanShow (v : PublisherView) (p : MeshPass) : Type 0 where
  pub of : (o : MeshPass) × (v.of ≡ Some o) × AreOnePass o p
  pub later : IsPrefix v.stands p.seen

-- what the watcher has seen is what the pass of the view had seen at some moment, when it was good
pub record HasSeen (v : WatcherView) (p : MeshPass) : Type 0 where
  pub of : (o : MeshPass) × (v.of ≡ Some o) × AreOnePass o p
  pub seen : p.seen ≡ v.seen
  pub good : ∥ IsGoodPass p ∥₁

-- three slots, of which the first has the list of the pass
pub record IsLaid (p : MeshPass) (xs : List Slot) : Type 0 where
  pub list : Shown
  pub second : Slot
  pub third : Slot
  pub are : xs ≡ Some list ∷ second ∷ third ∷ []
  pub at : list.at.value ≡ p

-- the publisher holds its slot
pub record IsShowing (from : MeshPass) (back : ℕ) (me : Seat) : Type 0 where
  pub role : me.0.role ≡ Shows back true
  pub of : me.0.of ≡ Some from
  pub low : back < 3
  pub slot : (y : Slot) × (me.1 ≡ (back, y) ∷ [])

-- the watcher holds its slot, with the list of what it has seen
pub record IsLooking (from : MeshPass) (front : ℕ) (me : Seat) : Type 0 where
  pub role : me.0.role ≡ Looks front false
  pub of : me.0.of ≡ Some from
  pub low : front < 3
  pub list : Shown
  pub slot : me.1 ≡ (front, Some list) ∷ []
  pub at : list.at.value.seen ≡ me.0.seen
  pub its : AreOnePass from list.at.value
