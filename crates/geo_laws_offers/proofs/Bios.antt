-- The steps of bios: the graph changes at most in a geom's count of started requests, and nothing is posted.
use Rattle.std.specs.Prelude.{ℕ, Bool, true, false, Option, Some, None, if◌then◌else◌}
use Rattle.std.specs.Option.{option_map_or}
use Rattle.geo_model.specs.declared.step.Owner.{Owner}
use Rattle.geo_model.specs.declared.step.Owner.TheVariants as owners
use Rattle.geo_model.specs.declared.step.Phase.TheVariants as phases
use Rattle.geo_model.specs.Topology.{note_started}
use Rattle.geo_model.specs.World.{World, Bio, bio_at, change_bio}
use Rattle.geo_model.specs.WorldEvents.{queued_of}
use Rattle.geo_model.specs.Bios.{Way, Bounces, Fails, Sends, Splits, Passes, start_by, is_complete, complete_parent, up_to}
use Rattle.geo_laws_offers.specs.OfferingLaws.{Adds}
use Rattle.geo_laws_offers.proofs.Quiet.{started-stays, quiet-same, quiet-change, quiet-adds}

-- nothing changes in the graph and the queue
pub nothing-adds : (w : World) → Adds w w
nothing-adds w = quiet-adds (queued_of w) (queued_of w) (quiet-same (queued_of w))

module _ (w : World) where
  -- a geom has started one more request
  counted-adds : (g : ℕ) → Adds w (record w { topology = note_started w.topology g })
  counted-adds g =
      quiet-adds (queued_of w) (queued_of (record w { topology = note_started w.topology g }))
      (quiet-change (queued_of w) (note_started w.topology g) (started-stays w.topology g))

  -- a start, by the way that the bio goes
  pub way-adds : (x : Bio) (way : Way) → Adds w (start_by w x way).0
  way-adds x (Bounces e) = nothing-adds w
  way-adds x (Fails g) = counted-adds g
  way-adds x (Sends disk) = nothing-adds w
  way-adds x (Splits targets) = nothing-adds w
  way-adds x (Passes g targets) = counted-adds g

  -- a child is up, by whether it was the last one
  child-adds : (v : World) → Adds w v → (parent : ℕ) (b : Bool) (o : Option Bio)
      → Adds w (if b then option_map_or (λ y. complete_parent v y) o v else v)
  child-adds v adds parent true None = adds
  child-adds v adds parent true (Some y) = adds
  child-adds v adds parent false o = adds

  -- a bio is up, by its owner
  pub to-adds : (x : Bio) (o : Owner) → Adds w (up_to w x o).0
  to-adds x (owners.Line handle line) = nothing-adds w
  to-adds x owners.Taste = nothing-adds w
  to-adds x (owners.Child parent index) =
      let gathered : World = change_bio w x.number (λ y. record y { phase = phases.Done }) in
      child-adds gathered (nothing-adds w) parent (is_complete gathered parent) (bio_at gathered parent)
