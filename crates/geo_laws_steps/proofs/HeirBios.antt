-- The steps of bios: the graph changes at most in a geom's count of started requests, so all ways are kept.
use Rattle.std.specs.Prelude.{◌≡◌, ℕ, ◌+◌, ◌==◌, Bool, true, false, Option, Some, None, IsSomeAnd, if◌then◌else◌}
use Rattle.std.specs.Option.{option_map_or}
use Rattle.std.proofs.Common.{refl, sym, subst}
use Rattle.std.proofs.lemmas.Bool.{eqb-true, eqb-false}
use Rattle.geo_model.specs.declared.step.Owner.{Owner}
use Rattle.geo_model.specs.declared.step.Owner.TheVariants as owners
use Rattle.geo_model.specs.declared.step.Phase.TheVariants as phases
use Rattle.geo_model.specs.Topology.{Topology, Geom, geom_at, note_started}
use Rattle.geo_model.specs.World.{World, Config, Bio, bio_at, change_bio}
use Rattle.geo_model.specs.Bios.{Way, Bounces, Fails, Sends, Splits, Passes, start_by, is_complete, complete_parent, up_to}
use Rattle.geo_laws_graph.proofs.Found.{start-found}
use Rattle.geo_laws_life.proofs.Found.{some-with}
use Rattle.geo_laws_steps.specs.WayLaws.{IsSameGeom, KeepsWays}
use Rattle.geo_laws_steps.proofs.Followed.{keeps-same}

-- a started request leaves each geom what it is
started_geom : (t : Topology Config) (g n : ℕ) (x : Geom Config) → geom_at t n ≡ Some x
    → IsSomeAnd (geom_at (note_started t g) n) (IsSameGeom x)
started_geom t g n x found = by (n == g) refl where
  -- by whether it is the one
  by : (b : Bool) → (n == g) ≡ b → IsSomeAnd (geom_at (note_started t g) n) (IsSameGeom x)
  by true e =
      some-with (geom_at (note_started t g) n) (IsSameGeom x) (record x { started = x.started + 1 })
      (subst (λ m. geom_at (note_started t m) n ≡ Some (record x { started = x.started + 1 })) (eqb-true n g e)
      (start-found.here t n x found))
      (record { number = refl; kind = refl; config = refl })
  by false e =
      some-with (geom_at (note_started t g) n) (IsSameGeom x) x
      (subst (λ o. o ≡ Some x) (sym (start-found.others t g n (eqb-false n g e))) found)
      (record { number = refl; kind = refl; config = refl })

module _ (U : ℕ → Type 0) (w : World) where
  -- the mesh after keeps the ways of the set
  abbrev Kept : World → Type 0
  Kept v = KeepsWays U w.topology v.topology

  -- where the graph is the same
  pub same : KeepsWays U w.topology w.topology
  same = keeps-same U w.topology

  -- where a request has started
  started : (g : ℕ) → KeepsWays U w.topology (note_started w.topology g)
  started g = record {
    provider = same.provider;
    geom = λ p x h inside found of. started_geom w.topology g x.geom h of;
    consumer = same.consumer;
  }

  -- a start, by the way that the bio goes
  pub way_kept : (x : Bio) (way : Way) → Kept (start_by w x way).0
  way_kept x (Bounces e) = same
  way_kept x (Fails g) = started g
  way_kept x (Sends disk) = same
  way_kept x (Splits targets) = same
  way_kept x (Passes g targets) = started g

  -- a child is up, by whether it was the last one
  child_kept : (v : World) → Kept v → (b : Bool) (o : Option Bio)
      → Kept (if b then option_map_or (λ y. complete_parent v y) o v else v)
  child_kept v kept true None = kept
  child_kept v kept true (Some y) = kept
  child_kept v kept false o = kept

  -- a bio is up, by its owner
  pub owner_kept : (x : Bio) (o : Owner) → Kept (up_to w x o).0
  owner_kept x (owners.Line handle line) = same
  owner_kept x owners.Taste = same
  owner_kept x (owners.Child parent index) =
      let gathered : World = change_bio w x.number (λ y. record y { phase = phases.Done }) in
      child_kept gathered same (is_complete gathered parent) (bio_at gathered parent)
