-- What becomes of a world doesn't depend on the commands that are left: steps that aren't commands.
use Rattle.std.specs.Prelude.{◌≡◌, ℕ, ◌+◌, Bool, true, false, List, [], ◌∷◌, fold, Option, Some, None, Ok, Err, if◌then◌else◌}
use Rattle.std.specs.Option.{option_map_or}
use Rattle.std.proofs.Common.{refl, ap, ◌∙◌}
use Rattle.geo_model.specs.declared.class.Judged.{Judged}
use Rattle.geo_model.specs.declared.class.Judged.TheVariants as judgeds
use Rattle.geo_model.specs.declared.command.LineCommand.{LineCommand}
use Rattle.geo_model.specs.declared.step.DeviceResult.{DeviceResult}
use Rattle.geo_model.specs.declared.step.Event.{Event}
use Rattle.geo_model.specs.declared.step.Event.TheVariants as events
use Rattle.geo_model.specs.declared.step.Found.{Found}
use Rattle.geo_model.specs.declared.step.Outcome.{Outcome}
use Rattle.geo_model.specs.declared.step.Outcome.TheVariants as outcomes
use Rattle.geo_model.specs.declared.step.Owner.{Owner}
use Rattle.geo_model.specs.declared.step.Owner.TheVariants as owners
use Rattle.geo_model.specs.declared.step.Phase.TheVariants as phases
use Rattle.geo_model.specs.declared.step.WashWork.{WashWork}
use Rattle.geo_base.specs.declared.errno.Errno.TheVariants.{ENXIO, EIO}
use Rattle.geo_model.specs.Topology.{Provider, Geom, is_errored, note_started, provider_with_geom}
use Rattle.geo_model.specs.World.{World, Bio, Config, Nothing, Disk, Mbr, Ebr, Label, Concat, Stripe, Nop, Handle, Taste, bio_at, change_bio, granted_in}
use Rattle.geo_model.specs.Bios.{start, start_found, start_at, bounce, split_bio, piece_targets, is_hit, take_bio, deliver, up, up_to, is_complete, complete_parent}
use Rattle.geo_model.specs.Events.{is_not_tasted, dying_consumers, orphan}
use Rattle.geo_model.specs.Freeing.{reap, reap_handle, wash}
use Rattle.geo_model.specs.Step.{Answer, unless_found}
use Rattle.geo_model.specs.Tasting.{Judging, judge_step, judged_world, taste_step}
use Rattle.geo_model.specs.WorldEvents.{do_event, begin_taste, kill_handle, queued_of, with_queued}

abbrev pub Lists : Type 0
Lists = List (List LineCommand)

module _ (f : Lists → Lists) where
  -- the world with other commands left
  abbrev pub other : World → World
  other w = record w { actors = f w.actors }

  abbrev pub other_made : World × Outcome → World × Outcome
  other_made made = (other made.0, made.1)

  abbrev pub other_answer : Answer → Answer
  other_answer (Ok made) = Ok (other_made made)
  other_answer (Err e) = Err e

  -- by a choice

  pub chosen : (b : Bool) (x y : World) → (if b then other x else other y) ≡ other (if b then x else y)
  chosen true x y = refl
  chosen false x y = refl

  pub chosen_made : (b : Bool) (x y : World × Outcome)
      → (if b then other_made x else other_made y) ≡ other_made (if b then x else y)
  chosen_made true x y = refl
  chosen_made false x y = refl

  pub unless_other : (o : Option Found) (made : World × Outcome)
      → unless_found o (other_made made) ≡ other_answer (unless_found o made)
  unless_other None made = refl
  unless_other (Some e) made = refl

  -- events

  pub kills_other : (w : World) (cs : List ℕ) → fold kill_handle (other w) cs ≡ other (fold kill_handle w cs)
  kills_other w [] = refl
  kills_other w (c ∷ cs) = kills_other (kill_handle w c) cs

  pub event_other : (w : World) (e : Event) → do_event (other w) e ≡ other (do_event w e)
  unfolding do_event
  event_other w (events.NewProvider p) = chosen (is_not_tasted (granted_in w) w.topology p) w (begin_taste w p)
  event_other w (events.Spoil p) = refl
  event_other w (events.Orphan p) =
      ap (λ u. with_queued u (orphan (queued_of w) p)) (kills_other w (dying_consumers w.topology p))
  event_other w (events.Resize p) = refl

  -- tastes

  judged_other : (w : World) (x : Judging) (j : Judged) → judged_world (other w) x j ≡ other_made (judged_world w x j)
  judged_other w x (judgeds.Read sector) = refl
  judged_other w x judgeds.Next = refl
  judged_other w x judgeds.Made = refl
  judged_other w x judgeds.Ended = refl

  pub judge_other : (w : World) (s : Taste) → judge_step (other w) s ≡ other_made (judge_step w s)
  unfolding judge_step
  judge_other w s =
      let x : Judging = taste_step (granted_in w) (queued_of w) s in judged_other w x x.judged

  -- reaps and washes

  reap_by : (w : World) (o : Option ℕ) → reap_handle (other w) o ≡ other (reap_handle w o)
  reap_by w None = refl
  reap_by w (Some c) = refl

  pub reap_other : (w : World) (h : Handle) → reap (other w) h ≡ other (reap w h)
  unfolding reap
  reap_other w h = reap_by w h.consumer

  pub wash_other : (w : World) (work : WashWork) → wash (other w) work ≡ other (wash w work)
  unfolding wash
  wash_other w work = refl

  -- bios

  at_other : (w : World) (x : Bio) (p : Provider) (g : Geom Config) (c : Config)
      → start_at (other w) x p g c ≡ other_made (start_at w x p g c)
  at_other w x p g (Nop below offset fail) =
      chosen_made (is_hit (g.started + 1) fail)
      (bounce (record w { topology = note_started w.topology g.number }) x EIO)
      (split_bio (record w { topology = note_started w.topology g.number }) x (piece_targets g.config p x))
  at_other w x p g (Disk disk) = refl
  at_other w x p g Nothing = refl
  at_other w x p g (Mbr below slices) = refl
  at_other w x p g (Ebr below parts) = refl
  at_other w x p g (Label below) = refl
  at_other w x p g (Concat id places sizes) = refl
  at_other w x p g (Stripe id stripe places sizes) = refl

  found_other : (w : World) (x : Bio) (o : Option (Provider × Geom Config))
      → start_found (other w) x o ≡ other_made (start_found w x o)
  found_other w x None = refl
  found_other w x (Some found) = at_other w x found.0 found.1 found.1.config

  pub start_other : (w : World) (x : Bio) → start (other w) x ≡ other_made (start w x)
  unfolding start
  start_other w x =
      ap (λ made. if is_errored w.topology x.target then bounce (other w) x ENXIO else made)
      (found_other w x (provider_with_geom w.topology x.target))
      ∙ chosen_made (is_errored w.topology x.target) (bounce w x ENXIO)
      (start_found w x (provider_with_geom w.topology x.target))

  pub take_other : (w : World) (seat disk : ℕ) (x : Bio)
      → take_bio (other w) seat disk x ≡ other_made (take_bio w seat disk x)
  unfolding take_bio
  take_other w seat disk x = refl

  pub deliver_other : (w : World) (x : Bio) (got : DeviceResult)
      → deliver (other w) x got ≡ other_made (deliver w x got)
  unfolding deliver
  deliver_other w x got = refl

  -- a child that is gathered, by whether its parent is complete, and the parent
  gathered_other : (w : World) (parent : ℕ) (b : Bool) (o : Option Bio)
      → (if b then option_map_or (λ y. complete_parent (other w) y) o (other w) else other w)
      ≡ other (if b then option_map_or (λ y. complete_parent w y) o w else w)
  gathered_other w parent true None = refl
  gathered_other w parent true (Some y) = refl
  gathered_other w parent false o = refl

  up_by : (w : World) (x : Bio) (o : Owner) → up_to (other w) x o ≡ other_made (up_to w x o)
  up_by w x (owners.Line handle line) = refl
  up_by w x owners.Taste = refl
  up_by w x (owners.Child parent index) =
      let gathered : World = change_bio w x.number (λ y. record y { phase = phases.Done }) in
      ap (λ (u : World). (u, outcomes.Gathered parent (is_complete gathered parent)))
      (gathered_other gathered parent (is_complete gathered parent) (bio_at gathered parent))

  pub up_other : (w : World) (x : Bio) → up (other w) x ≡ other_made (up w x)
  unfolding up
  up_other w x = up_by w x x.owner
