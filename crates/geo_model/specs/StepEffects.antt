-- The headline doesn't rest on this file: laws of all steps are shown by it.
-- What a step of a seat can do to a world, for a fact P of a step and its answer.
use Rattle.std.specs.Prelude.{◌≡◌, ℕ, true, false, List, ◌∷◌, slice_get, Option, Some, None, Ok, Err}
use Rattle.geo_model.specs.declared.class.Judged.{Judged}
use Rattle.geo_model.specs.declared.command.LineCommand.{LineCommand}
use Rattle.geo_model.specs.declared.step.DeviceResult.{DeviceResult}
use Rattle.geo_model.specs.declared.step.Event.{Event}
use Rattle.geo_model.specs.declared.step.Found.{Found}
use Rattle.geo_model.specs.declared.step.Outcome.TheVariants as outcomes
use Rattle.geo_model.specs.declared.step.Owner.{Owner}
use Rattle.geo_model.specs.declared.step.Phase.TheVariants as phases
use Rattle.geo_model.specs.declared.step.Step.{Step}
use Rattle.geo_model.specs.declared.step.Step.TheVariants as steps
use Rattle.geo_model.specs.declared.step.WashWork.{WashWork}
use Rattle.geo_model.specs.World.{World, Handle, Bio, Taste, granted_in, bio_at, change_bio, is_read_out, is_down, is_up}
use Rattle.geo_model.specs.Bios.{Way, way_of, start_by, request_of_bio, up_with, result_of_device, up_to}
use Rattle.geo_model.specs.WorldEvents.{queued_of, with_queued, do_event}
use Rattle.geo_model.specs.Tasting.{Judging, taste_step, judged_world}
use Rattle.geo_model.specs.Freeing.{reap_work, reap_handle, wash_work, washed}
use Rattle.geo_model.specs.Commands.{do_command}
use Rattle.geo_model.specs.Step.{Answer, waits_for, with_commands, take_found, deliver_found}

-- a Go: the command is the actor's next, and needn't wait
pub record IsGone (w : World) (actor : ℕ) (c : LineCommand) (rest : List LineCommand) : Type 0 where
  pub left : slice_get w.actors actor ≡ Some (c ∷ rest)
  pub ready : waits_for w actor c.command ≡ None

-- an Event: it is the head of the queue, and nothing is tasted
pub record IsRun (w : World) (e : Event) (rest : List Event) : Type 0 where
  pub idle : w.taste ≡ None
  pub queue : w.events ≡ e ∷ rest

-- a Judge: no read of the taste is out, and this is what comes of it
pub record IsJudged (w : World) (s : Taste) (x : Judging) (j : Judged) : Type 0 where
  pub taste : w.taste ≡ Some s
  pub back : is_read_out s.asked ≡ false
  pub step : taste_step (granted_in w) (queued_of w) s ≡ x
  pub judged : x.judged ≡ j

-- a Reap: the handle with this consumer can be reaped
pub record IsReaped (w : World) (h : Handle) (c : Option ℕ) : Type 0 where
  pub work : reap_work w ≡ Some h
  pub names : h.consumer ≡ c

-- a Start: the bio is Down and goes this way
pub record IsStarted (w : World) (b : ℕ) (x : Bio) (way : Way) : Type 0 where
  pub found : bio_at w b ≡ Some x
  pub down : is_down x.phase ≡ true
  pub goes : way_of w.topology x ≡ way

-- a Take: nothing is against it
pub record IsTaken (w : World) (disk b : ℕ) (x : Bio) : Type 0 where
  pub found : bio_at w b ≡ Some x
  pub free : take_found w disk x ≡ None

-- a Deliver: nothing is against it
pub record IsDelivered (w : World) (seat b : ℕ) (got : DeviceResult) (x : Bio) : Type 0 where
  pub found : bio_at w b ≡ Some x
  pub fits : deliver_found w seat x got x.phase ≡ None

-- an Up: the bio is Up and of this owner
pub record IsRisen (w : World) (b : ℕ) (x : Bio) (o : Owner) : Type 0 where
  pub found : bio_at w b ≡ Some x
  pub up : is_up x.phase ≡ true
  pub owner : x.owner ≡ o

-- a step isn't enabled, or it is one of the nine and makes this
pub record OfEachStep (w : World) (seat : ℕ) (P : Step → Answer → Type 0) : Type 0 where
  pub refuses : (s : Step) (f : Found) → P s (Err f)
  pub goes : (actor : ℕ) (c : LineCommand) (rest : List LineCommand) → IsGone w actor c rest
      → P (steps.Go actor) (Ok (do_command (with_commands w actor rest) c.line actor c.command))
  pub runs : (e : Event) (rest : List Event) → IsRun w e rest
      → P steps.Event (Ok (do_event (record w { events = rest }) e, outcomes.Ran))
  pub judges : (s : Taste) (x : Judging) (j : Judged) → IsJudged w s x j → P steps.Judge (Ok (judged_world w x j))
  pub reaps : (h : Handle) (c : Option ℕ) → IsReaped w h c → P steps.Reap (Ok (reap_handle w c, outcomes.Ran))
  pub washes : (work : WashWork) → wash_work w ≡ Some work
      → P steps.Wash (Ok (with_queued w (washed (queued_of w) work), outcomes.Ran))
  pub starts : (b : ℕ) (x : Bio) (way : Way) → IsStarted w b x way → P (steps.Start b) (Ok (start_by w x way))
  pub takes : (disk b : ℕ) (x : Bio) → IsTaken w disk b x
      → P (steps.Take disk b) (Ok (
        change_bio w x.number (λ y. record y { phase = phases.Busy seat }),
        outcomes.Asked (request_of_bio w disk x),
      ))
  pub delivers : (b : ℕ) (got : DeviceResult) (x : Bio) → IsDelivered w seat b got x
      → P (steps.Deliver b got) (Ok (change_bio w x.number (up_with (result_of_device got)), outcomes.Delivered))
  pub rises : (b : ℕ) (x : Bio) (o : Owner) → IsRisen w b x o → P (steps.Up b) (Ok (up_to w x o))
