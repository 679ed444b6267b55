-- What each step does to the places that are owed.
use Rattle.std.specs.Prelude.{◌≡◌, ℕ, ◌+◌, Bool, true, false, List, [], ◌∷◌, fold, length, slice_get, Option, Some, None, Ok, Err, ⊤, if◌then◌else◌, option_and_then}
use Rattle.std.proofs.Common.{refl, ◌∙◌, ap, subst, arith}
use Rattle.geo_model.specs.declared.class.Judged.{Judged}
use Rattle.geo_model.specs.declared.class.Judged.TheVariants.{Read, Next, Made, Ended}
use Rattle.geo_model.specs.declared.command.LineCommand.{LineCommand}
use Rattle.geo_model.specs.declared.step.DeviceResult.{DeviceResult}
use Rattle.geo_model.specs.declared.step.Event.{Event}
use Rattle.geo_model.specs.declared.step.Event.TheVariants as events
use Rattle.geo_model.specs.declared.step.Phase.TheVariants as phases
use Rattle.geo_model.specs.declared.step.Step.{Step}
use Rattle.geo_model.specs.declared.step.Step.TheVariants as steps
use Rattle.geo_model.specs.declared.step.WashWork.{WashWork}
use Rattle.geo_model.specs.declared.step.WashWork.TheVariants as washes
use Rattle.geo_model.specs.Words.{names_number}
use Rattle.geo_model.specs.World.{World, Handle, Bio, change_bio, granted_in, is_sent}
use Rattle.geo_model.specs.Bios.{result_of_device, up_with}
use Rattle.geo_model.specs.Events.{is_not_tasted, dying_consumers}
use Rattle.geo_model.specs.WorldEvents.{queued_of, with_queued, begin_taste, kill_handle, do_event}
use Rattle.geo_model.specs.Tasting.{Judging, judged_world}
use Rattle.geo_model.specs.Freeing.{reap_handle, reap_consumer, washed}
use Rattle.geo_model.specs.Commands.{do_command}
use Rattle.geo_model.specs.Step.{Answer, with_commands, step}
use Rattle.geo_model.specs.Log.{owed}
use Rattle.geo_model.specs.History.{first_command, next_command}
use Rattle.geo_model.specs.Fitting.{Firm}
use Rattle.geo_model.specs.StepEffects.{IsTaken, IsDelivered}
use Rattle.geo_model.proofs.StepWalk.{step_by}
use Rattle.geo_laws_graph.proofs.Lists.{length-changed}
use Rattle.geo_laws_bios.proofs.Phases.{can_take, can_deliver}
use Rattle.geo_laws_bios.proofs.Turning.{found_there}
use Rattle.geo_laws_owed.specs.OwedLaws.{begins_to_owe, pays, OwedChanges}
use Rattle.geo_laws_owed.proofs.OwedBios.{busy, idle, change_owes, way_owes, owner_owes}
use Rattle.geo_laws_owed.proofs.OwedCommands.{submit_owes, command_owes}

-- what an answer does to what is owed
abbrev Changes : World → Step → Answer → Type 0
Changes w s (Ok made) = owed made.0 + pays w s made.1 ≡ owed w + begins_to_owe w s made.1
Changes w s (Err found) = ⊤

-- Event, Judge, Reap, Wash

-- handles that die are as many as before
kills_owe : (cs : List ℕ) (w : World) → owed (fold kill_handle w cs) ≡ owed w
kills_owe [] w = refl
kills_owe (c ∷ cs) w =
    let same : length (kill_handle w c).handles ≡ length w.handles =
    length-changed (λ (h : Handle). names_number h.consumer c) (λ h. record h { dead = true }) w.handles in
    kills_owe cs (kill_handle w c) ∙ (let one : owed (kill_handle w c) ≡ owed w = omega (arith, same) in one)

-- an offer, by whether it is tasted
offer_owes : (w : World) (p : ℕ) (b : Bool) → owed (if b then w else begin_taste w p) ≡ owed w
offer_owes w p true = refl
offer_owes w p false = refl

-- each event
event_owes : (w : World) (e : Event) → owed (do_event w e) ≡ owed w
unfolding do_event
event_owes w (events.NewProvider p) = offer_owes w p (is_not_tasted (granted_in w) w.topology p)
event_owes w (events.Spoil p) = refl
event_owes w (events.Orphan p) = kills_owe (dying_consumers w.topology p) w
event_owes w (events.Resize p) = refl

-- a judging
judging_owes : (w : World) (x : Judging) (j : Judged) → owed (judged_world w x j).0 ≡ owed w
judging_owes w x (Read sector) = submit_owes w _ refl
judging_owes w x Next = refl
judging_owes w x Made = refl
judging_owes w x Ended = refl

-- a handle that is reaped stays without its consumer
reaped_owes : (w : World) (o : Option ℕ) → owed (reap_handle w o) ≡ owed w
reaped_owes w None = refl
reaped_owes w (Some c) =
    let same : length (reap_consumer w c).handles ≡ length w.handles =
    length-changed (λ (h : Handle). names_number h.consumer c) (λ h. record h { consumer = None }) w.handles in
    omega (arith, same)

-- what can be washed
washed_owes : (w : World) (work : WashWork) → owed (with_queued w (washed (queued_of w) work)) ≡ owed w
washed_owes w (washes.Provider p) = refl
washed_owes w (washes.Consumer c) = refl
washed_owes w (washes.Geom g) = refl

-- Each step

module _ (w : World) (seat : ℕ) (firm : Firm w) where
  -- a Go
  go_owes : (actor : ℕ) (c : LineCommand) (rest : List LineCommand) → slice_get w.actors actor ≡ Some (c ∷ rest)
      → Changes w (steps.Go actor) (Ok (do_command (with_commands w actor rest) c.line actor c.command))
  go_owes actor c rest left =
      let next : next_command w actor ≡ Some c = ap (option_and_then first_command) left in
      let same = command_owes (with_commands w actor rest) c.line actor firm.handles.numbers c.command in
      rw next same

  -- a bio that is taken
  take_owes : (disk b : ℕ) (x : Bio) → IsTaken w disk b x
      → owed (change_bio w x.number (λ y. record y { phase = phases.Busy seat })) ≡ owed w + 1
  take_owes disk b x is =
      let quiet = idle is_sent (λ s. refl) x (can_take w disk x is.free).sent in
      let same = change_owes w x (λ y. record y { phase = phases.Busy seat }) firm.bios.numbers
      (found_there w b x is.found) in
      omega (arith, same, quiet)

  -- and one that is delivered
  deliver_owes : (b : ℕ) (got : DeviceResult) (x : Bio) → IsDelivered w seat b got x
      → owed (change_bio w x.number (up_with (result_of_device got))) + 1 ≡ owed w
  deliver_owes b got x is =
      let counts : busy x ≡ 1 = rw (can_deliver w seat x got x.phase is.fits).0 refl in
      let same = change_owes w x (up_with (result_of_device got)) firm.bios.numbers
      (found_there w b x is.found) in
      omega (arith, same, counts)

-- whatever it answers
pub step_owes : (w : World) (seat : ℕ) (s : Step) → Firm w → Changes w s (step w seat s)
step_owes w seat s firm =
    step_by w seat (Changes w) (record {
      refuses = λ d f. tt;
      goes = λ actor c rest is. go_owes w seat firm actor c rest is.left;
      runs = λ e rest is. let same = event_owes (record w { events = rest }) e in omega (arith, same);
      judges = λ t x j is. let same = judging_owes w x j in omega (arith, same);
      reaps = λ h c is. let same = reaped_owes w c in omega (arith, same);
      washes = λ work is. let same = washed_owes w work in omega (arith, same);
      starts = λ b x way is.
          let same = way_owes w x firm.bios.numbers (found_there w b x is.found) is.down way in
          omega (arith, same);
      takes = λ disk b x is. let same = take_owes w seat firm disk b x is in omega (arith, same);
      delivers = λ b got x is. let same = deliver_owes w seat firm b got x is in omega (arith, same);
      rises = λ b x o is.
          let same = owner_owes w firm x (found_there w b x is.found) is.up o is.owner in omega (arith, same);
    }) s

-- so what is made
pub owed_changes : OwedChanges
owed_changes w seat s after outcome firm made = subst (Changes w s) made (step_owes w seat s firm)
