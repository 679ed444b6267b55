-- What is shown of each step that is made holds of each step.
use Rattle.std.specs.Prelude.{◌≡◌, ℕ, Bool, true, false, List, [], ◌∷◌, slice_get, Option, Some, None, Ok, Err, is_some, if◌then◌else◌}
use Rattle.std.specs.Option.{option_map_or}
use Rattle.std.proofs.Common.{refl, sym, subst}
use Rattle.geo_base.proofs.Options.{none_of}
use Rattle.geo_model.specs.declared.command.LineCommand.{LineCommand}
use Rattle.geo_model.specs.declared.step.DeviceResult.{DeviceResult}
use Rattle.geo_model.specs.declared.step.Event.{Event}
use Rattle.geo_model.specs.declared.step.Found.{Found}
use Rattle.geo_model.specs.declared.step.Found.TheVariants as found
use Rattle.geo_model.specs.declared.step.Outcome.{Outcome}
use Rattle.geo_model.specs.declared.step.Outcome.TheVariants as outcomes
use Rattle.geo_model.specs.declared.step.Step.{Step}
use Rattle.geo_model.specs.declared.step.Step.TheVariants as steps
use Rattle.geo_model.specs.declared.step.WashWork.{WashWork}
use Rattle.geo_model.specs.World.{World, Handle, Bio, Taste, granted_in, bio_at, is_read_out, is_down, is_up}
use Rattle.geo_model.specs.Bios.{way_of, start, take_bio, deliver, up}
use Rattle.geo_model.specs.WorldEvents.{queued_of}
use Rattle.geo_model.specs.Tasting.{Judging, taste_step, judge_step}
use Rattle.geo_model.specs.Freeing.{reap_work, reap, wash_work, wash}
use Rattle.geo_model.specs.Commands.{do_command}
use Rattle.geo_model.specs.Step.{Answer, unless_found, waits_for, with_commands, go_of, go, event_of, event, taste_bio, judge_of, judge_next, reap_next, wash_next, start_of, take_found, take_of, deliver_found, deliver_of, up_of, step}
use Rattle.geo_model.specs.StepEffects.{OfEachStep}
use Rattle.geo_model.proofs.WayLemmas.{starts_in_parts}

module _ (w : World) (seat : ℕ) (P : Step → Answer → Type 0) (each : OfEachStep w seat P) where
  -- one of two answers
  either : (s : Step) (b : Bool) (x y : Answer) → (b ≡ true → P s x) → (b ≡ false → P s y) → P s (if b then x else y)
  either s true x y one two = one refl
  either s false x y one two = two refl

  -- unless something is against it
  unless : (s : Step) (o : Option Found) (made : World × Outcome) → (o ≡ None → P s (Ok made))
      → P s (unless_found o made)
  unless s None made does = does refl
  unless s (Some f) made does = each.refuses s f

  -- a Go, by the commands that are left
  gone : (actor : ℕ) (o : Option (List LineCommand)) → slice_get w.actors actor ≡ o
      → P (steps.Go actor) (go_of w actor o)
  gone actor None left = each.refuses (steps.Go actor) found.NoSuchActor
  gone actor (Some []) left = each.refuses (steps.Go actor) found.NoCommand
  gone actor (Some (c ∷ rest)) left =
      unless (steps.Go actor) (waits_for w actor c.command)
      (do_command (with_commands w actor rest) c.line actor c.command)
      (λ ready. each.goes actor c rest (record { left = left; ready = ready }))

  -- an Event, by the queue
  queued : w.taste ≡ None → (es : List Event) → w.events ≡ es → P steps.Event (event_of w es)
  queued idle [] is = each.refuses steps.Event found.QueueEmpty
  queued idle (e ∷ rest) is = each.runs e rest (record { idle = idle; queue = is })

  -- a step of a taste of which no read is out
  judged : (s : Taste) → w.taste ≡ Some s → is_read_out s.asked ≡ false → P steps.Judge (Ok (judge_step w s))
  unfolding judge_step
  judged s is back =
      let x : Judging = taste_step (granted_in w) (queued_of w) s in
      each.judges s x x.judged (record { taste = is; back = back; step = refl; judged = refl })

  -- a Judge, by the taste
  tasted : (o : Option Taste) → w.taste ≡ o → P steps.Judge (judge_of w o)
  tasted None is = each.refuses steps.Judge found.NoTaste
  tasted (Some s) is =
      either steps.Judge (is_read_out s.asked) (Err (found.ReadOut (taste_bio w))) (Ok (judge_step w s))
      (λ out. each.refuses steps.Judge (found.ReadOut (taste_bio w))) (λ back. judged s is back)

  -- a Reap, by the handle
  reaped : (o : Option Handle) → reap_work w ≡ o
      → P steps.Reap (option_map_or (λ h. Ok (reap w h, outcomes.Ran)) o (Err found.NothingToReap))
  unfolding reap
  reaped None is = each.refuses steps.Reap found.NothingToReap
  reaped (Some h) is = each.reaps h h.consumer (record { work = is; names = refl })

  -- a Wash, by the work
  washed_by : (o : Option WashWork) → wash_work w ≡ o
      → P steps.Wash (option_map_or (λ work. Ok (wash w work, outcomes.Ran)) o (Err found.NothingToWash))
  unfolding wash
  washed_by None is = each.refuses steps.Wash found.NothingToWash
  washed_by (Some work) is = each.washes work is

  -- a Start, by the bio
  started : (b : ℕ) (o : Option Bio) → bio_at w b ≡ o → P (steps.Start b) (start_of w o)
  started b None is = each.refuses (steps.Start b) found.NoSuchBio
  started b (Some x) is =
      either (steps.Start b) (is_down x.phase) (Ok (start w x)) (Err (found.InPhase x.phase))
      (λ down. subst (λ (made : World × Outcome). P (steps.Start b) (Ok made)) (sym (starts_in_parts w x))
      (each.starts b x (way_of w.topology x) (record { found = is; down = down; goes = refl })))
      (λ other. each.refuses (steps.Start b) (found.InPhase x.phase))

  -- a Take, by the bio
  taken : (disk b : ℕ) (o : Option Bio) → bio_at w b ≡ o → P (steps.Take disk b) (take_of w seat disk o)
  unfolding take_bio
  taken disk b None is = each.refuses (steps.Take disk b) found.NoSuchBio
  taken disk b (Some x) is =
      unless (steps.Take disk b) (take_found w disk x) (take_bio w seat disk x)
      (λ free. each.takes disk b x (record { found = is; free = free }))

  -- a Deliver, by the bio
  delivered : (b : ℕ) (got : DeviceResult) (o : Option Bio) → bio_at w b ≡ o
      → P (steps.Deliver b got) (deliver_of w seat got o)
  unfolding deliver
  delivered b got None is = each.refuses (steps.Deliver b got) found.NoSuchBio
  delivered b got (Some x) is =
      unless (steps.Deliver b got) (deliver_found w seat x got x.phase) (deliver w x got)
      (λ fits. each.delivers b got x (record { found = is; fits = fits }))

  -- an Up, by the bio
  risen : (b : ℕ) (o : Option Bio) → bio_at w b ≡ o → P (steps.Up b) (up_of w o)
  unfolding up
  risen b None is = each.refuses (steps.Up b) found.NoSuchBio
  risen b (Some x) is =
      either (steps.Up b) (is_up x.phase) (Ok (up w x)) (Err (found.InPhase x.phase))
      (λ rises. each.rises b x x.owner (record { found = is; up = rises; owner = refl }))
      (λ other. each.refuses (steps.Up b) (found.InPhase x.phase))

  -- each step
  pub step_by : (s : Step) → P s (step w seat s)
  unfolding step go event judge_next reap_next wash_next
  step_by (steps.Go actor) = gone actor (slice_get w.actors actor) refl
  step_by steps.Event =
      either steps.Event (is_some w.taste) (Err found.TasteUnderWay) (event_of w w.events)
      (λ tasting. each.refuses steps.Event found.TasteUnderWay) (λ idle. queued (none_of w.taste idle) w.events refl)
  step_by steps.Judge = tasted w.taste refl
  step_by steps.Reap = reaped (reap_work w) refl
  step_by steps.Wash = washed_by (wash_work w) refl
  step_by (steps.Start b) = started b (bio_at w b) refl
  step_by (steps.Take disk b) = taken disk b (bio_at w b) refl
  step_by (steps.Deliver b got) = delivered b got (bio_at w b) refl
  step_by (steps.Up b) = risen b (bio_at w b) refl
