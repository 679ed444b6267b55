-- A step that is enabled is so with one more command left, with the same outcome.
use Rattle.std.specs.Prelude.{◌≡◌, ℕ, true, false, Bool, List, [], ◌∷◌, ◌++◌, filter, ◌==◌, Option, Some, None, Ok, Err, is_some, slice_get, if◌then◌else◌}
use Rattle.std.specs.Option.{option_map_or}
use Rattle.std.proofs.Common.{refl, ap, ◌∙◌}
use Rattle.geo_model.specs.declared.command.Command.{Command}
use Rattle.geo_model.specs.declared.command.Command.TheVariants as commands
use Rattle.geo_model.specs.declared.command.LineCommand.{LineCommand}
use Rattle.geo_model.specs.declared.step.DeviceResult.{DeviceResult}
use Rattle.geo_model.specs.declared.step.Event.{Event}
use Rattle.geo_model.specs.declared.step.Found.TheVariants as found
use Rattle.geo_model.specs.declared.step.Outcome.{Outcome}
use Rattle.geo_model.specs.declared.step.Outcome.TheVariants as outcomes
use Rattle.geo_model.specs.declared.step.Step.{Step}
use Rattle.geo_model.specs.declared.step.Step.TheVariants as steps
use Rattle.geo_model.specs.World.{World, Bio, Handle, Taste, bio_at, is_down, is_read_out, is_up}
use Rattle.geo_model.specs.Bios.{start, take_bio, deliver, up}
use Rattle.geo_model.specs.Commands.{do_command}
use Rattle.geo_model.specs.Freeing.{reap, reap_work, wash, wash_work}
use Rattle.geo_model.specs.declared.step.WashWork.{WashWork}
use Rattle.geo_model.specs.Step.{Answer, taste_bio, deliver_found, deliver_of, event, event_of, go, go_of, judge_next, judge_of, reap_next, start_of, step, take_found, take_of, unless_found, up_of, waits_for, wash_next, with_commands}
use Rattle.geo_model.specs.Tasting.{judge_step}
use Rattle.geo_session.specs.Growth.{more_left, with_command}
use Rattle.geo_session.proofs.Others.{Lists, other, other_answer, unless_other, event_other, judge_other, reap_other, wash_other, start_other, take_other, deliver_other, up_other}
use Rattle.geo_session.proofs.Commands.{command_other}
use Rattle.geo_session.proofs.Lists.{get_more, set_more}

-- whether a step is a Go
abbrev pub is_go : Step → Bool
is_go (steps.Go actor) = true
is_go s = false

module _ (f : Lists → Lists) where
  -- a choice between answers
  chosen_answer : (b : Bool) (x y : Answer)
      → (if b then other_answer f x else other_answer f y) ≡ other_answer f (if b then x else y)
  chosen_answer true x y = refl
  chosen_answer false x y = refl

  events : (w : World) (es : List Event) → event_of (other f w) es ≡ other_answer f (event_of w es)
  events w [] = refl
  events w (e ∷ rest) = ap (λ u. Ok (u, outcomes.Ran)) (event_other f (record w { events = rest }) e)

  event_step : (w : World) → event (other f w) ≡ other_answer f (event w)
  unfolding event
  event_step w =
      ap (λ a. if is_some w.taste then Err found.TasteUnderWay else a) (events w w.events)
      ∙ chosen_answer (is_some w.taste) (Err found.TasteUnderWay) (event_of w w.events)

  judges : (w : World) (o : Option Taste) → judge_of (other f w) o ≡ other_answer f (judge_of w o)
  judges w None = refl
  judges w (Some s) =
      ap (λ made. if is_read_out s.asked then Err (found.ReadOut (taste_bio w)) else Ok made) (judge_other f w s)
      ∙ chosen_answer (is_read_out s.asked) (Err (found.ReadOut (taste_bio w))) (Ok (judge_step w s))

  judge_made : (w : World) → judge_next (other f w) ≡ other_answer f (judge_next w)
  unfolding judge_next
  judge_made w = judges w w.taste

  reaps : (w : World) (o : Option Handle)
      → option_map_or (λ h. Ok (reap (other f w) h, outcomes.Ran)) o (Err found.NothingToReap)
      ≡ other_answer f (option_map_or (λ h. Ok (reap w h, outcomes.Ran)) o (Err found.NothingToReap))
  reaps w None = refl
  reaps w (Some h) = ap (λ u. Ok (u, outcomes.Ran)) (reap_other f w h)

  reap_step : (w : World) → reap_next (other f w) ≡ other_answer f (reap_next w)
  unfolding reap_next
  reap_step w = reaps w (reap_work w)

  washes : (w : World) (o : Option WashWork)
      → option_map_or (λ work. Ok (wash (other f w) work, outcomes.Ran)) o (Err found.NothingToWash)
      ≡ other_answer f (option_map_or (λ work. Ok (wash w work, outcomes.Ran)) o (Err found.NothingToWash))
  washes w None = refl
  washes w (Some work) = ap (λ u. Ok (u, outcomes.Ran)) (wash_other f w work)

  wash_step : (w : World) → wash_next (other f w) ≡ other_answer f (wash_next w)
  unfolding wash_next wash_work
  wash_step w = washes w (wash_work w)

  starts : (w : World) (o : Option Bio) → start_of (other f w) o ≡ other_answer f (start_of w o)
  starts w None = refl
  starts w (Some x) =
      ap (λ made. if is_down x.phase then Ok made else Err (found.InPhase x.phase)) (start_other f w x)
      ∙ chosen_answer (is_down x.phase) (Ok (start w x)) (Err (found.InPhase x.phase))

  takes : (w : World) (seat disk : ℕ) (o : Option Bio)
      → take_of (other f w) seat disk o ≡ other_answer f (take_of w seat disk o)
  takes w seat disk None = refl
  takes w seat disk (Some x) =
      ap (λ made. unless_found (take_found w disk x) made) (take_other f w seat disk x)
      ∙ unless_other f (take_found w disk x) (take_bio w seat disk x)

  delivers : (w : World) (seat : ℕ) (got : DeviceResult) (o : Option Bio)
      → deliver_of (other f w) seat got o ≡ other_answer f (deliver_of w seat got o)
  delivers w seat got None = refl
  delivers w seat got (Some x) =
      ap (λ made. unless_found (deliver_found w seat x got x.phase) made) (deliver_other f w x got)
      ∙ unless_other f (deliver_found w seat x got x.phase) (deliver w x got)

  ups : (w : World) (o : Option Bio) → up_of (other f w) o ≡ other_answer f (up_of w o)
  ups w None = refl
  ups w (Some x) =
      ap (λ made. if is_up x.phase then Ok made else Err (found.InPhase x.phase)) (up_other f w x)
      ∙ chosen_answer (is_up x.phase) (Ok (up w x)) (Err (found.InPhase x.phase))

  same_wait : (w : World) (actor : ℕ) (c : Command) → waits_for (other f w) actor c ≡ waits_for w actor c
  unfolding wash_work
  same_wait w actor (commands.Open name prov grant) = refl
  same_wait w actor (commands.Close name) = refl
  same_wait w actor (commands.Read name offset len) = refl
  same_wait w actor (commands.Write name offset bytes) = refl
  same_wait w actor (commands.Delete name offset len) = refl
  same_wait w actor (commands.Flush name) = refl
  same_wait w actor commands.Sync = refl
  same_wait w actor commands.Settle = refl
  same_wait w actor (commands.Insert disk) = refl
  same_wait w actor (commands.Pull disk) = refl
  same_wait w actor (commands.Nop prov offset size fail) = refl
  same_wait w actor (commands.Concat name provs) = refl
  same_wait w actor (commands.Stripe name stripe provs) = refl
  same_wait w actor (commands.Append name prov) = refl
  same_wait w actor (commands.Destroy kind name) = refl
  same_wait w actor (commands.Label name label) = refl
  same_wait w actor (commands.Relabel name label) = refl
  same_wait w actor (commands.MarkConcat name label id place count) = refl
  same_wait w actor (commands.MarkStripe name label id place count stripe) = refl
  same_wait w actor commands.Mesh = refl

  -- each step but a Go
  pub step_other : (w : World) (seat : ℕ) (s : Step) → is_go s ≡ false
      → step (other f w) seat s ≡ other_answer f (step w seat s)
  unfolding step
  step_other w seat (steps.Go actor) e = absurd (let no : ⊥ = cc in no)
  step_other w seat steps.Event e = event_step w
  step_other w seat steps.Judge e = judge_made w
  step_other w seat steps.Reap e = reap_step w
  step_other w seat steps.Wash e = wash_step w
  step_other w seat (steps.Start b) e = starts w (bio_at w b)
  step_other w seat (steps.Take disk b) e = takes w seat disk (bio_at w b)
  step_other w seat (steps.Deliver b got) e = delivers w seat got (bio_at w b)
  step_other w seat (steps.Up b) e = ups w (bio_at w b)

-- the actor's next command
module _ (c : LineCommand) (w : World) (actor : ℕ) {after : World} {o : Outcome} where
  go_by : (x : LineCommand) (rest : List LineCommand) → slice_get w.actors actor ≡ Some (x ∷ rest)
      → go_of w actor (Some (x ∷ rest)) ≡ Ok (after, o) → go (with_command c w) actor ≡ Ok (with_command c after, o)
  unfolding go
  go_by x rest here does =
      let more : List LineCommand = rest ++ filter (λ y. y.actor == actor) (c ∷ []) in
      let left : World = with_commands w actor rest in
      ap (λ l. go_of (with_command c w) actor l) (get_more c w.actors actor (x ∷ rest) here)
      ∙ ap (λ e. unless_found e (do_command (with_commands (with_command c w) actor more) x.line actor x.command))
      (same_wait (more_left c) w actor x.command)
      ∙ ap (λ lists. unless_found (waits_for w actor x.command)
      (do_command (record w { actors = lists }) x.line actor x.command)) (set_more c w.actors actor rest)
      ∙ ap (λ made. unless_found (waits_for w actor x.command) made)
      (command_other (more_left c) left x.line actor x.command)
      ∙ unless_other (more_left c) (waits_for w actor x.command) (do_command left x.line actor x.command)
      ∙ ap (λ a. other_answer (more_left c) a) does

  go_at : (l : Option (List LineCommand)) → slice_get w.actors actor ≡ l → go_of w actor l ≡ Ok (after, o)
      → go (with_command c w) actor ≡ Ok (with_command c after, o)
  go_at None here does = absurd (let no : ⊥ = cc in no)
  go_at (Some []) here does = absurd (let no : ⊥ = cc in no)
  go_at (Some (x ∷ rest)) here does = go_by x rest here does

  pub go_more : go w actor ≡ Ok (after, o) → go (with_command c w) actor ≡ Ok (with_command c after, o)
  unfolding go
  go_more does = go_at (slice_get w.actors actor) refl does

-- each step
pub step_more : (c : LineCommand) (w : World) (seat : ℕ) (s : Step) (after : World) (o : Outcome)
    → step w seat s ≡ Ok (after, o) → step (with_command c w) seat s ≡ Ok (with_command c after, o)
unfolding step
step_more c w seat (steps.Go actor) after o does = go_more c w actor does
step_more c w seat s after o does =
    step_other (more_left c) w seat s refl ∙ ap (λ a. other_answer (more_left c) a) does
