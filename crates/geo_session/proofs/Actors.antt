-- There are as many actors after each step as before.
use Rattle.std.specs.Prelude.{◌≡◌, ℕ, zero, suc, List, [], ◌∷◌, length, Option, Some, None, Ok, Err, slice_get, slice_set}
use Rattle.std.proofs.Common.{refl, ap, sym, ◌∙◌}
use Rattle.std.proofs.lemmas.List.FromFn.{length-map-range_with_len}
use Rattle.geo_model.specs.declared.command.LineCommand.{LineCommand}
use Rattle.geo_model.specs.declared.step.Entry.{Entry}
use Rattle.geo_model.specs.declared.step.Found.{Found}
use Rattle.geo_model.specs.declared.step.Outcome.{Outcome}
use Rattle.geo_model.specs.declared.step.Step.{Step}
use Rattle.geo_model.specs.declared.step.Step.TheVariants as steps
use Rattle.geo_model.specs.World.{World, Plan, commands_of}
use Rattle.geo_model.specs.Commands.{do_command}
use Rattle.geo_model.specs.Log.{after_entry, replay, world_after}
use Rattle.geo_model.specs.Opening.{opening}
use Rattle.geo_model.specs.Step.{Answer, go, go_of, step, unless_found, waits_for, with_commands}
use Rattle.geo_moves.proofs.Openings.{opening_actors}
use Rattle.geo_session.proofs.Commands.{command_other}
use Rattle.geo_session.proofs.Others.{other_answer}
use Rattle.geo_session.proofs.Steps.{step_other}

-- a list in which one item is another is as long
slots_stay : {X : Type 0} (xs : List X) (k : ℕ) (x : X) → length (slice_set xs k x) ≡ length xs
slots_stay [] k x = refl
slots_stay (y ∷ ys) zero x = refl
slots_stay (y ∷ ys) (suc k) x = ap (λ n. suc n) (slots_stay ys k x)

module _ (w : World) (actor : ℕ) {after : World} {o : Outcome} where
  -- a command changes what no actor has left
  after_command : (x : LineCommand) (rest : List LineCommand) (f : Option Found)
      → unless_found f (do_command (with_commands w actor rest) x.line actor x.command) ≡ Ok (after, o)
      → length after.actors ≡ length w.actors
  after_command x rest None does =
      let v : World = with_commands w actor rest in
      sym (ap (λ (a : Answer). length (world_after w a).actors) does)
      ∙ ap (λ (made : World × Outcome). length (made.0).actors)
      (command_other (λ lists. v.actors) v x.line actor x.command)
      ∙ slots_stay w.actors actor rest
  after_command x rest (Some f) does = absurd (let no : ⊥ = cc in no)

  after_go : (l : Option (List LineCommand)) → go_of w actor l ≡ Ok (after, o) → length after.actors ≡ length w.actors
  after_go None does = absurd (let no : ⊥ = cc in no)
  after_go (Some []) does = absurd (let no : ⊥ = cc in no)
  after_go (Some (x ∷ rest)) does = after_command x rest (waits_for w actor x.command) does

-- each step
pub actors_stay : (w : World) (seat : ℕ) (s : Step) (after : World) (o : Outcome) → step w seat s ≡ Ok (after, o)
    → length after.actors ≡ length w.actors
unfolding step go
actors_stay w seat (steps.Go actor) after o does = after_go w actor (slice_get w.actors actor) does
actors_stay w seat s after o does =
    ap (λ (a : Answer). length (world_after w a).actors)
    (sym does ∙ step_other (λ lists. w.actors) w seat s refl ∙ ap (λ a. other_answer (λ lists. w.actors) a) does)

after_stays : (w : World) (e : Entry) (a : Answer) → step w e.seat e.step ≡ a
    → length (world_after w a).actors ≡ length w.actors
after_stays w e (Ok made) is = actors_stay w e.seat e.step made.0 made.1 is
after_stays w e (Err f) is = refl

replay_stays : (w : World) (log : List Entry) → length (replay w log).actors ≡ length w.actors
replay_stays w [] = refl
replay_stays w (e ∷ log) = replay_stays (after_entry w e) log ∙ after_stays w e (step w e.seat e.step) refl

-- a log leads to as many actors as the plan names
pub actors_of_plan : (plan : Plan) (facts : List (ℕ × ℕ)) (log : List Entry)
    → length (replay (opening plan facts) log).actors ≡ length plan.actors
actors_of_plan plan facts log =
    replay_stays (opening plan facts) log
    ∙ ap (λ (lists : List (List LineCommand)). length lists) (opening_actors plan facts)
    ∙ length-map-range_with_len (commands_of plan) 0 (length plan.actors)
