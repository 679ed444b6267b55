-- Why an actor's next command isn't enabled.
use Rattle.std.specs.Prelude.{◌≡◌, ℕ, Bool, true, false, List, [], ◌∷◌, Option, Some, None, Err, IsSomeAnd, option_and_then, option_map, slice_get, if◌then◌else◌}
use Rattle.std.proofs.Common.{ap, refl, subst}
use Rattle.geo_model.specs.declared.command.Command.{Command}
use Rattle.geo_model.specs.declared.command.Command.TheVariants as commands
use Rattle.geo_model.specs.declared.command.LineCommand.{LineCommand}
use Rattle.geo_model.specs.declared.step.Found.{Found}
use Rattle.geo_model.specs.declared.step.Found.TheVariants as founds
use Rattle.geo_model.specs.declared.step.Outcome.{Outcome}
use Rattle.geo_model.specs.declared.step.Step.TheVariants as steps
use Rattle.geo_model.specs.World.{World, Bio}
use Rattle.geo_model.specs.Commands.{do_command}
use Rattle.geo_model.specs.FixedOrder.{HasFinished, IsWait}
use Rattle.geo_model.specs.History.{first_command}
use Rattle.geo_model.specs.Log.{replay}
use Rattle.geo_model.specs.Step.{go, go_of, is_unsettled, own_bio, step, unless_found, waits_for, with_commands}
use Rattle.geo_jobs.specs.Passes.{Goes, MeshPass}
use Rattle.geo_jobs.specs.Clients.{IsWaiting, is_end}
use Rattle.geo_jobs.proofs.Joining.{was_idle}

-- a command that isn't enabled waits, and what is found isn't that none is left
record HoldsBack (c : Command) (found : Found) : Type 0 where
  waits : IsWait c
  goes_on : is_end found ≡ false

held_back : (o : Option Found) (after : World × Outcome) (found : Found) → unless_found o after ≡ Err found
    → o ≡ Some found
held_back None after found is = absurd (let bad : ⊥ = cc in bad)
held_back (Some f) after found is = let same : f ≡ found = cc in ap (λ (x : Found). Some x) same

own_bio_out : (o : Option Bio) (found : Found) → option_map (λ (x : Bio). founds.OwnBiosOut x.number) o ≡ Some found
    → is_end found ≡ false
own_bio_out None found is = absurd (let bad : ⊥ = cc in bad)
own_bio_out (Some x) found is =
    let same : founds.OwnBiosOut x.number ≡ found = cc in subst (λ (f : Found). is_end f ≡ false) same refl

unsettled : (b : Bool) (found : Found) → (if b then Some founds.Unsettled else None) ≡ Some found
    → is_end found ≡ false
unsettled true found is = let same : founds.Unsettled ≡ found = cc in
    subst (λ (f : Found). is_end f ≡ false) same refl
unsettled false found is = absurd (let bad : ⊥ = cc in bad)

holds_back : (w : World) (actor : ℕ) (c : Command) (after : World × Outcome) (found : Found)
    → unless_found (waits_for w actor c) after ≡ Err found → HoldsBack c found
holds_back w actor commands.Sync after found is = record {
  waits = tt;
  goes_on = own_bio_out (own_bio w actor) found (held_back (waits_for w actor commands.Sync) after found is);
}
holds_back w actor commands.Settle after found is = record {
  waits = tt;
  goes_on = unsettled (is_unsettled w) found (held_back (waits_for w actor commands.Settle) after found is);
}
holds_back w actor _ after found is = absurd (let bad : ⊥ = cc in bad)

-- what the commands that an actor has left tell of what was found
record FindsNext (left : Option (List LineCommand)) (found : Found) : Type 0 where
  none_left : is_end found ≡ true → option_and_then first_command left ≡ None
  one_waits : is_end found ≡ false
      → IsSomeAnd (option_and_then first_command left) (λ (c : LineCommand). IsWait c.command)

both : (b : Bool) → b ≡ true → b ≡ false → ⊥
both b is isnt = let bad : ⊥ = cc in bad

finds_end : (left : Option (List LineCommand)) (told found : Found) → told ≡ found → is_end told ≡ true
    → option_and_then first_command left ≡ None → FindsNext left found
finds_end left told found same is none = record {
  none_left = λ _. none;
  one_waits = λ isnt. absurd (both (is_end found) (subst (λ (f : Found). is_end f ≡ true) same is) isnt);
}

finds_next : (w : World) (actor : ℕ) (left : Option (List LineCommand)) (found : Found)
    → go_of w actor left ≡ Err found → FindsNext left found
finds_next w actor None found is =
    let same : founds.NoSuchActor ≡ found = cc in finds_end None founds.NoSuchActor found same refl refl
finds_next w actor (Some []) found is =
    let same : founds.NoCommand ≡ found = cc in finds_end (Some []) founds.NoCommand found same refl refl
finds_next w actor (Some (c ∷ rest)) found is =
    let held : HoldsBack c.command found =
    holds_back w actor c.command (do_command (with_commands w actor rest) c.line actor c.command) found is in
    record { none_left = λ end. absurd (both (is_end found) end held.goes_on); one_waits = λ _. held.waits }

next_found : (w : World) (seat actor : ℕ) (found : Found) → step w seat (steps.Go actor) ≡ Err found
    → FindsNext (slice_get w.actors actor) found
unfolding step go
next_found w seat actor found is = finds_next w actor (slice_get w.actors actor) found is

-- a client whose actor has no command left, and one whose next command waits
pub has_finished : (opened : World) (q : MeshPass) (seat actor : ℕ) (found : Found)
    → step (replay opened q.seen) seat (steps.Go actor) ≡ Err found → is_end found ≡ true
    → HasFinished opened q.seen actor
has_finished opened q seat actor found is end =
    (next_found (replay opened q.seen) seat actor found is).none_left end

pub is_waiting : (opened : World) (p q : MeshPass) (actor : ℕ) (found : Found) → Goes p q []
    → step (replay opened q.seen) p.number (steps.Go actor) ≡ Err found → is_end found ≡ false
    → IsWaiting opened q actor
is_waiting opened p q actor found goes is goes_on = record {
  was_idle = was_idle opened p q (steps.Go actor) found goes is;
  waits = (next_found (replay opened q.seen) p.number actor found is).one_waits goes_on;
}
