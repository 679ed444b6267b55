-- The mesh as a state with a log: what its answers are, and what they tell.
use Rattle.std.specs.Prelude.{◌≡◌, ℕ, Bool, true, false, List, length, Option, Some, None, Result, Ok, Err, IsOk, IsTrue}
use Rattle.std.proofs.Common.{refl, sym, ap}
use Rattle.std.proofs.lemmas.Bool.{and_parts, eqb-true}
use Rattle.geo_model.specs.declared.command.Command.{Command}
use Rattle.geo_model.specs.declared.command.Command.TheVariants as commands
use Rattle.geo_model.specs.declared.command.LineCommand.{LineCommand}
use Rattle.geo_model.specs.declared.step.Found.{Found}
use Rattle.geo_model.specs.declared.step.Outcome.{Outcome}
use Rattle.geo_model.specs.declared.step.Outcome.TheVariants as outcomes
use Rattle.geo_model.specs.declared.step.Reply.TheVariants as replies
use Rattle.geo_model.specs.declared.step.Step.{Step}
use Rattle.geo_model.specs.declared.step.Step.TheVariants as steps
use Rattle.geo_model.specs.World.{World}
use Rattle.geo_model.specs.Step.{Answer, step}
use Rattle.geo_model.specs.Log.{is_full, is_full_after}
use Rattle.geo_model.specs.History.{next_command}
use Rattle.geo_model.specs.Laws.{ClosesOk}
use Rattle.geo_moves.specs.Owed.{is_close}
use Rattle.geo_lock.specs.Logged.{lacks_memory}
use Rattle.geo_core.specs.declared.refusal.ApplyRefusal.{ApplyRefusal}
use Rattle.geo_core.specs.declared.refusal.ApplyRefusal.TheVariants as refusals
use Rattle.geo_core.specs.Mesh.{Applies, IsSure, MeshView, world_of}
use Rattle.geo_core.specs.Logged.{AnswersTell, DeliversAreSure, MadeIsAnswered, PassesAreGood, answer_by, answer_of, is_ok_close, is_ok_to, is_sure, is_want}

-- The answer is the function's

-- a log that is full is so before a step that is enabled
full_is_enabled : (n : ℕ) (a : Answer) → IsTrue (is_full_after n a)
    → answer_by a (is_full_after n a) ≡ Err refusals.LogFull
full_is_enabled n (Ok made) full = ap (λ b. answer_by (Ok made) b) full
full_is_enabled n (Err found) full = absurd (let bad : ⊥ = cc in bad)

-- and so is each answer but for want of memory
pub answered : (old new : MeshView) (seat : ℕ) (s : Step) (r : Result Outcome ApplyRefusal) → Applies r old new seat s
    → lacks_memory is_want r ≡ false → r ≡ answer_of old seat s
unfolding answer_of is_full
answered old new seat s (Ok o) made fine = sym (rw (made.had_place, made.does) refl)
answered old new seat s (Err (refusals.NotEnabled found)) made fine = sym (rw made.0 refl)
answered old new seat s (Err refusals.LogFull) made fine =
    sym (full_is_enabled (length old.log) (step (world_of old) seat s) made.0)
answered old new seat s (Err refusals.NoMemory) made fine = absurd (let bad : ⊥ = cc in bad)

-- Steps that take no memory

-- a close has a name
named : (c : Command) → is_close c ≡ true → (name : List ℕ) × (c ≡ commands.Close name)
named (commands.Close name) e = (name, refl)
named _ e = absurd (let bad : ⊥ = cc in bad)

-- an answer of ok to a line
ok_to : (line : ℕ) (a : Answer) → is_ok_to line a ≡ true
    → (after : World) × (a ≡ Ok (after, outcomes.Replied line replies.Ok))
ok_to line (Ok (after, outcomes.Replied to replies.Ok)) e =
    (after, ap (λ n. Ok (after, outcomes.Replied n replies.Ok)) (eqb-true to line e))
ok_to line _ e = absurd (let bad : ⊥ = cc in bad)

-- a Go of a close that is answered ok
closes_ok : (w : World) (seat actor : ℕ) → is_ok_close (next_command w actor) (step w seat (steps.Go actor)) ≡ true
    → ClosesOk w seat actor
closes_ok w seat actor = by (next_command w actor) refl
  where
    by : (o : Option LineCommand) → next_command w actor ≡ o → is_ok_close o (step w seat (steps.Go actor)) ≡ true
        → ClosesOk w seat actor
    by None is e = absurd (let bad : ⊥ = cc in bad)
    by (Some c) is e =
        let parts = and_parts (is_close c.command) (is_ok_to c.line (step w seat (steps.Go actor))) e in
        let name = named c.command parts.0 in
        let ok = ok_to c.line (step w seat (steps.Go actor)) parts.1 in
        record { command = c; is_next = is; name = name.0; is_close = name.1; after = ok.0; is_ok = ok.1 }

-- what passes the test is a step that is never refused
sure_is : (w : World) (seat : ℕ) (s : Step) → is_sure w seat s ≡ true → IsSure w seat s
unfolding is_sure
sure_is w seat (steps.Deliver bio got) e = e
sure_is w seat (steps.Go actor) e = closes_ok w seat actor e
sure_is w seat s e = absurd (let bad : ⊥ = cc in bad)

-- so it isn't refused for want of memory
pub takes_no_memory : (w : World) (seat : ℕ) (s : Step) (r : Result Outcome ApplyRefusal) → (IsSure w seat s → IsOk r)
    → is_sure w seat s ≡ true → lacks_memory is_want r ≡ false
takes_no_memory w seat s (Ok o) ok e = refl
takes_no_memory w seat s (Err refusal) ok e =
    absurd (let bad = ok (sure_is w seat s e) in (let wrong : ⊥ = cc in wrong))

-- What an answer tells

-- by the model's answer, and whether the log is full
told_made : (a : Answer) (full : Bool) (o : Outcome) → Ok o ≡ answer_by a full
    → (after : World) × (a ≡ Ok (after, o)) × (full ≡ false)
told_made (Ok made) false o e =
    let same : made.1 ≡ o = cc in (made.0, ap (λ n. Ok (made.0, n)) same, refl)
told_made _ _ o e = absurd (let bad : ⊥ = cc in bad)

told_found : (a : Answer) (full : Bool) (found : Found) → Err (refusals.NotEnabled found) ≡ answer_by a full
    → a ≡ Err found
told_found (Ok made) false found e = absurd (let bad : ⊥ = cc in bad)
told_found (Ok made) true found e = absurd (let bad : ⊥ = cc in bad)
told_found (Err other) full found e = let same : other ≡ found = cc in ap (λ f. Err f) same

told_full : (a : Answer) (full : Bool) → Err refusals.LogFull ≡ answer_by a full → full ≡ true
told_full (Ok made) true e = refl
told_full _ _ e = absurd (let bad : ⊥ = cc in bad)

told_other : (a : Answer) (full : Bool) → Err refusals.NoMemory ≡ answer_by a full → ⊥
told_other (Ok made) false e = let bad : ⊥ = cc in bad
told_other (Ok made) true e = let bad : ⊥ = cc in bad
told_other (Err found) full e = let bad : ⊥ = cc in bad

-- what an answer tells of the step
pub answers_tell : AnswersTell
unfolding answer_of
answers_tell = record {
  made = λ m seat s o e. told_made (step (world_of m) seat s) (is_full m.log (world_of m) seat s) o e;
  not_enabled = λ m seat s found e. told_found (step (world_of m) seat s) (is_full m.log (world_of m) seat s) found e;
  full = λ m seat s e. told_full (step (world_of m) seat s) (is_full m.log (world_of m) seat s) e;
  not_for_memory = λ m seat s e. told_other (step (world_of m) seat s) (is_full m.log (world_of m) seat s) e;
}

-- a step that is enabled and has its place is answered with its outcome
pub made_is_answered : MadeIsAnswered
unfolding answer_of
made_is_answered m seat s after o does place = rw (place, does) refl

-- an enabled Deliver takes no memory
pub delivers_are_sure : DeliversAreSure
unfolding is_sure
delivers_are_sure w seat bio got enabled = enabled

-- Passes

-- a pass that is good in a log is a good pass of the model
pub passes_are_good : PassesAreGood
passes_are_good p log good = record {
  prefix = (good.seen.0, sym good.seen.1);
  own_entries = sym good.own;
  all_seen = sym good.own_seen;
}
