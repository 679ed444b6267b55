-- An open is answered by what the mesh forbids.
use Rattle.std.specs.Prelude.{◌≡◌, ℕ, false, List, [], ◌∷◌, Option, Some, None, Ok, is_some, option_and_then, slice_get}
use Rattle.std.proofs.Common.{refl, sym, ◌∙◌, ap}
use Rattle.geo_base.specs.declared.request.Counts.{Counts}
use Rattle.geo_base.specs.declared.errno.Errno.{Errno}
use Rattle.geo_model.specs.declared.command.Command.TheVariants as commands
use Rattle.geo_model.specs.declared.command.LineCommand.{LineCommand}
use Rattle.geo_model.specs.declared.step.Entry.{Entry}
use Rattle.geo_model.specs.declared.step.Outcome.{Outcome}
use Rattle.geo_model.specs.declared.step.Outcome.TheVariants as outcomes
use Rattle.geo_model.specs.Topology.{find_provider}
use Rattle.geo_model.specs.Opens.{open_refusal}
use Rattle.geo_model.specs.World.{World, granted_in, handle_of}
use Rattle.geo_model.specs.HandleCommands.{open_answered, do_open}
use Rattle.geo_model.specs.Commands.{do_command}
use Rattle.geo_model.specs.Step.{Answer, with_commands, go_of, go, step}
use Rattle.geo_model.specs.History.{first_command, reply_of_refusal, AnswersOpen}
use Rattle.geo_laws_handles.specs.FactLaws.{OpensAreAnsweredRight}

-- by what refuses it
answers-by : (w : World) (line actor : ℕ) (name : List ℕ) (grant : Counts) (o : Option ℕ) (e : Option Errno)
    → (open_answered w line actor name o grant e).1 ≡ outcomes.Replied line (reply_of_refusal e)
answers-by w line actor name grant None None = refl
answers-by w line actor name grant None (Some e) = refl
answers-by w line actor name grant (Some p) None = refl
answers-by w line actor name grant (Some p) (Some e) = refl

-- an open under a free name
answers : (w : World) (line actor : ℕ) (name prov : List ℕ) (grant : Counts) → handle_of w actor name ≡ None
    → (do_open w line actor name prov grant).1
    ≡ outcomes.Replied line (reply_of_refusal (open_refusal (granted_in w) w.topology prov grant))
answers w line actor name prov grant free =
    let none : is_some (handle_of w actor name) ≡ false = ap (λ o. is_some o) free in
    rw none (answers-by w line actor name grant (find_provider w.topology prov)
    (open_refusal (granted_in w) w.topology prov grant))

-- an answer that is ok
abbrev okay : World × Outcome → Answer
okay made = Ok made

-- what is made by an answer that is ok
made-is : (m n : World × Outcome) → okay m ≡ okay n → m.1 ≡ n.1
made-is m n e = let same : m ≡ n = cc in ap (λ (x : World × Outcome). x.1) same

-- what the next command makes, where it is an open
open-made : (w : World) (actor : ℕ) (x : LineCommand) (rest : List LineCommand) (name prov : List ℕ)
    (grant : Counts)
    → x.command ≡ commands.Open name prov grant
    → okay (do_open (with_commands w actor rest) x.line actor name prov grant)
    ≡ go_of w actor (Some (x ∷ rest))
unfolding do_command
open-made w actor x rest name prov grant opens = rw opens refl

-- the step of an open, by the commands that are left
answers-left : (w after : World) (e : Entry) (actor : ℕ) (c : LineCommand) (name prov : List ℕ) (grant : Counts)
    → (o : Option (List LineCommand)) → option_and_then first_command o ≡ Some c
    → c.command ≡ commands.Open name prov grant → handle_of w actor name ≡ None
    → go_of w actor o ≡ Ok (after, e.outcome)
    → e.outcome ≡ outcomes.Replied c.line (reply_of_refusal (open_refusal (granted_in w) w.topology prov grant))
answers-left w after e actor c name prov grant None next of free made = absurd (let bad : ⊥ = cc in bad)
answers-left w after e actor c name prov grant (Some []) next of free made = absurd (let bad : ⊥ = cc in bad)
answers-left w after e actor c name prov grant (Some (x ∷ rest)) next of free made =
    let one : x ≡ c = cc in
    let opens : x.command ≡ commands.Open name prov grant = ap (λ (y : LineCommand). y.command) one ∙ of in
    let line : x.line ≡ c.line = ap (λ (y : LineCommand). y.line) one in
    let go : okay (do_open (with_commands w actor rest) x.line actor name prov grant)
    ≡ okay (after, e.outcome) = open-made w actor x rest name prov grant opens ∙ made in
    sym (made-is (do_open (with_commands w actor rest) x.line actor name prov grant) (after, e.outcome) go)
    ∙ answers (with_commands w actor rest) x.line actor name prov grant free
    ∙ ap (λ l. outcomes.Replied l (reply_of_refusal (open_refusal (granted_in w) w.topology prov grant))) line

-- the step of an open
answers-entry : (w after : World) (e : Entry) → step w e.seat e.step ≡ Ok (after, e.outcome) → AnswersOpen w e
unfolding step go
answers-entry w after e made actor c name prov grant is next of free =
    answers-left w after e actor c name prov grant (slice_get w.actors actor) next of free (rw is at made)

-- opens are answered right
pub opens_are_answered_right : OpensAreAnsweredRight
opens_are_answered_right = record { answer = answers; entry = answers-entry }
