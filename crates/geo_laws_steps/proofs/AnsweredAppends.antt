-- An append is answered by what the mesh forbids (g_attach(9)).
use Rattle.std.specs.Prelude.{◌≡◌, ℕ, List, [], ◌∷◌, Option, Some, None, Ok, option_and_then, slice_get}
use Rattle.std.specs.Option.{option_or}
use Rattle.std.proofs.Common.{refl, sym, ◌∙◌, ap}
use Rattle.geo_base.specs.declared.errno.Errno.{Errno}
use Rattle.geo_model.specs.declared.command.Command.TheVariants as commands
use Rattle.geo_model.specs.declared.command.LineCommand.{LineCommand}
use Rattle.geo_model.specs.declared.step.Entry.{Entry}
use Rattle.geo_model.specs.declared.step.Outcome.{Outcome}
use Rattle.geo_model.specs.declared.step.Outcome.TheVariants as outcomes
use Rattle.geo_model.specs.Words.{first_error}
use Rattle.geo_model.specs.Topology.{Provider}
use Rattle.geo_model.specs.World.{World}
use Rattle.geo_model.specs.GeomCommands.{found_provider}
use Rattle.geo_model.specs.Append.{Growing, growing_concat, append_tests, component_refusal, append_joined, append_tested, do_append, append_refusal_of, append_refusal}
use Rattle.geo_model.specs.Commands.{do_command}
use Rattle.geo_model.specs.Step.{Answer, with_commands, go_of, go, step}
use Rattle.geo_model.specs.History.{first_command, reply_of_refusal, AnswersAppend}

-- by what refuses the new consumer
joined-answer : (w : World) (line : ℕ) (x : Growing) (q : Provider) (e : Option Errno)
    → (append_joined w line x q e).1 ≡ outcomes.Replied line (reply_of_refusal e)
joined-answer w line x q None = refl
joined-answer w line x q (Some e) = refl

-- by what refuses the append before
tested-answer : (w : World) (line : ℕ) (x : Growing) (q : Provider) (e : Option Errno)
    → (append_tested w line x q e).1
    ≡ outcomes.Replied line (reply_of_refusal (option_or e (component_refusal w x q)))
tested-answer w line x q None = joined-answer w line x q (component_refusal w x q)
tested-answer w line x q (Some e) = refl

-- by what is found
append-answer : (w : World) (line : ℕ) (x : Option Growing) (q : Option Provider)
    → (do_append w line x q).1 ≡ outcomes.Replied line (reply_of_refusal (append_refusal_of w x q))
append-answer w line None None = refl
append-answer w line None (Some q) = refl
append-answer w line (Some x) None = refl
append-answer w line (Some x) (Some q) = tested-answer w line x q (first_error (append_tests w x q))

-- an answer that is ok
abbrev okay : World × Outcome → Answer
okay made = Ok made

-- what is made by an answer that is ok
made-is : (m n : World × Outcome) → okay m ≡ okay n → m.1 ≡ n.1
made-is m n e = let same : m ≡ n = cc in ap (λ (x : World × Outcome). x.1) same

-- what an append by names makes
abbrev append_by : World → ℕ → List ℕ → List ℕ → World × Outcome
append_by w line name prov = do_append w line (growing_concat w.topology name) (found_provider w prov)

-- what the next command makes, where it is an append
append-made : (w : World) (actor : ℕ) (x : LineCommand) (rest : List LineCommand) (name prov : List ℕ)
    → x.command ≡ commands.Append name prov
    → okay (append_by (with_commands w actor rest) x.line name prov) ≡ go_of w actor (Some (x ∷ rest))
unfolding do_command
append-made w actor x rest name prov appends = rw appends refl

-- the step of an append, by the commands that are left
answers-left : (w after : World) (e : Entry) (actor : ℕ) (c : LineCommand) (name prov : List ℕ)
    → (o : Option (List LineCommand)) → option_and_then first_command o ≡ Some c
    → c.command ≡ commands.Append name prov → go_of w actor o ≡ Ok (after, e.outcome)
    → e.outcome ≡ outcomes.Replied c.line (reply_of_refusal (append_refusal w name prov))
answers-left w after e actor c name prov None next of made = absurd (let bad : ⊥ = cc in bad)
answers-left w after e actor c name prov (Some []) next of made = absurd (let bad : ⊥ = cc in bad)
answers-left w after e actor c name prov (Some (x ∷ rest)) next of made =
    let one : x ≡ c = cc in
    let appends : x.command ≡ commands.Append name prov = ap (λ (y : LineCommand). y.command) one ∙ of in
    let line : x.line ≡ c.line = ap (λ (y : LineCommand). y.line) one in
    let left : World = with_commands w actor rest in
    let gone : okay (append_by (with_commands w actor rest) x.line name prov) ≡ okay (after, e.outcome) =
    append-made w actor x rest name prov appends ∙ made in
    sym (made-is (append_by (with_commands w actor rest) x.line name prov) (after, e.outcome) gone)
    ∙ append-answer (with_commands w actor rest) x.line (growing_concat w.topology name) (found_provider w prov)
    ∙ ap (λ l. outcomes.Replied l (reply_of_refusal (append_refusal w name prov))) line

-- the step of an append
pub append_answers : (w after : World) (e : Entry) → step w e.seat e.step ≡ Ok (after, e.outcome) → AnswersAppend w e
unfolding step go
append_answers w after e made actor c name prov is next of =
    answers-left w after e actor c name prov (slice_get w.actors actor) next of (rw is at made)
