-- What a command does to the lines that are unanswered: its own line is answered, or its request is on its way.
use Rattle.std.specs.Prelude.{◌≡◌, ℕ, ◌+◌, zero, suc, List, [], ◌∷◌, sum_by, slice_get, slice_set, Some, cond, ◌==◌, unwrap_or}
use Rattle.std.specs.Option.{option_map_or}
use Rattle.std.proofs.Common.{refl, arith}
use Rattle.std.proofs.lemmas.List.Sums.{sum_by-cons}
use Rattle.geo_model.specs.declared.command.Command.{Command}
use Rattle.geo_model.specs.declared.command.LineCommand.{LineCommand}
use Rattle.geo_model.specs.declared.step.Outcome.{Outcome}
use Rattle.geo_model.specs.declared.step.Owner.TheVariants as owners
use Rattle.geo_model.specs.World.{World}
use Rattle.geo_model.specs.Bios.{new_bio}
use Rattle.geo_model.specs.Requests.{provider_of_handle}
use Rattle.geo_model.specs.Commands.{do_command}
use Rattle.geo_model.specs.Step.{with_commands}
use Rattle.geo_model.proofs.CommandWalk.{any_graph_by}
use Rattle.geo_laws_replies.specs.ReplyLaws.{counts_command, counts_reply, left_of_line, unanswered}
use Rattle.geo_laws_replies.proofs.AnsweringBios.{submit_answers}

module _ (line : ℕ) where
  -- a command of a line answers it, or has a request of it on its way
  abbrev Answers : World → ℕ → World × Outcome → Type 0
  Answers w l made = unanswered line made.0 + counts_reply line made.1 ≡ unanswered line w + cond (l == line) 1 0

  -- each command
  pub command_answers : (w : World) (l actor : ℕ) (c : Command) → Answers w l (do_command w l actor c)
  command_answers w l actor =
      any_graph_by w l actor (λ c made. Answers w l made)
      (λ c q e. omega arith) (λ c q. omega arith)
      (record {
        waits = λ c is. omega arith;
        lists = omega arith;
        opens = λ name prov grant p is. omega arith;
        closes = λ name h is. omega arith;
        accepts = λ c h a is.
            let more = submit_answers line w (new_bio w.next_bio a.cmd a.offset a.len a.bytes (unwrap_or h.consumer 0)
            (option_map_or (λ p. p.number) (provider_of_handle w h) 0) (owners.Line h.number l)) in
            omega (arith, more);
      })

  -- an actor has one command less
  less_left : (actors : List (List LineCommand)) (actor : ℕ) (c : LineCommand) (rest : List LineCommand)
      → slice_get actors actor ≡ Some (c ∷ rest)
      → left_of_line line (slice_set actors actor rest) + counts_command line c ≡ left_of_line line actors
  less_left [] actor c rest left = absurd (let no : ⊥ = cc in no)
  less_left (cs ∷ actors) zero c rest left =
      let is : cs ≡ c ∷ rest = cc in
      let counts : (λ (r : List LineCommand). sum_by (counts_command line) r) cs
      ≡ sum_by (counts_command line) (c ∷ rest) = rw is refl in
      omega (
        arith,
        counts,
        sum_by-cons (counts_command line) c rest,
        sum_by-cons (λ (r : List LineCommand). sum_by (counts_command line) r) cs actors,
        sum_by-cons (λ (r : List LineCommand). sum_by (counts_command line) r) rest actors,
      )
  less_left (cs ∷ actors) (suc actor) c rest left =
      omega (
        arith,
        less_left actors actor c rest left,
        sum_by-cons (λ (r : List LineCommand). sum_by (counts_command line) r) cs actors,
        sum_by-cons (λ (r : List LineCommand). sum_by (counts_command line) r) cs (slice_set actors actor rest),
      )

  -- so a Go takes the reply that it makes from what is unanswered
  pub go_answers : (w : World) (actor : ℕ) (c : LineCommand) (rest : List LineCommand)
      → slice_get w.actors actor ≡ Some (c ∷ rest)
      → unanswered line (do_command (with_commands w actor rest) c.line actor c.command).0
      + counts_reply line (do_command (with_commands w actor rest) c.line actor c.command).1
      ≡ unanswered line w
  go_answers w actor c rest left =
      let does = command_answers (with_commands w actor rest) c.line actor c.command in
      let less = less_left w.actors actor c rest left in
      omega (arith, does, less)
