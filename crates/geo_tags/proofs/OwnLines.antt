-- A command answers its own line, or has a request of it on its way, and a close answers at once.
use Rattle.std.specs.Prelude.{◌≡◌, ℕ, ◌+◌, ◌<◌, ◌≤◌, ◌⊎◌, ◌==◌, Bool, true, false, List, [], ◌∷◌, length, Option, Some, None, Ok, option_and_then, slice_get, slice_set, cond, ⊤, if◌then◌else◌}
use Rattle.std.specs.Option.{option_map_or}
use Rattle.std.proofs.Common.{refl, ap, sym, subst, ◌∙◌, inl, inr}
use Rattle.geo_base.specs.declared.errno.Errno.TheVariants.{EBUSY}
use Rattle.geo_model.specs.declared.command.Command.{Command}
use Rattle.geo_model.specs.declared.command.Command.TheVariants as commands
use Rattle.geo_model.specs.declared.command.LineCommand.{LineCommand}
use Rattle.geo_model.specs.declared.step.Found.{Found}
use Rattle.geo_model.specs.declared.step.Outcome.{Outcome}
use Rattle.geo_model.specs.declared.step.Outcome.TheVariants as outcomes
use Rattle.geo_model.specs.declared.step.Step.TheVariants as steps
use Rattle.geo_model.specs.Commands.{do_command}
use Rattle.geo_model.specs.HandleCommands.{close_handle, done, refused, without_handle}
use Rattle.geo_model.specs.History.{first_command, next_command}
use Rattle.geo_model.specs.Step.{go, go_of, step, unless_found, waits_for, with_commands}
use Rattle.geo_model.specs.World.{World, Handle, handle_of, is_active}
use Rattle.geo_model.specs.WorldEvents.{after_close}
use Rattle.geo_model.proofs.CommandWalk.{any_graph_by}
use Rattle.geo_laws_replies.specs.ReplyLaws.{counts_reply, unanswered}
use Rattle.geo_laws_replies.proofs.AnsweringCommands.{command_answers}
use Rattle.geo_session.specs.Growth.{more_left, with_command}
use Rattle.geo_session.specs.Session.{none_left}
use Rattle.geo_session.proofs.Lists.{get_more}
use Rattle.geo_session.proofs.Nones.{given, gone, none_at, none_given, none_or_less}

-- the outcome is of the line: its reply, or its request
abbrev pub IsOwn : ℕ → Outcome → Type 0
IsOwn line (outcomes.Replied l reply) = l ≡ line
IsOwn line (outcomes.Accepted l bio) = l ≡ line
IsOwn line _ = ⊥

-- it is a reply
abbrev pub IsReply : Outcome → Type 0
IsReply (outcomes.Replied line reply) = ⊤
IsReply _ = ⊥

pub own_line : (w : World) (line actor : ℕ) (c : Command) → IsOwn line (do_command w line actor c).1
own_line w line actor =
    any_graph_by w line actor (λ c made. IsOwn line made.1) (λ c q e. refl) (λ c q. refl)
    (record {
      waits = λ c is. refl;
      lists = refl;
      opens = λ name prov grant p is. refl;
      closes = λ name h is. refl;
      accepts = λ c h a is. refl;
    })

-- a close, by whether its handle is active
closed_by : (w : World) (line : ℕ) (h : Handle) (busy : Bool)
    → IsReply (if busy then refused w line EBUSY else done (after_close w (without_handle w h)) line).1
closed_by w line h true = tt
closed_by w line h false = tt

closed : (w : World) (line : ℕ) (o : Option Handle) → IsReply (close_handle w line o).1
closed w line None = tt
closed w line (Some h) = closed_by w line h (option_map_or (is_active w) h.consumer false)

pub close_replies : (w : World) (line actor : ℕ) (name : List ℕ)
    → IsReply (do_command w line actor (commands.Close name)).1
unfolding do_command
close_replies w line actor name = closed w line (handle_of w actor name)

-- Where no actor has a command left, the command that one is given is what its Go makes

module _ (w : World) (c : LineCommand) (none : w.actors ≡ none_left (length w.actors)) where
  abbrev lists : List (List LineCommand)
  lists = more_left c w.actors

  -- its actor has it and nothing else, and no one has one left behind it
  has_it : c.actor < length w.actors → slice_get lists c.actor ≡ Some (c ∷ [])
  has_it less =
      ap (λ (ls : List (List LineCommand)). slice_get (more_left c ls) c.actor) none
      ∙ get_more c (none_left (length w.actors)) c.actor [] (none_at (length w.actors) c.actor less)
      ∙ ap (λ (l : List LineCommand). Some l) (given c)

  left_none : slice_set lists c.actor [] ≡ w.actors
  left_none =
      ap (λ (ls : List (List LineCommand)). slice_set (more_left c ls) c.actor []) none
      ∙ gone c (length w.actors) ∙ sym none

  -- an actor that isn't there has none
  not_there : length w.actors ≤ c.actor → slice_get lists c.actor ≡ None
  not_there less =
      ap (λ (ls : List (List LineCommand)). slice_get (more_left c ls) c.actor) none
      ∙ none_given c (length w.actors) less

  -- what its actor has next is it
  next_where : (c.actor < length w.actors) ⊎ (length w.actors ≤ c.actor) → (x : LineCommand)
      → next_command (with_command c w) c.actor ≡ Some x → c ≡ x
  next_where (inl less) x is =
      let same : Some c ≡ Some x =
      ap (λ (l : Option (List LineCommand)). option_and_then first_command l) (sym (has_it less)) ∙ is in
      cc
  next_where (inr less) x is =
      let no : None ≡ Some x =
      ap (λ (l : Option (List LineCommand)). option_and_then first_command l) (sym (not_there less)) ∙ is in
      absurd (let bad : ⊥ = cc in bad)

  pub next_is : (x : LineCommand) → next_command (with_command c w) c.actor ≡ Some x → c ≡ x
  next_is = next_where (none_or_less (length w.actors) c.actor)

  module _ {after : World} {o : Outcome} where
    ready : (f : Option Found) (made : World × Outcome) → unless_found f made ≡ Ok (after, o) → made ≡ (after, o)
    ready None made does = cc
    ready (Some f) made does = absurd (let no : ⊥ = cc in no)

    goes_of : (l : Option (List LineCommand)) → l ≡ Some (c ∷ []) → go_of (with_command c w) c.actor l ≡ Ok (after, o)
        → do_command (with_commands (with_command c w) c.actor []) c.line c.actor c.command ≡ (after, o)
    goes_of l is does =
        ready (waits_for (with_command c w) c.actor c.command)
        (do_command (with_commands (with_command c w) c.actor []) c.line c.actor c.command)
        (ap (go_of (with_command c w) c.actor) (sym is) ∙ does)

    stays : (l : Option (List LineCommand)) → l ≡ None → go_of (with_command c w) c.actor l ≡ Ok (after, o) → ⊥
    stays None is does = let no : ⊥ = cc does in no
    stays (Some l) is does = let no : ⊥ = cc is in no

    goes_where : (c.actor < length w.actors) ⊎ (length w.actors ≤ c.actor)
        → go_of (with_command c w) c.actor (slice_get lists c.actor) ≡ Ok (after, o)
        → do_command w c.line c.actor c.command ≡ (after, o)
    goes_where (inl less) does =
        ap (λ (ls : List (List LineCommand)). do_command (record w { actors = ls }) c.line c.actor c.command)
        (sym left_none)
        ∙ goes_of (slice_get lists c.actor) (has_it less) does
    goes_where (inr less) does = absurd (stays (slice_get lists c.actor) (not_there less) does)

    pub goes : step (with_command c w) 0 (steps.Go c.actor) ≡ Ok (after, o)
        → do_command w c.line c.actor c.command ≡ (after, o)
    unfolding step go
    goes does = goes_where (none_or_less (length w.actors) c.actor) does

    -- so its outcome is of its line
    pub own_outcome : step (with_command c w) 0 (steps.Go c.actor) ≡ Ok (after, o) → IsOwn c.line o
    own_outcome does =
        subst (λ (made : World × Outcome). IsOwn c.line made.1) (goes does) (own_line w c.line c.actor c.command)

    -- a close replies
    pub close_outcome : (name : List ℕ) → c.command ≡ commands.Close name
        → step (with_command c w) 0 (steps.Go c.actor) ≡ Ok (after, o) → IsReply o
    close_outcome name is does =
        subst (λ (made : World × Outcome). IsReply made.1)
        (ap (λ (x : Command). do_command w c.line c.actor x) (sym is) ∙ goes does)
        (close_replies w c.line c.actor name)

    -- and of each line so much is unanswered then
    pub outcome_answers : step (with_command c w) 0 (steps.Go c.actor) ≡ Ok (after, o) → (tag : ℕ)
        → unanswered tag after + counts_reply tag o ≡ unanswered tag w + cond (c.line == tag) 1 0
    outcome_answers does tag =
        subst (λ (made : World × Outcome). unanswered tag made.0 + counts_reply tag made.1
        ≡ unanswered tag w + cond (c.line == tag) 1 0) (goes does) (command_answers tag w c.line c.actor c.command)
