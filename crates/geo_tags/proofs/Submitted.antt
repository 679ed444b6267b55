-- A command that is submitted: its line is the next tag.
use Rattle.std.specs.Prelude.{◌≡◌, ◌≢◌, ℕ, ◌+◌, ◌==◌, Bool, true, false, List, length, Option, Some, None, Result, Ok, cond}
use Rattle.std.proofs.Common.{refl, sym, ap, subst, ◌∙◌, arith}
use Rattle.std.proofs.lemmas.Bool.{eq-eqb, ne_eqb}
use Rattle.slab.specs.Slab.{Slab, get, HasRoomFor, Updates}
use Rattle.geo_model.specs.declared.command.Command.{Command}
use Rattle.geo_model.specs.declared.command.Command.TheVariants as commands
use Rattle.geo_model.specs.declared.command.LineCommand.{LineCommand}
use Rattle.geo_model.specs.declared.step.Outcome.{Outcome}
use Rattle.geo_model.specs.declared.step.Outcome.TheVariants as outcomes
use Rattle.geo_model.specs.declared.step.Reply.{Reply}
use Rattle.geo_model.specs.declared.step.Step.TheVariants as steps
use Rattle.geo_laws_owed.specs.OwedLaws.{is_close}
use Rattle.geo_laws_replies.specs.ReplyLaws.{counts_reply, unanswered}
use Rattle.geo_session.specs.declared.refusal.SessionRefusal.{SessionRefusal}
use Rattle.geo_session.specs.Growth.{with_command}
use Rattle.geo_session.specs.Session.{SessionView, Made, none_left}
use Rattle.geo_tags.specs.Calls.{tagged, Submits, SurelyCloses}
use Rattle.geo_tags.specs.Tags.{TaggedView, tagged_view, EachWaits}
use Rattle.geo_tags.proofs.OwnLines.{IsOwn, IsReply, close_outcome, next_is, outcome_answers, own_outcome}
use Rattle.geo_tags.proofs.Waits.{weight, turned, waits_still, waits_where}

-- what a submit leaves and answers
pub record Submitted (result : Result (Option Reply) SessionRefusal) (before after : TaggedView) (actor : ℕ)
    (command : Command) (token : ℕ) : Type 0 where
  pub waits : EachWaits after
  pub submits : Submits result before after actor command token

-- the name in a close
close_name : (command : Command) → is_close command ≡ true → (name : List ℕ) × (command ≡ commands.Close name)
close_name (commands.Close name) is = (name, refl)
close_name _ is = absurd (let no : ⊥ = cc in no)

-- once, where it is so
abbrev once : Bool → ℕ
once b = cond b 1 0

-- an outcome of the line that isn't its reply is its request
accepted_by : (line : ℕ) (o : Outcome) → IsOwn line o → (IsReply o → ⊥) → (bio : ℕ) × (o ≡ outcomes.Accepted line bio)
accepted_by line (outcomes.Accepted l bio) own other = (bio, ap (λ n. outcomes.Accepted n bio) own)
accepted_by line (outcomes.Replied l reply) own other = absurd (other tt)
accepted_by line _ own other = absurd own

module _ (old : SessionView) (slots : Slab ℕ) (actor : ℕ) (command : Command)
    (none : (old.world).actors ≡ none_left (length (old.world).actors)) where
  abbrev key : ℕ
  key = slots.vacant_key

  abbrev line : LineCommand
  line = tagged (tagged_view old slots) actor command

  -- what surely closes is a close
  pub surely_a_close : SurelyCloses (tagged_view old slots) actor command → is_close command ≡ true
  surely_a_close sure =
      ap (λ (x : LineCommand). is_close x.command) (next_is old.world line none sure.closes.command sure.closes.is_next)
      ∙ ap is_close sure.closes.is_close

  module _ (waits : EachWaits (tagged_view old slots)) (new : SessionView) (o : Outcome)
      (made : Made (with_command line old.world) old new 0 (steps.Go actor) o) where
    own : IsOwn key o
    own = own_outcome old.world line none made.does

    answers : (tag : ℕ)
        → unanswered tag new.world + counts_reply tag o ≡ unanswered tag old.world + cond (key == tag) 1 0
    answers = outcome_answers old.world line none made.does

    -- it is replied to at once
    module _ (l : ℕ) (reply : Reply) (is : o ≡ outcomes.Replied l reply) where
      same_line : l ≡ key
      same_line = let both : IsOwn key (outcomes.Replied l reply) = subst (IsOwn key) is own in both

      replied_still : (tag : ℕ) → unanswered tag new.world ≡ unanswered tag old.world
      replied_still tag =
          let one : counts_reply tag o ≡ cond (key == tag) 1 0 =
          ap (counts_reply tag) is ∙ ap (λ (n : ℕ). cond (n == tag) 1 0) same_line in
          omega (arith, answers tag, one)

      pub replied : (token : ℕ) → Submitted (Ok (Some reply)) (tagged_view old slots) (tagged_view new slots) actor
          command token
      replied token = record {
        waits = waits_still old new slots waits replied_still;
        submits = (
          subst (λ (x : Outcome). Made (with_command line old.world) old new 0 (steps.Go actor) x)
              (is ∙ ap (λ n. outcomes.Replied n reply) same_line) made,
          refl,
        );
      }

    -- it isn't
    module _ (not : IsReply o → ⊥) where
      -- so there is room for its token
      room_by : (b : Bool) → is_close command ≡ b → (is_close command ≡ false → HasRoomFor slots 1) → HasRoomFor slots 1
      room_by false is room = room is
      room_by true is room =
          let named = close_name command is in
          absurd (not (close_outcome old.world line none named.0 named.1 made.does))

      pub has_room : (is_close command ≡ false → HasRoomFor slots 1) → HasRoomFor slots 1
      has_room = room_by (is_close command) refl

      module _ (bio : ℕ) (is : o ≡ outcomes.Accepted key bio) where
        none_replied : (tag : ℕ) → counts_reply tag o ≡ 0
        none_replied tag = ap (counts_reply tag) is

        -- the tag waits then
        waits_now : get slots key ≡ None → unanswered key new.world ≡ 1
        waits_now free =
            let one : once (key == key) ≡ 1 = ap once (eq-eqb key key refl) in
            let was : unanswered key old.world ≡ 0 = waits key ∙ ap weight free in
            omega (arith, answers key, none_replied key, one, was)

        others_wait : (tag : ℕ) → tag ≢ key → unanswered tag new.world ≡ unanswered tag old.world
        others_wait tag other =
            let zero : once (key == tag) ≡ 0 = ap once (ne_eqb key tag (λ same. other (sym same))) in
            omega (arith, answers tag, none_replied tag, zero)

      pub accepted : (token : ℕ) (later : Slab ℕ) → get slots key ≡ None → Updates slots later key (Some token)
          → Submitted (Ok None) (tagged_view old slots) (tagged_view new later) actor command token
      accepted token later free updates =
          let is = accepted_by key o own not in record {
            waits = waits_where old new slots waits later key (Some token) updates (waits_now is.0 is.1 free)
                (others_wait is.0 is.1);
            submits = (
              is.0,
              subst (λ (x : Outcome). Made (with_command line old.world) old new 0 (steps.Go actor) x) is.1 made,
              turned old new slots later key (Some token) updates,
            );
          }

-- The same where room was made before, and the line is the tag that was read then

-- what isn't a reply
no_reply : (o : Outcome) → ((l : ℕ) (reply : Reply) → o ≡ outcomes.Replied l reply → ⊥) → IsReply o → ⊥
no_reply (outcomes.Replied l reply) other is = other l reply refl
no_reply _ other is = is

pub record Given (old new : SessionView) (first slots : Slab ℕ) (actor : ℕ) (command : Command) (o : Outcome) : Type 0
  where
    pub waits : EachWaits (tagged_view old slots)
    pub none : (old.world).actors ≡ none_left (length (old.world).actors)
    pub same : tagged_view old slots ≡ tagged_view old first
    pub made : Made (with_command (tagged (tagged_view old slots) actor command) old.world) old new 0 (steps.Go actor) o

pub given : (old new : SessionView) (first slots : Slab ℕ) (actor : ℕ) (command : Command) {tag : ℕ} {o : Outcome}
    → slots ≡ record first { capacity = slots.capacity } → EachWaits (tagged_view old first)
    → (old.world).actors ≡ none_left (length (old.world).actors) → tag ≡ first.vacant_key
    → Made (with_command (record { line = tag; actor = actor; command = command }) old.world) old new 0
    (steps.Go actor) o
    → Given old new first slots actor command o
given old new first slots actor command {tag} {o} kept waits none is made =
    let same : tagged_view old slots ≡ tagged_view old first = ap (tagged_view old) kept in
    record {
      waits = subst EachWaits (sym same) waits;
      none = none;
      same = same;
      made = subst (λ (n : ℕ). Made (with_command (record { line = n; actor = actor; command = command }) old.world)
          old new 0 (steps.Go actor) o) (is ∙ ap (λ (v : TaggedView). v.next_tag) (sym same)) made;
    }

module _ {old new : SessionView} {first slots : Slab ℕ} {actor : ℕ} {command : Command} {o : Outcome}
    (it : Given old new first slots actor command o) where
  as_before : (result : Result (Option Reply) SessionRefusal) (after : TaggedView) (token : ℕ)
      → Submitted result (tagged_view old slots) after actor command token
      → Submitted result (tagged_view old first) after actor command token
  as_before result after token is =
      subst (λ (v : TaggedView). Submitted result v after actor command token) it.same is

  pub replies : (l : ℕ) (reply : Reply) (token : ℕ) → o ≡ outcomes.Replied l reply
      → Submitted (Ok (Some reply)) (tagged_view old first) (tagged_view new slots) actor command token
  replies l reply token is =
      as_before (Ok (Some reply)) (tagged_view new slots) token
      (replied old slots actor command it.none it.waits new o it.made l reply is token)

  module _ (other : (l : ℕ) (reply : Reply) → o ≡ outcomes.Replied l reply → ⊥) where
    pub room : (is_close command ≡ false → HasRoomFor slots 1) → HasRoomFor slots 1
    room = has_room old slots actor command it.none it.waits new o it.made (no_reply o other)

    pub accepts : (token : ℕ) (later : Slab ℕ) (at : ℕ) → at ≡ slots.vacant_key → get slots at ≡ None
        → Updates slots later at (Some token)
        → Submitted (Ok None) (tagged_view old first) (tagged_view new later) actor command token
    accepts token later at is free updates =
        as_before (Ok None) (tagged_view new later) token
        (accepted old slots actor command it.none it.waits new o it.made (no_reply o other) token later
        (subst (λ (n : ℕ). get slots n ≡ None) is free)
        (subst (λ (n : ℕ). Updates slots later n (Some token)) is updates))
