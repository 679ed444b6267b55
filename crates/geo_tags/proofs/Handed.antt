-- What is due after a step, by what it makes.
use Rattle.std.specs.Prelude.{◌≡◌, ◌≢◌, ℕ, ◌+◌, ◌<◌, ◌≤◌, ◌^◌, length, Option, Some, None, Ok, IsSome, if◌then◌else◌}
use Rattle.std.proofs.Common.{refl, sym, ap, subst, ◌∙◌, arith}
use Rattle.slab.specs.Slab.{Slab, get, ContainsKey}
use Rattle.geo_model.specs.declared.step.DeviceResult.{DeviceResult}
use Rattle.geo_model.specs.declared.step.Outcome.{Outcome}
use Rattle.geo_model.specs.declared.step.Outcome.TheVariants as outcomes
use Rattle.geo_model.specs.declared.step.Reply.{Reply}
use Rattle.geo_model.specs.declared.step.Request.{Request}
use Rattle.geo_model.specs.declared.step.Step.{Step}
use Rattle.geo_model.specs.declared.step.Step.TheVariants as steps
use Rattle.geo_model.specs.Fitting.{Firm, Fitting}
use Rattle.geo_model.specs.Order.{pick}
use Rattle.geo_model.specs.Sound.{Sound}
use Rattle.geo_model.specs.Steady.{Steady}
use Rattle.geo_model.proofs.FirmLemmas.{firm_of}
use Rattle.geo_laws_replies.specs.ReplyLaws.{counts_reply, unanswered}
use Rattle.geo_laws_replies.proofs.AnsweringSteps.{steps_answer}
use Rattle.geo_session.specs.Generation.{is_of_graph}
use Rattle.geo_session.specs.Session.{SessionView, Made, none_left}
use Rattle.geo_tags.specs.declared.due.Due.{Due}
use Rattle.geo_tags.specs.declared.due.Due.TheVariants as dues
use Rattle.geo_tags.specs.Calls.{Delivers, IsDueBy, Nexts, is_changed}
use Rattle.geo_tags.specs.Tokens.{changed_to, taken_by, HandsOut, IsExpected}
use Rattle.geo_tags.specs.Tags.{tagged_view, EachWaits}
use Rattle.geo_tags.proofs.Outcomes.{Tells, outcome_tells}
use Rattle.geo_tags.proofs.Raised.{changed_is, changes, reply_quiet, told_change, unchanged}
use Rattle.geo_tags.proofs.Waits.{weight, has_token, others_count, quiet_counts, reply_counts, turned, waits_still, waits_where}

-- what asks is a Take
asking_takes : (s : Step) (request : Request) → Tells s (outcomes.Asked request) → IsSome (taken_by s)
asking_takes (steps.Take disk bio) request tells = refl
asking_takes (steps.Deliver bio got) request tells = absurd (let no : ⊥ = cc in no)
asking_takes _ request tells = absurd (let no : ⊥ = cc tells.0 in no)

-- the step that takes a bio for a disk
taking : (s : Step) (disk bio : ℕ) → taken_by s ≡ Some (disk, bio) → s ≡ steps.Take disk bio
taking (steps.Take d b) disk bio taken =
    let both : (d, b) ≡ (disk, bio) = cc in ap (λ (p : ℕ × ℕ). steps.Take p.0 p.1) both
taking _ disk bio taken = absurd (let no : ⊥ = cc in no)

-- an outcome is expected, where a line that is replied to has a token
expected_by : (slots : Slab ℕ) (s : Step) (o : Outcome) → Tells s o
    → ((line : ℕ) (reply : Reply) → o ≡ outcomes.Replied line reply → ContainsKey slots line)
    → IsExpected slots (taken_by s) o
expected_by slots s (outcomes.Asked request) tells there = asking_takes s request tells
expected_by slots s (outcomes.Replied line reply) tells there = there line reply refl
expected_by slots s _ tells there = tt

module _ (old new : SessionView) (slots : Slab ℕ) (waits : EachWaits (tagged_view old slots)) (firm : Firm old.world)
    (s : Step) (o : Outcome) (made : Made old.world old new 0 s o) where
  -- what the step answers
  answers : (tag : ℕ) → unanswered tag new.world + counts_reply tag o ≡ unanswered tag old.world
  answers tag = steps_answer tag old.world 0 s new.world o firm made.does

  -- where it replies to no line, each is unanswered as before
  none_answered : ((tag : ℕ) → counts_reply tag o ≡ 0) → (tag : ℕ) → unanswered tag new.world ≡ unanswered tag old.world
  none_answered none tag = omega (arith, answers tag, none tag)

  module _ (line : ℕ) (reply : Reply) (is : o ≡ outcomes.Replied line reply) where
    -- the line that is replied to was unanswered once, so its tag has a token
    one_answered : unanswered line new.world + 1 ≡ unanswered line old.world
    one_answered =
        let one : counts_reply line o ≡ 1 = ap (counts_reply line) is ∙ reply_counts line reply in
        omega (arith, answers line, one)

    replied_there : ContainsKey slots line
    replied_there =
        let one = one_answered in
        let was = waits line in
        let some : 1 ≤ weight (get slots line) = omega (arith, one, was) in
        has_token (get slots line) some

    -- and is answered then
    now_answered : (token : ℕ) → get slots line ≡ Some token → unanswered line new.world ≡ 0
    now_answered token has =
        let one = one_answered in
        let was : unanswered line old.world ≡ 1 = waits line ∙ ap weight has in
        omega (arith, one, was)

    -- but no other line is
    others_stay : (tag : ℕ) → tag ≢ line → unanswered tag new.world ≡ unanswered tag old.world
    others_stay tag other =
        let none : counts_reply tag o ≡ 0 = ap (counts_reply tag) is ∙ others_count tag line reply other in
        omega (arith, answers tag, none)

  pub expected : IsExpected slots (taken_by s) o
  expected = expected_by slots s o (outcome_tells old.world 0 s new.world o made.does) replied_there

  -- where no line is answered and no token comes or goes
  quietly : (later : Slab ℕ) → later ≡ slots → ((tag : ℕ) → counts_reply tag o ≡ 0) → EachWaits (tagged_view new later)
  quietly later same none =
      subst (λ (x : Slab ℕ). EachWaits (tagged_view new x)) (sym same)
      (waits_still old new slots waits (none_answered none))

  -- what is handed out
  module _ (changed : Option ℕ) (later : Slab ℕ) where
    pub handed_waits : (due : Due) → HandsOut due (taken_by s) o changed slots later → EachWaits (tagged_view new later)
    handed_waits (dues.Ask disk bio request) (taken, is, same) = quietly later same (λ tag. ap (counts_reply tag) is)
    handed_waits (dues.Reply token reply) (line, is, has, updates) =
        waits_where old new slots waits later line None updates (now_answered line reply is token has)
        (others_stay line reply is)
    handed_waits dues.Moved (quiet, none, same) = quietly later same (λ tag. quiet_counts tag o quiet)
    handed_waits (dues.Changed generation) (quiet, some, same) = quietly later same (λ tag. quiet_counts tag o quiet)
    handed_waits dues.Idle out = absurd out

    module _ (none : (old.world).actors ≡ none_left (length (old.world).actors)) (bound : old.generation < 2 ^ 64)
        (is_change : changed ≡ changed_to old.generation new.generation) where
      handed_due : (due : Due) → HandsOut due (taken_by s) o changed slots later
          → IsDueBy due s o (tagged_view old slots) (tagged_view new later)
      handed_due (dues.Ask disk bio request) (taken, is, same) =
          (taking s disk bio taken, is, ap (tagged_view new) same)
      handed_due (dues.Reply token reply) (line, is, has, updates) =
          (line, is, has, turned old new slots later line None updates)
      handed_due dues.Moved (quiet, unmoved, same) = (quiet, ap (tagged_view new) same)
      handed_due (dues.Changed generation) (quiet, some, same) =
          (quiet, changed_is old.generation new.generation generation (sym is_change ∙ some), ap (tagged_view new) same)
      handed_due dues.Idle out = out

      -- the generation is another one exactly where the step is of the graph
      by_step : (if is_of_graph old.world s o then Some new.generation else None) ≡ changed
      by_step =
          sym (is_change
          ∙ told_change old.generation new.generation (is_of_graph old.world s o) bound made.generation)

      handed_told : (due : Due) → HandsOut due (taken_by s) o changed slots later
          → is_of_graph old.world s o ≡ is_changed due
      handed_told (dues.Ask disk bio request) (taken, is, same) =
          ap (λ (x : Step). is_of_graph old.world x o) (taking s disk bio taken)
      handed_told (dues.Reply token reply) (line, is, has, updates) =
          ap (is_of_graph old.world s) is
          ∙ reply_quiet old.world s line reply none
          (subst (Tells s) is (outcome_tells old.world 0 s new.world o made.does))
      handed_told dues.Moved (quiet, unmoved, same) =
          unchanged (is_of_graph old.world s o) new.generation (by_step ∙ unmoved)
      handed_told (dues.Changed generation) (quiet, some, same) =
          changes (is_of_graph old.world s o) new.generation generation (by_step ∙ some)
      handed_told dues.Idle out = absurd out

      pub handed_next : pick old.world ≡ Some s → (due : Due) → HandsOut due (taken_by s) o changed slots later
          → Nexts (Ok due) (tagged_view old slots) (tagged_view new later)
      handed_next picked dues.Idle out = absurd out
      handed_next picked due out = record {
        step = s;
        picked = picked;
        outcome = o;
        made = made;
        is_due = handed_due due out;
        is_told = handed_told due out;
      }

-- The step that was picked, and the disk and the bio that were read of it before

pub record Stepped (old new : SessionView) (slots : Slab ℕ) (s : Step) (o : Outcome) (taken : Option (ℕ × ℕ)) : Type 0
  where
    pub waits : EachWaits (tagged_view old slots)
    pub firm : Firm old.world
    pub made : Made old.world old new 0 s o
    pub taken_is : taken ≡ taken_by s

pub stepped : (old new : SessionView) (slots : Slab ℕ) {s : Step} {o : Outcome} {taken : Option (ℕ × ℕ)}
    → EachWaits (tagged_view old slots) → Sound old.world → Steady old.world → Fitting old.world
    → Made old.world old new 0 s o → taken ≡ taken_by s → Stepped old new slots s o taken
stepped old new slots waits sound steady fitting made is = record {
  waits = waits;
  firm = firm_of old.world sound steady fitting;
  made = made;
  taken_is = is;
}

module _ {old new : SessionView} {slots : Slab ℕ} {s : Step} {o : Outcome} {taken : Option (ℕ × ℕ)}
    (it : Stepped old new slots s o taken) where
  pub expects : IsExpected slots taken o
  expects =
      subst (λ (t : Option (ℕ × ℕ)). IsExpected slots t o) (sym it.taken_is)
      (expected old new slots it.waits it.firm s o it.made)

  module _ (due : Due) (changed : Option ℕ) (later : Slab ℕ) (out : HandsOut due taken o changed slots later) where
    as_taken : HandsOut due (taken_by s) o changed slots later
    as_taken = subst (λ (t : Option (ℕ × ℕ)). HandsOut due t o changed slots later) it.taken_is out

    pub leaves_waits : EachWaits (tagged_view new later)
    leaves_waits = handed_waits old new slots it.waits it.firm s o it.made changed later due as_taken

    -- the generations are read before and after
    pub leaves_next : pick old.world ≡ Some s → (old.world).actors ≡ none_left (length (old.world).actors)
        → old.generation < 2 ^ 64 → changed ≡ changed_to old.generation new.generation
        → Nexts (Ok due) (tagged_view old slots) (tagged_view new later)
    leaves_next picked none bound is_change =
        handed_next old new slots it.waits it.firm s o it.made changed later none bound is_change picked due as_taken

-- What a disk answers

module _ (old new : SessionView) (slots : Slab ℕ) (waits : EachWaits (tagged_view old slots)) (sound : Sound old.world)
    (steady : Steady old.world) (fitting : Fitting old.world) (bio : ℕ) (got : DeviceResult) (o : Outcome)
    (made : Made old.world old new 0 (steps.Deliver bio got) o) where
  delivered : o ≡ outcomes.Delivered
  delivered = outcome_tells old.world 0 (steps.Deliver bio got) new.world o made.does

  pub delivered_waits : EachWaits (tagged_view new slots)
  delivered_waits =
      quietly old new slots waits (firm_of old.world sound steady fitting) (steps.Deliver bio got) o made slots refl
      (λ tag. ap (counts_reply tag) delivered)

  pub delivers : Delivers (Ok tt) (tagged_view old slots) (tagged_view new slots) bio got
  delivers = (subst (Made old.world old new 0 (steps.Deliver bio got)) delivered made, refl)
