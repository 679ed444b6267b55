-- Each step takes the replies that it makes from what is unanswered.
use Rattle.std.specs.Prelude.{◌≡◌, ℕ, ◌+◌, Bool, true, false, List, [], ◌∷◌, ◌++◌, fold, Option, Some, None, Ok, Err, ⊤, if◌then◌else◌}
use Rattle.std.proofs.Common.{refl, subst, arith}
use Rattle.geo_model.specs.declared.class.Judged.{Judged}
use Rattle.geo_model.specs.declared.class.Judged.TheVariants.{Read, Next, Made, Ended}
use Rattle.geo_model.specs.declared.step.Event.{Event}
use Rattle.geo_model.specs.declared.step.Event.TheVariants as events
use Rattle.geo_model.specs.declared.step.Phase.TheVariants as phases
use Rattle.geo_model.specs.declared.step.Step.{Step}
use Rattle.geo_model.specs.declared.step.WashWork.{WashWork}
use Rattle.geo_model.specs.declared.step.WashWork.TheVariants as washes
use Rattle.geo_model.specs.World.{World, Bio, granted_in}
use Rattle.geo_model.specs.Bios.{result_of_device, up_with}
use Rattle.geo_model.specs.Events.{is_not_tasted, dying_consumers}
use Rattle.geo_model.specs.WorldEvents.{queued_of, with_queued, begin_taste, kill_handle, do_event}
use Rattle.geo_model.specs.Tasting.{Judging, judged_world}
use Rattle.geo_model.specs.Freeing.{reap_handle, washed}
use Rattle.geo_model.specs.Step.{Answer, step}
use Rattle.geo_model.specs.Fitting.{Firm}
use Rattle.geo_model.proofs.StepWalk.{step_by}
use Rattle.geo_laws_bios.proofs.Turning.{found_there}
use Rattle.geo_laws_replies.specs.ReplyLaws.{counts_bio, counts_reply, unanswered, StepsAnswer}
use Rattle.geo_laws_replies.proofs.AnsweringBios.{change_answers, submit_answers, way_answers, owner_answers}
use Rattle.geo_laws_replies.proofs.AnsweringCommands.{go_answers}

module _ (line : ℕ) where
  -- what an answer does to the line
  abbrev Answers : World → Answer → Type 0
  Answers w (Ok made) = unanswered line made.0 + counts_reply line made.1 ≡ unanswered line w
  Answers w (Err found) = ⊤

  -- handles that die leave it
  kills_answer : (cs : List ℕ) (w : World) → unanswered line (fold kill_handle w cs) ≡ unanswered line w
  kills_answer [] w = refl
  kills_answer (c ∷ cs) w = kills_answer cs (kill_handle w c)

  -- so does an offer, by whether it is tasted
  offer_answers : (w : World) (p : ℕ) (b : Bool)
      → unanswered line (if b then w else begin_taste w p) ≡ unanswered line w
  offer_answers w p true = refl
  offer_answers w p false = refl

  -- each event
  event_answers : (w : World) (e : Event) → unanswered line (do_event w e) ≡ unanswered line w
  unfolding do_event
  event_answers w (events.NewProvider p) = offer_answers w p (is_not_tasted (granted_in w) w.topology p)
  event_answers w (events.Spoil p) = refl
  event_answers w (events.Orphan p) = kills_answer (dying_consumers w.topology p) w
  event_answers w (events.Resize p) = refl

  -- a request of no line that is new
  submit_leaves : (w : World) (x : Bio) → counts_bio line x ≡ 0
      → unanswered line (record w { bios = w.bios ++ x ∷ []; next_bio = w.next_bio + 1 }) ≡ unanswered line w
  submit_leaves w x none = let more = submit_answers line w x in omega (arith, more, none)

  -- a step of a taste: its read is of no line
  judging_answers : (w : World) (x : Judging) (j : Judged)
      → unanswered line (judged_world w x j).0 + counts_reply line (judged_world w x j).1 ≡ unanswered line w
  judging_answers w x (Read sector) =
      let same : unanswered line (judged_world w x (Read sector)).0 ≡ unanswered line w = submit_leaves w _ refl in
      omega (arith, same)
  judging_answers w x Next = omega arith
  judging_answers w x Made = omega arith
  judging_answers w x Ended = omega arith

  -- a handle that is reaped
  reaped_answers : (w : World) (o : Option ℕ) → unanswered line (reap_handle w o) ≡ unanswered line w
  reaped_answers w None = refl
  reaped_answers w (Some c) = refl

  -- what can be washed
  washed_answers : (w : World) (work : WashWork)
      → unanswered line (with_queued w (washed (queued_of w) work)) ≡ unanswered line w
  washed_answers w (washes.Provider p) = refl
  washed_answers w (washes.Consumer c) = refl
  washed_answers w (washes.Geom g) = refl

  -- each step, whatever it answers
  step_answers : (w : World) (seat : ℕ) (s : Step) → Firm w → Answers w (step w seat s)
  step_answers w seat s firm =
      step_by w seat (λ d a. Answers w a) (record {
        refuses = λ d f. tt;
        goes = λ actor c rest is. go_answers line w actor c rest is.left;
        runs = λ e rest is. let same = event_answers (record w { events = rest }) e in omega (arith, same);
        judges = λ t x j is. judging_answers w x j;
        reaps = λ h c is. let same = reaped_answers w c in omega (arith, same);
        washes = λ work is. let same = washed_answers w work in omega (arith, same);
        starts = λ b x way is. way_answers line w x way;
        takes = λ disk b x is.
            let same = change_answers line w x.number (λ y. record y { phase = phases.Busy seat }) (λ y. refl) in
            omega (arith, same);
        delivers = λ b got x is.
            let same = change_answers line w x.number (up_with (result_of_device got)) (λ y. refl) in
            omega (arith, same);
        rises = λ b x o is. owner_answers line w x firm.bios.numbers (found_there w b x is.found) o is.owner;
      }) s

-- so what is made
pub steps_answer : StepsAnswer
steps_answer line w seat s after o firm made = subst (Answers line w) made (step_answers line w seat s firm)
