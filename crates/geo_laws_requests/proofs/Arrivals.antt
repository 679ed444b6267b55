-- What each step that names no bio does to the bios.
use Rattle.std.specs.Prelude.{◌≡◌, ℕ, Bool, true, false, List, [], ◌∷◌, fold, Option, Some, None, Ok, Err, ⊤}
use Rattle.std.proofs.Common.{refl, subst, inl, inr}
use Rattle.geo_model.specs.declared.command.LineCommand.{LineCommand}
use Rattle.geo_model.specs.declared.step.Event.{Event}
use Rattle.geo_model.specs.declared.step.Event.TheVariants as events
use Rattle.geo_model.specs.declared.class.Judged.{Judged}
use Rattle.geo_model.specs.declared.class.Judged.TheVariants as judgeds
use Rattle.geo_model.specs.declared.step.Outcome.{Outcome}
use Rattle.geo_model.specs.declared.step.Outcome.TheVariants as outcomes
use Rattle.geo_model.specs.declared.step.Step.{Step}
use Rattle.geo_model.specs.declared.step.Step.TheVariants as steps
use Rattle.geo_model.specs.World.{World}
use Rattle.geo_model.specs.Events.{is_not_tasted, dying_consumers}
use Rattle.geo_model.specs.World.{granted_in}
use Rattle.geo_model.specs.WorldEvents.{do_event, kill_handle}
use Rattle.geo_model.specs.Tasting.{Judging, judged_world}
use Rattle.geo_model.specs.WorldEvents.{queued_of, with_queued}
use Rattle.geo_model.specs.Freeing.{reap_handle, washed}
use Rattle.geo_model.specs.Commands.{do_command}
use Rattle.geo_model.specs.Step.{Answer, with_commands, step}
use Rattle.geo_model.proofs.StepWalk.{step_by}
use Rattle.geo_laws_requests.specs.Arrivals.{BiosStay, StayOrArrive, BiosStayOrArrive}
use Rattle.geo_laws_requests.proofs.CommandArrivals.{Made, command_made, same_bios}

-- whether the step names no bio
abbrev pub names_none : Step → Bool
names_none (steps.Start b) = false
names_none (steps.Take disk b) = false
names_none (steps.Deliver b got) = false
names_none (steps.Up b) = false
names_none s = true

-- what is known of an answer
abbrev Known : World → Answer → Type 0
Known w (Ok made) = Made w made
Known w (Err found) = ⊤

-- the bios of a world whose commands are others
apart : (w v : World) (o : Outcome) (actor : ℕ) (rest : List LineCommand)
    → StayOrArrive (with_commands w actor rest) v o → StayOrArrive w v o
apart w v o actor rest (inl stay) = inl (record { bios = stay.0.bios; next = stay.0.next }, stay.1)
apart w v o actor rest (inr come) =
    let here = come.1.0 in
    inr (
      come.0,
      (
        record { bios = here.bios; next = here.next; number = here.number; phase = here.phase; root = here.root },
        come.1.1,
      ),
    )

-- a Go
gone : (w : World) (actor : ℕ) (c : LineCommand) (rest : List LineCommand)
    → Made w (do_command (with_commands w actor rest) c.line actor c.command)
gone w actor c rest =
    let v : World = with_commands w actor rest in
    let made : World × Outcome = do_command v c.line actor c.command in
    apart w made.0 made.1 actor rest (command_made v c.line actor c.command)

-- Event, Judge, Reap, Wash

-- a world made by none of the requests' steps, and an outcome that accepts none
ran : (w v : World) → BiosStay w v → Made w (v, outcomes.Ran)
ran w v stay = inl (stay, λ line b e. (let bad : ⊥ = cc in bad))

-- killed handles change no bio
killed : (w : World) (cs : List ℕ) → BiosStay w (fold kill_handle w cs)
killed w [] = same_bios w
killed w (c ∷ cs) = let rest = killed (kill_handle w c) cs in record { bios = rest.bios; next = rest.next }

-- an event that is done changes no bio
event_stays : (w : World) (e : Event) → BiosStay w (do_event w e)
unfolding do_event
event_stays w (events.NewProvider p) = by (is_not_tasted (granted_in w) w.topology p) refl
  where
    by : (b : Bool) → is_not_tasted (granted_in w) w.topology p ≡ b → BiosStay w (do_event w (events.NewProvider p))
    by true e = rw e (same_bios w)
    by false e = rw e (record { bios = refl; next = refl })
event_stays w (events.Spoil p) = record { bios = refl; next = refl }
event_stays w (events.Orphan p) =
    let dead = killed w (dying_consumers w.topology p) in record { bios = dead.bios; next = dead.next }
event_stays w (events.Resize p) = record { bios = refl; next = refl }

-- a read of a taste arrives
judged : (w : World) (x : Judging) (j : Judged) → Made w (judged_world w x j)
judged w x (judgeds.Read sector) =
    inr (
      _,
      (
        record { bios = refl; next = refl; number = refl; phase = refl; root = refl },
        λ line b e. absurd (let bad : ⊥ = cc in bad),
      ),
    )
judged w x judgeds.Ended = ran w _ (record { bios = refl; next = refl })
judged w x judgeds.Next = ran w _ (record { bios = refl; next = refl })
judged w x judgeds.Made = ran w _ (record { bios = refl; next = refl })

-- a reap changes no bio
reaped : (w : World) (c : Option ℕ) → BiosStay w (reap_handle w c)
reaped w None = same_bios w
reaped w (Some c) = record { bios = refl; next = refl }

-- each of them
others_known : (w : World) (seat : ℕ) (s : Step) → names_none s ≡ true → Known w (step w seat s)
others_known w seat =
    step_by w seat (λ s a. names_none s ≡ true → Known w a) (record {
      refuses = λ s f other. tt;
      goes = λ actor c rest is other. gone w actor c rest;
      runs = λ e rest is other.
          let stay = event_stays (record w { events = rest }) e in
          ran w (do_event (record w { events = rest }) e) (record { bios = stay.bios; next = stay.next });
      judges = λ s x j is other. judged w x j;
      reaps = λ h c is other. ran w (reap_handle w c) (reaped w c);
      washes = λ work is other.
          ran w (with_queued w (washed (queued_of w) work)) (record { bios = refl; next = refl });
      starts = λ b x way is other. absurd (let no : ⊥ = cc in no);
      takes = λ disk b x is other. absurd (let no : ⊥ = cc in no);
      delivers = λ b got x is other. absurd (let no : ⊥ = cc in no);
      rises = λ b x o is other. absurd (let no : ⊥ = cc in no);
    })

-- so what is made
pub made_known : (w v : World) (seat : ℕ) (s : Step) (o : Outcome) → names_none s ≡ true → step w seat s ≡ Ok (v, o)
    → StayOrArrive w v o
made_known w v seat s o other made = subst (Known w) made (others_known w seat s other)

-- all of them
pub bios_stay_or_arrive : BiosStayOrArrive
bios_stay_or_arrive = record {
  go = λ w v seat actor o made. made_known w v seat (steps.Go actor) o refl made;
  event = λ w v seat o made. made_known w v seat steps.Event o refl made;
  judge = λ w v seat o made. made_known w v seat steps.Judge o refl made;
  reap = λ w v seat o made. made_known w v seat steps.Reap o refl made;
  wash = λ w v seat o made. made_known w v seat steps.Wash o refl made;
}
