-- Which steps ask a disk or reply, and what a Deliver makes.
use Rattle.std.specs.Prelude.{◌≡◌, ℕ, Bool, true, false, ◌&&◌, Ok, Err, ⊤}
use Rattle.std.proofs.Common.{refl, subst}
use Rattle.geo_model.specs.declared.class.Judged.{Judged}
use Rattle.geo_model.specs.declared.class.Judged.TheVariants.{Read, Next, Made, Ended}
use Rattle.geo_model.specs.declared.step.Outcome.{Outcome}
use Rattle.geo_model.specs.declared.step.Outcome.TheVariants as outcomes
use Rattle.geo_model.specs.declared.step.Owner.{Owner}
use Rattle.geo_model.specs.declared.step.Owner.TheVariants as owners
use Rattle.geo_model.specs.declared.step.Step.{Step}
use Rattle.geo_model.specs.declared.step.Step.TheVariants as steps
use Rattle.geo_model.specs.Bios.{Way, Bounces, Fails, Sends, Splits, Passes, start_by, up_to}
use Rattle.geo_model.specs.Commands.{do_command}
use Rattle.geo_model.specs.Step.{Answer, step, with_commands}
use Rattle.geo_model.specs.Tasting.{Judging, judged_world}
use Rattle.geo_model.specs.World.{World, Bio}
use Rattle.geo_model.proofs.StepWalk.{step_by}
use Rattle.geo_session.specs.Generation.{is_graph_step}
use Rattle.geo_tags.proofs.OwnLines.{IsOwn, own_line}

-- whether a disk is asked
abbrev pub asks : Outcome → Bool
asks (outcomes.Asked request) = true
asks _ = false

-- whether a line is replied to
abbrev pub replies : Outcome → Bool
replies (outcomes.Replied line reply) = true
replies _ = false

-- a Deliver is delivered; but for a Take no step asks, and what works on the graph doesn't reply
abbrev pub Tells : Step → Outcome → Type 0
Tells (steps.Take disk bio) o = ⊤
Tells (steps.Deliver bio got) o = o ≡ outcomes.Delivered
Tells s o = (asks o ≡ false) × ((is_graph_step s && replies o) ≡ false)

abbrev AnswerTells : Step → Answer → Type 0
AnswerTells s (Ok made) = Tells s made.1
AnswerTells s (Err found) = ⊤

-- what is of a line asks no disk
own_asks : (line : ℕ) (o : Outcome) → IsOwn line o → asks o ≡ false
own_asks line (outcomes.Asked request) own = absurd own
own_asks line _ own = refl

judging_tells : (w : World) (x : Judging) (j : Judged) → Tells steps.Judge (judged_world w x j).1
judging_tells w x (Read sector) = (refl, refl)
judging_tells w x Next = (refl, refl)
judging_tells w x Made = (refl, refl)
judging_tells w x Ended = (refl, refl)

way_asks : (w : World) (x : Bio) (way : Way) → asks (start_by w x way).1 ≡ false
way_asks w x (Bounces e) = refl
way_asks w x (Fails g) = refl
way_asks w x (Sends disk) = refl
way_asks w x (Splits targets) = refl
way_asks w x (Passes g targets) = refl

owner_asks : (w : World) (x : Bio) (o : Owner) → asks (up_to w x o).1 ≡ false
owner_asks w x (owners.Line handle l) = refl
owner_asks w x owners.Taste = refl
owner_asks w x (owners.Child parent index) = refl

-- each step
each_tells : (w : World) (seat : ℕ) (s : Step) → AnswerTells s (step w seat s)
each_tells w seat =
    step_by w seat AnswerTells (record {
      refuses = λ s f. tt;
      goes = λ actor c rest is. (
        own_asks c.line (do_command (with_commands w actor rest) c.line actor c.command).1
            (own_line (with_commands w actor rest) c.line actor c.command),
        refl,
      );
      runs = λ e rest is. (refl, refl);
      judges = λ t x j is. judging_tells w x j;
      reaps = λ h c is. (refl, refl);
      washes = λ work is. (refl, refl);
      starts = λ b x way is. (way_asks w x way, refl);
      takes = λ disk b x is. tt;
      delivers = λ b got x is. refl;
      rises = λ b x o is. (owner_asks w x o, refl);
    })

pub outcome_tells : (w : World) (seat : ℕ) (s : Step) (after : World) (o : Outcome) → step w seat s ≡ Ok (after, o)
    → Tells s o
outcome_tells w seat s after o does = subst (AnswerTells s) does (each_tells w seat s)
