-- Steps that destroy nothing, and what they offer for taste lives.
use Rattle.std.specs.Prelude.{◌≡◌, ◌⊎◌, ℕ, true, Some, IfSome, ⊤, option_and_then}
use Rattle.std.proofs.Common.{inl, ap, subst, arith}
use Rattle.geo_model.specs.declared.command.LineCommand.{LineCommand}
use Rattle.geo_model.specs.declared.step.Step.{Step}
use Rattle.geo_model.specs.declared.step.Step.TheVariants as steps
use Rattle.geo_model.specs.World.{World}
use Rattle.geo_model.specs.Log.{world_after}
use Rattle.geo_model.specs.History.{first_command, next_command}
use Rattle.geo_model.specs.CommandEffects.{is_of_geoms}
use Rattle.geo_model.specs.Steady.{OffersOnlyLiving}
use Rattle.geo_model.specs.Laws.{world_by}
use Rattle.geo_model.specs.Fitting.{Firm}
use Rattle.geo_model.specs.Step.{with_commands}
use Rattle.geo_model.proofs.StepWalk.{step_by}
use Rattle.geo_laws_graph.proofs.Living.{sound-order}
use Rattle.geo_laws_offers.specs.OfferingLaws.{Adds, EndsTaste, is_of_bio, StepsOnlyAdd, JudgesAndWashesOfferLiving, StaysFreesNothing}
use Rattle.geo_laws_offers.proofs.Bios.{nothing-adds, way-adds, to-adds}
use Rattle.geo_laws_offers.proofs.Events.{head-does}
use Rattle.geo_laws_offers.proofs.Geoms.{command-adds}
use Rattle.geo_laws_offers.proofs.Judges.{judges-go}
use Rattle.geo_laws_offers.proofs.Washes.{fewer-offers, wash-offers, ends-offer}
use Rattle.geo_laws_offers.proofs.Frees.{stays-frees}

-- what a step does, by its kind
abbrev pub Does : World → Step → World → Type 0
Does w (steps.Go actor) after =
    IfSome (next_command w actor) (λ c. is_of_geoms c.command ≡ true) → Firm w → Adds w after
Does w steps.Judge after = Firm w → Adds w after ⊎ EndsTaste w after
Does w steps.Reap after = ⊤
Does w steps.Wash after = OffersOnlyLiving w after
Does w s after = Adds w after

-- one that isn't enabled does nothing
nothing-does : (w : World) (s : Step) → Does w s w
nothing-does w (steps.Go actor) = λ of firm. nothing-adds w
nothing-does w steps.Judge = λ firm. inl (nothing-adds w)
nothing-does w steps.Reap = tt
nothing-does w steps.Wash = fewer-offers w w (λ p. omega arith)
nothing-does w s = nothing-adds w

-- each step
pub step-does : (w : World) (seat : ℕ) (s : Step) → Does w s (world_by w seat s)
step-does w seat =
    step_by w seat (λ s a. Does w s (world_after w a)) (record {
      refuses = λ s f. nothing-does w s;
      goes = λ actor c rest is of firm.
          let next : next_command w actor ≡ Some c = ap (λ o. option_and_then first_command o) is.left in
          command-adds (with_commands w actor rest) (sound-order w firm.graph.numbers) c.line actor c.command
          (subst (λ o. IfSome o (λ (x : LineCommand). is_of_geoms x.command ≡ true)) next of);
      runs = λ e rest is. head-does w e rest is.queue;
      judges = λ s x j is firm. judges-go w s x j is (sound-order w firm.graph.numbers);
      reaps = λ h c is. tt;
      washes = λ work is. wash-offers w work;
      starts = λ b x way is. way-adds w x way;
      takes = λ disk b x is. nothing-adds w;
      delivers = λ b got x is. nothing-adds w;
      rises = λ b x o is. to-adds w x o;
    })

-- a step of a bio
bio-adds : (w : World) (s : Step) (after : World) → is_of_bio s ≡ true → Does w s after → Adds w after
bio-adds w (steps.Start b) after of does = does
bio-adds w (steps.Take disk b) after of does = does
bio-adds w (steps.Deliver b got) after of does = does
bio-adds w (steps.Up b) after of does = does
bio-adds w s after of does = absurd (let no : ⊥ = cc in no)

-- the steps of bios, an event, and a Go of a command of geoms only add
pub steps_only_add : StepsOnlyAdd
steps_only_add = record {
  bios = λ w seat s of. bio-adds w s (world_by w seat s) of (step-does w seat s);
  event = λ w seat. step-does w seat steps.Event;
  done = λ w seat actor. step-does w seat (steps.Go actor);
}

-- a Judge only adds or ends a taste, and what it and a Wash offer lives
pub judges_and_washes_offer_living : JudgesAndWashesOfferLiving
judges_and_washes_offer_living = record {
  judged = λ w seat. step-does w seat steps.Judge;
  ended = ends-offer;
  washed = λ w seat. step-does w seat steps.Wash;
}

-- where each part is still there, nothing goes
pub stays_frees_nothing : StaysFreesNothing
stays_frees_nothing w e firm stays = stays-frees w firm e stays
