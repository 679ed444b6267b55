-- A bio that can start is Down, and one that can go up is Up.
use Rattle.std.specs.Prelude.{◌≡◌, ℕ, Bool, true, false, List, [], Option, Some, None, IsTrue}
use Rattle.std.specs.Option.{option_map, option_map_or}
use Rattle.std.proofs.Common.{refl, subst}
use Rattle.geo_model.specs.declared.command.LineCommand.{LineCommand}
use Rattle.geo_model.specs.declared.step.Found.TheVariants as found
use Rattle.geo_model.specs.declared.step.Phase.{Phase}
use Rattle.geo_model.specs.declared.step.Step.TheVariants as steps
use Rattle.geo_model.specs.World.{World, Bio, BioOf, bio_at, is_down, is_up, bio_among}
use Rattle.geo_model.specs.Step.{Answer, step, start_of, up_of}
use Rattle.geo_bio.specs.declared.bio.Held.{Held}
use Rattle.geo_bio.specs.BioTable.{has_phase}
use Rattle.geo_log.specs.Places.{delivered_at}
use Rattle.geo_state.specs.declared.state.State.{State}
use Rattle.geo_state.specs.Shown.{shown_bio}
use Rattle.geo_state.specs.ShownLaws.{BiosAreOfWorld}
use Rattle.geo_state.specs.Steps.{against, IsAgainst}
use Rattle.geo_state.specs.World.{world}
use Rattle.geo_state.proofs.StepLemmas.{world_shows_bios}

module _ (s : State) (seat : ℕ) where
  -- what is found of a bio in the world is what the table has
  at_world : (b : ℕ) → bio_at (world [] [] s) b ≡ option_map (shown_bio (delivered_at [])) (bio_among s.traffic.bios b)
  at_world b =
      let shows : BiosAreOfWorld (delivered_at []) s.traffic.bios (world [] [] s) =
      world_shows_bios (delivered_at []) s.traffic.bios (world [] [] s) refl in
      shows.finds b

  -- where another phase, and no bio, is against a step, the bio is in the phase
  in_phase : (test : Phase → Bool) (answer : Option Bio → Answer) → (against (answer None) ≡ None → ⊥)
      → ((x : Bio) → test x.phase ≡ false → against (answer (Some x)) ≡ None → ⊥) → (o : Option (BioOf Held))
      → against (answer (option_map (shown_bio (delivered_at [])) o)) ≡ None
      → IsTrue (option_map_or (λ (x : BioOf Held). test x.phase) o false)
  in_phase test answer never other None none = absurd (never none)
  in_phase test answer never other (Some x) none = by (test x.phase) refl where
    by : (b : Bool) → test x.phase ≡ b → test x.phase ≡ true
    by true e = e
    by false e = absurd (other (shown_bio (delivered_at []) x) e none)

  pub is_down_now : (b : ℕ) → IsAgainst (λ w. step w seat (steps.Start b)) s None
      → IsTrue (has_phase is_down s.traffic.bios b)
  unfolding step
  is_down_now b is =
      let first : List (List LineCommand) = [] in
      let none : against (start_of (world [] [] s) (bio_at (world [] [] s) b)) ≡ None = is first [] in
      in_phase is_down (start_of (world [] [] s)) (λ e. let no : ⊥ = cc e in no)
      (λ x other e.
      let is_found : against (start_of (world [] [] s) (Some x)) ≡ Some (found.InPhase x.phase) = rw other refl in
      let no : ⊥ = cc (is_found, e) in no)
      (bio_among s.traffic.bios b)
      (subst (λ (x : Option Bio). against (start_of (world [] [] s) x) ≡ None) (at_world b) none)

  pub is_up_now : (b : ℕ) → IsAgainst (λ w. step w seat (steps.Up b)) s None
      → IsTrue (has_phase is_up s.traffic.bios b)
  unfolding step
  is_up_now b is =
      let first : List (List LineCommand) = [] in
      let none : against (up_of (world [] [] s) (bio_at (world [] [] s) b)) ≡ None = is first [] in
      in_phase is_up (up_of (world [] [] s)) (λ e. let no : ⊥ = cc e in no)
      (λ x other e.
      let is_found : against (up_of (world [] [] s) (Some x)) ≡ Some (found.InPhase x.phase) = rw other refl in
      let no : ⊥ = cc (is_found, e) in no)
      (bio_among s.traffic.bios b)
      (subst (λ (x : Option Bio). against (up_of (world [] [] s) x) ≡ None) (at_world b) none)
