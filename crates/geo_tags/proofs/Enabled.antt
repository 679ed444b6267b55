-- The step that is picked is enabled, where no actor has a command left.
use Rattle.std.specs.Prelude.{◌≡◌, Bool, true, false, List, [], ◌∷◌, length, find, Option, Some, None, Err, IsTrue, is_ok, is_none, option_map}
use Rattle.std.specs.List.{AllByRecursion}
use Rattle.std.specs.Option.{option_map_or}
use Rattle.std.proofs.Common.{refl}
use Rattle.std.proofs.lemmas.Bool.{and_parts}
use Rattle.geo_model.specs.declared.step.Found.{Found}
use Rattle.geo_model.specs.declared.step.Step.{Step}
use Rattle.geo_model.specs.declared.step.Step.TheVariants as steps
use Rattle.geo_model.specs.Bios.{busy_bio, disk_of_bio}
use Rattle.geo_model.specs.Fitting.{Firm}
use Rattle.geo_model.specs.Order.{pick, earliest, first_bio, if_enabled, is_to_take, ready_actors, take_step}
use Rattle.geo_model.specs.Step.{is_enabled, step}
use Rattle.geo_model.specs.Words.{first_some}
use Rattle.geo_model.specs.World.{World, Bio, bio_at, is_down, is_sent, is_up}
use Rattle.geo_model.proofs.DemandLemmas.{find_passes}
use Rattle.geo_laws_graph.proofs.Lists.{found_itself}
use Rattle.geo_laws_graph.proofs.Members.{find-Contains}
use Rattle.geo_laws_rest.proofs.Picking.{from_some, given, take_by}
use Rattle.geo_session.specs.Session.{none_left}
use Rattle.geo_session.proofs.DueSteps.{no_one}

-- the first of options, where each is so that is there
first_is : (P : Step → Type 0) (os : List (Option Step))
    → AllByRecursion (λ (o : Option Step). (s : Step) → o ≡ Some s → P s) os → (s : Step) → first_some os ≡ Some s → P s
first_is P [] all s e = absurd (let no : ⊥ = cc in no)
first_is P (None ∷ os) all s e = first_is P os all.1 s e
first_is P (Some x ∷ os) all s e = all.0 s e

module _ (w : World) (firm : Firm w) where
  abbrev IsEnabled : Step → Type 0
  IsEnabled s = IsTrue (is_enabled w 0 s)

  -- a bio that is found is the one of its number
  itself : (test : Bio → Bool) (x : Bio) → find test w.bios ≡ Some x → bio_at w x.number ≡ Some x
  itself test x found =
      found_itself (λ (y : Bio). y.number) w.next_bio w.bios x firm.bios.numbers (find-Contains test w.bios x found)

  rises : (x : Bio) → find (λ (y : Bio). is_up y.phase) w.bios ≡ Some x → IsEnabled (steps.Up x.number)
  unfolding step
  rises x found =
      rw (itself (λ y. is_up y.phase) x found, find_passes (λ y. is_up y.phase) w.bios x found) refl

  starts : (x : Bio) → find (λ (y : Bio). is_down y.phase) w.bios ≡ Some x → IsEnabled (steps.Start x.number)
  unfolding step
  starts x found =
      rw (itself (λ y. is_down y.phase) x found, find_passes (λ y. is_down y.phase) w.bios x found) refl

  takes : (x : Bio) → find (is_to_take w) w.bios ≡ Some x → IsEnabled (take_step w x)
  takes x found =
      let both =
      and_parts (is_sent x.phase) (option_map_or (λ d. is_none (busy_bio w d)) (disk_of_bio w x) false)
      (find_passes (is_to_take w) w.bios x found) in
      take_by w firm x (itself (is_to_take w) x found) both.0 (disk_of_bio w x) refl both.1

  made_where : (s r : Step) → if_enabled w s ≡ Some r → IsEnabled r
  made_where s r e = given w s IsEnabled (λ is. is) (is_enabled w 0 s) refl r e

  -- what may be picked, in its order
  abbrev options : List (Option Step)
  options =
      first_bio w (λ x. is_up x.phase) (λ x. steps.Up x.number)
      ∷ first_bio w (is_to_take w) (take_step w)
      ∷ first_bio w (λ x. is_down x.phase) (λ x. steps.Start x.number)
      ∷ if_enabled w steps.Judge
      ∷ if_enabled w steps.Event
      ∷ if_enabled w steps.Reap
      ∷ if_enabled w steps.Wash
      ∷ option_map (λ actor. steps.Go actor) (earliest (ready_actors w))
      ∷ []

  each_enabled : w.actors ≡ none_left (length w.actors)
      → AllByRecursion (λ (o : Option Step). (s : Step) → o ≡ Some s → IsEnabled s) options
  each_enabled none = (
    from_some (λ (x : Bio). steps.Up x.number) (find (λ (x : Bio). is_up x.phase) w.bios) IsEnabled rises,
    (
      from_some (take_step w) (find (is_to_take w) w.bios) IsEnabled takes,
      (
        from_some (λ (x : Bio). steps.Start x.number) (find (λ (x : Bio). is_down x.phase) w.bios) IsEnabled starts,
        (
          made_where steps.Judge,
          (
            made_where steps.Event,
            (
              made_where steps.Reap,
              (
                made_where steps.Wash,
                (λ s e. absurd (let go = no_one w none in let bad : ⊥ = cc in bad), tt),
              ),
            ),
          ),
        ),
      ),
    ),
  )

  pub picked_enabled : w.actors ≡ none_left (length w.actors) → (s : Step) → pick w ≡ Some s → IsEnabled s
  unfolding pick
  picked_enabled none s picked = first_is IsEnabled options (each_enabled none) s picked

  -- so it isn't refused
  pub never_refused : w.actors ≡ none_left (length w.actors) → (s : Step) (found : Found) → pick w ≡ Some s
      → step w 0 s ≡ Err found → ⊥
  never_refused none s found picked is =
      let enabled : is_ok (step w 0 s) ≡ true = picked_enabled none s picked in
      let no : ⊥ = cc in no
