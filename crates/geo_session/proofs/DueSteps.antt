-- The step that is due in the fixed order, where no actor has a command left.
use Rattle.std.specs.Prelude.{◌≡◌, ℕ, ◌==◌, true, List, [], ◌∷◌, length, Option, Some, None, option_map}
use Rattle.std.specs.List.{list_all}
use Rattle.std.proofs.Common.{refl, sym, ap, subst, ◌∙◌}
use Rattle.std.proofs.lemmas.List.FromFn.{length-map-range_with_len}
use Rattle.geo_model.specs.declared.command.LineCommand.{LineCommand}
use Rattle.geo_model.specs.declared.step.Step.{Step}
use Rattle.geo_model.specs.declared.step.Step.TheVariants as steps
use Rattle.geo_model.specs.Words.{first_some}
use Rattle.geo_model.specs.World.{World, is_up, is_down}
use Rattle.geo_model.specs.Order.{pick, first_bio, is_to_take, take_step, if_enabled, earliest, ready_actors}
use Rattle.geo_model.proofs.RestLemmas.{no-go, none-ready}
use Rattle.geo_session.specs.declared.live.Live.{Live}
use Rattle.geo_session.specs.Live.{session_view}
use Rattle.geo_session.specs.Session.{SessionView, none_left}
use Rattle.geo_session.proofs.Nones.{all_done}

-- a live mesh has no command left
none_seen : (l : Live) → ((session_view l).world).actors ≡ none_left (length ((session_view l).world).actors)
none_seen l =
    let none : ℕ → List LineCommand = λ actor. [] in
    ap none_left (sym (length-map-range_with_len none 0 l.actors))

pub none_shown : (l : Live) (v : SessionView) → session_view l ≡ v
    → (v.world).actors ≡ none_left (length (v.world).actors)
none_shown l v is =
    subst (λ (x : SessionView). (x.world).actors ≡ none_left (length (x.world).actors)) is (none_seen l)

-- so no one is ready
pub no_one : (w : World) → w.actors ≡ none_left (length w.actors)
    → option_map (λ actor. steps.Go actor) (earliest (ready_actors w)) ≡ None
no_one w none =
    let done : list_all (λ (rest : List LineCommand). length rest == 0) w.actors ≡ true =
    ap (list_all (λ (rest : List LineCommand). length rest == 0)) none ∙ all_done (length w.actors) in
    no-go w (none-ready w 0 w.actors done)

-- behind seven that are empty comes the eighth
seventh : (a b c d e f g h : Option Step) → a ≡ None → b ≡ None → c ≡ None → d ≡ None → e ≡ None → f ≡ None
    → h ≡ None
    → g ≡ first_some (a ∷ b ∷ c ∷ d ∷ e ∷ f ∷ g ∷ h ∷ [])
seventh a b c d e f None h ea eb ec ed ee ef eh = rw (ea, eb, ec, ed, ee, ef, eh) refl
seventh a b c d e f (Some s) h ea eb ec ed ee ef eh = rw (ea, eb, ec, ed, ee, ef) refl

-- where nothing comes before a Wash, it is due if it is enabled
pub wash_last : (w : World) → w.actors ≡ none_left (length w.actors)
    → first_bio w (λ x. is_up x.phase) (λ x. steps.Up x.number) ≡ None
    → first_bio w (is_to_take w) (take_step w) ≡ None
    → first_bio w (λ x. is_down x.phase) (λ x. steps.Start x.number) ≡ None
    → if_enabled w steps.Judge ≡ None → if_enabled w steps.Event ≡ None → if_enabled w steps.Reap ≡ None
    → if_enabled w steps.Wash ≡ pick w
unfolding pick
wash_last w none up take down judge event reap =
    seventh _ _ _ _ _ _ _ _ up take down judge event reap (no_one w none)
