-- At rest the fixed order gives no step.
use Rattle.std.specs.Prelude.{◌≡◌, ℕ, ◌+◌, ◌==◌, Bool, true, false, List, [], ◌∷◌, length, flat_map, Option, None, option_map}
use Rattle.std.specs.List.{list_all, enumerate_from}
use Rattle.std.proofs.Common.{refl}
use Rattle.std.proofs.lemmas.Bool.{eqb-true, and_parts}
use Rattle.std.proofs.lemmas.List.{nil_from_length}
use Rattle.geo_base.proofs.Options.{is_nothing}
use Rattle.geo_model.specs.declared.command.LineCommand.{LineCommand}
use Rattle.geo_model.specs.declared.step.Step.{Step}
use Rattle.geo_model.specs.declared.step.Step.TheVariants as steps
use Rattle.geo_model.specs.Words.{first_some}
use Rattle.geo_model.specs.World.{World, Bio, is_up, is_down}
use Rattle.geo_model.specs.Freeing.{reap_work, wash_work}
use Rattle.geo_model.specs.Step.{step, event, judge_next, reap_next, wash_next}
use Rattle.geo_model.specs.Order.{Rest, is_at_rest, pick, first_bio, is_to_take, take_step, if_enabled, ready_actor, earliest, ready_actors}

-- an actor without a command is not ready
ready-cons : (w : World) (k : ℕ) (rest : List LineCommand) (others : List (List LineCommand)) (b : Bool)
    → (length rest == 0) ≡ b → list_all (λ (xs : List LineCommand). length xs == 0) (rest ∷ others) ≡ true
    → (list_all (λ (xs : List LineCommand). length xs == 0) others ≡ true
    → flat_map (ready_actor w) (enumerate_from (k + 1) others) ≡ [])
    → flat_map (ready_actor w) (enumerate_from k (rest ∷ others)) ≡ []
ready-cons w k rest others true e all so =
    let is : rest ≡ [] = nil_from_length rest (eqb-true (length rest) 0 e) in rw is (so (rw e at all))
ready-cons w k rest others false e all so = let no : false ≡ true = rw e at all in cc

-- so none of them is
pub none-ready : (w : World) (k : ℕ) (actors : List (List LineCommand))
    → list_all (λ (xs : List LineCommand). length xs == 0) actors ≡ true
    → flat_map (ready_actor w) (enumerate_from k actors) ≡ []
none-ready w k [] all = refl
none-ready w k (rest ∷ others) all =
    ready-cons w k rest others (length rest == 0) refl all (none-ready w (k + 1) others)

-- of eight options that are empty none is first
pub all-none : (a b c d e f g h : Option Step) → a ≡ None → b ≡ None → c ≡ None → d ≡ None → e ≡ None → f ≡ None
    → g ≡ None → h ≡ None
    → first_some (a ∷ b ∷ c ∷ d ∷ e ∷ f ∷ g ∷ h ∷ []) ≡ None
all-none a b c d e f g h ea eb ec ed ee ef eg eh = rw (ea, eb, ec, ed, ee, ef, eg, eh) refl

-- without bios no bio makes a step
pub no-bio : (w : World) (test : Bio → Bool) (to_step : Bio → Step) → w.bios ≡ [] → first_bio w test to_step ≡ None
no-bio w test to_step e = rw e refl

-- without a taste there is no Judge
pub no-judge : (w : World) → w.taste ≡ None → if_enabled w steps.Judge ≡ None
unfolding step judge_next
no-judge w e = rw e refl

-- without events there is no Event
pub no-event : (w : World) → w.taste ≡ None → w.events ≡ [] → if_enabled w steps.Event ≡ None
unfolding step event
no-event w t e = rw (t, e) refl

-- where nothing can be reaped there is no Reap
pub no-reap : (w : World) → reap_work w ≡ None → if_enabled w steps.Reap ≡ None
unfolding step reap_next
no-reap w e = rw e refl

-- where nothing can be washed there is no Wash
pub no-wash : (w : World) → wash_work w ≡ None → if_enabled w steps.Wash ≡ None
unfolding step wash_next
no-wash w e = rw e refl

-- where none is ready there is no Go
pub no-go : (w : World) → ready_actors w ≡ [] → option_map (λ actor. steps.Go actor) (earliest (ready_actors w)) ≡ None
no-go w e = rw e refl

-- so at rest there is no step
pub pick-rest : (w : World) → Rest w → pick w ≡ None
unfolding is_at_rest pick
pick-rest w rest =
    let truth : is_at_rest w ≡ true = rest in
    let one = and_parts _ _ truth in
    let two = and_parts _ _ one.1 in
    let three = and_parts _ _ two.1 in
    let four = and_parts _ _ three.1 in
    let five = and_parts _ _ four.1 in
    let bios : w.bios ≡ [] = nil_from_length w.bios (eqb-true (length w.bios) 0 two.0) in
    let events : w.events ≡ [] = nil_from_length w.events (eqb-true (length w.events) 0 three.0) in
    let taste : w.taste ≡ None = is_nothing w.taste four.0 in
    all-none _ _ _ _ _ _ _ _
    (no-bio w (λ x. is_up x.phase) (λ x. steps.Up x.number) bios)
    (no-bio w (is_to_take w) (take_step w) bios)
    (no-bio w (λ x. is_down x.phase) (λ x. steps.Start x.number) bios)
    (no-judge w taste)
    (no-event w taste events)
    (no-reap w (is_nothing (reap_work w) five.0))
    (no-wash w (is_nothing (wash_work w) five.1))
    (no-go w (none-ready w 0 w.actors one.0))
