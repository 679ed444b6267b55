-- At rest the elevator order gives no step.
use Rattle.std.proofs.Common.{ap, arith, ◌≡◌, ℕ, true, List, [], ◌∷◌, length, map, None, refl, eqb-true}
use Rattle.std.proofs.lemmas.Bool.{and_parts}
use Rattle.std.proofs.lemmas.List.{nil_from_length}
use Rattle.std.specs.List.{range_with_len}
use Rattle.geo_base.proofs.Options.{is_nothing}
use Rattle.geo_model.specs.declared.step.Entry.{Entry}
use Rattle.geo_model.specs.declared.step.Step.TheVariants as steps
use Rattle.geo_model.specs.Words.{first_some}
use Rattle.geo_model.specs.World.{World, is_up, is_down}
use Rattle.geo_model.specs.Freeing.{reap_work, wash_work}
use Rattle.geo_model.specs.Order.{is_at_rest}
use Rattle.geo_model.proofs.RestLemmas.{none-ready, all-none, no-bio, no-judge, no-event, no-reap, no-wash, no-go}
use Rattle.geo_laws_sweep.specs.SweepLaws.{SweepEnds}
use Rattle.geo_headline.specs.Sweep.{pick_sweep, next_take, first_take, enabled_one}

-- no disk has a Take
no-takes : (w : World) (log : List Entry) (disks : List ℕ) → w.bios ≡ []
    → first_some (map (next_take w log) disks) ≡ None
no-takes w log [] e = refl
no-takes w log (d ∷ ds) e = grind (arith, e, no-takes w log ds e)

-- without bios there is no Take
no-take : (w : World) (log : List Entry) → w.bios ≡ [] → enabled_one w (first_take w log) ≡ None
no-take w log e = ap (enabled_one w) (no-takes w log (range_with_len 0 (length w.disks)) e)

-- so at rest there is no step
pub sweep_ends : SweepEnds
unfolding is_at_rest pick_sweep
sweep_ends w log rest =
    let truth : is_at_rest w ≡ true = rest in
    let one = and_parts _ _ truth in
    let two = and_parts _ _ one.1 in
    let three = and_parts _ _ two.1 in
    let four = and_parts _ _ three.1 in
    let five = and_parts _ _ four.1 in
    let bios : w.bios ≡ [] = nil_from_length w.bios (eqb-true (length w.bios) 0 two.0) in
    let events : w.events ≡ [] = nil_from_length w.events (eqb-true (length w.events) 0 three.0) in
    let taste : w.taste ≡ None = is_nothing w.taste four.0 in
    all-none _ _ _ _ _ _ _ _
    (no-bio w (λ x. is_up x.phase) (λ x. steps.Up x.number) bios)
    (no-bio w (λ x. is_down x.phase) (λ x. steps.Start x.number) bios)
    (no-judge w taste)
    (no-event w taste events)
    (no-go w (none-ready w 0 w.actors one.0))
    (no-take w log bios)
    (no-reap w (is_nothing (reap_work w) five.0))
    (no-wash w (is_nothing (wash_work w) five.1))
