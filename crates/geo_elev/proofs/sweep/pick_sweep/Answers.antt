use Rattle.std.proofs.Common.{Some, sym, ◌∙◌}
use Rattle.geo_headline.specs.Sweep.{sweep_order}
use Rattle.geo_laws_sweep.proofs.Sweeping.{sweep_goes_on}
use Rattle.geo_laws_sweep.proofs.SweepRest.{sweep_ends}
use Rattle.geo_drain.specs.Meshes.{world_of}
use Rattle.geo_drain.proofs.Falling.{due_falls}
use Rattle.geo_drain.proofs.Full.{none_at_rest}
use Rattle.geo_elev.proofs.Nexts.{next_given, due_before, due_take, due_behind}
use Rattle.geo_elev.proofs.sweep.pick_sweep.Goals as goal

pub returns-then-at_rest-clause-picked : goal.returns-then-at_rest-clause-picked
returns-then-at_rest-clause-picked c =
    sym (sweep_ends (world_of c.args.mesh.now) c.args.mesh.now.log (sym c.at_rest.ensures.rest ∙ c.if-at_rest.true))

-- a step is due before each Take, else the Take, which is what is next by what is kept, else one behind it
pub returns-in-Some-clause-picked : goal.returns-in-Some-clause-picked
returns-in-Some-clause-picked c =
    due_before (world_of c.args.mesh.now) c.args.mesh.now.log c.in-Some.step
    (sym c.in-Some.is ∙ c.before_takes.ensures)

pub returns-in-Some-next_take-clause-picked : goal.returns-in-Some-next_take-clause-picked
returns-in-Some-next_take-clause-picked c =
    let m = c.args.mesh.now in
    due_take (world_of m) m.log (sym c.in_default.is ∙ c.before_takes.ensures) c.in-Some-next_take.step
    (sym c.in-Some-next_take.is ∙ c.next_take.ensures.kept
    ∙ next_given m c.at_rest.ensures.history c.requires.none_busy c.args.heads.now c.requires.heads)

pub returns-clause-picked : goal.returns-clause-picked
returns-clause-picked c =
    let m = c.args.mesh.now in
    due_behind (world_of m) m.log (sym c.in_default.is ∙ c.before_takes.ensures) c.behind_takes.result
    (sym c.in_default-next_take.is ∙ c.next_take.ensures.kept
    ∙ next_given m c.at_rest.ensures.history c.requires.none_busy c.args.heads.now c.requires.heads)
    c.behind_takes.ensures

-- for each: where a step is enabled the order has one, and at rest it has none
pub returns-in-Some-clause-rest : goal.returns-in-Some-clause-rest
returns-in-Some-clause-rest c =
    none_at_rest sweep_order c.args.mesh.now sweep_goes_on sweep_ends c.at_rest.ensures.history c.requires.none_busy
    (Some c.in-Some.step) (returns-in-Some-clause-picked c)

pub returns-in-Some-next_take-clause-rest : goal.returns-in-Some-next_take-clause-rest
returns-in-Some-next_take-clause-rest c =
    none_at_rest sweep_order c.args.mesh.now sweep_goes_on sweep_ends c.at_rest.ensures.history c.requires.none_busy
    (Some c.in-Some-next_take.step) (returns-in-Some-next_take-clause-picked c)

pub returns-clause-rest : goal.returns-clause-rest
returns-clause-rest c =
    none_at_rest sweep_order c.args.mesh.now sweep_goes_on sweep_ends c.at_rest.ensures.history c.requires.none_busy
    c.behind_takes.result (returns-clause-picked c)

-- for each: the step that is due lowers the measure
pub returns-in-Some-clause-falls : goal.returns-in-Some-clause-falls
returns-in-Some-clause-falls c =
    due_falls sweep_order c.args.mesh.now sweep_goes_on sweep_ends c.at_rest.ensures.history c.requires.none_busy
    (Some c.in-Some.step) (returns-in-Some-clause-picked c)

pub returns-in-Some-next_take-clause-falls : goal.returns-in-Some-next_take-clause-falls
returns-in-Some-next_take-clause-falls c =
    due_falls sweep_order c.args.mesh.now sweep_goes_on sweep_ends c.at_rest.ensures.history c.requires.none_busy
    (Some c.in-Some-next_take.step) (returns-in-Some-next_take-clause-picked c)

pub returns-clause-falls : goal.returns-clause-falls
returns-clause-falls c =
    due_falls sweep_order c.args.mesh.now sweep_goes_on sweep_ends c.at_rest.ensures.history c.requires.none_busy
    c.behind_takes.result (returns-clause-picked c)
