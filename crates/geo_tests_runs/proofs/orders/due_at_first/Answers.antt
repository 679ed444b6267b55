use Rattle.std.proofs.Common.{List, sym, subst}
use Rattle.geo_model.specs.declared.step.Entry.{Entry}
use Rattle.geo_drain.specs.Meshes.{opened}
use Rattle.geo_elev.specs.Heads.{AreHeads}
use Rattle.geo_tests_runs.proofs.orders.due_at_first.Goals as goal

pub pick_sweep-requires-clause-heads : goal.pick_sweep-requires-clause-heads
pick_sweep-requires-clause-heads c =
    subst (λ (log : List Entry). AreHeads (opened c.args.mesh.now) log c.in_ok-heads.heads) (sym c.requires.new)
    c.in_ok-heads.ensures
