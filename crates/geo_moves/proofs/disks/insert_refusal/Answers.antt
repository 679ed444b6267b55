use Rattle.std.specs.Prelude.{true, false}
use Rattle.std.proofs.Common.{sym, ◌∙◌, refl}
use Rattle.geo_model.specs.Topology.{is_name_taken}
use Rattle.geo_moves.proofs.Finding.{refusal-at}
use Rattle.geo_moves.proofs.disks.insert_refusal.Goals as goal

-- Each way out: the disk's seat has a geom just where one of the mesh stands for the disk
pub returns-then-is_some : goal.returns-then-is_some
returns-then-is_some c =
    refusal-at c.args.state.now c.requires.kept c.args.disk c.index-seat.result.now c.requires.there
    c.index-seat.ensures true (is_name_taken c.args.state.now.topo.topology c.index-seat.result.now.name)
    (sym c.is_some.ensures ∙ c.if-is_some.true) refl

pub returns-then-is_name_taken : goal.returns-then-is_name_taken
returns-then-is_name_taken c =
    refusal-at c.args.state.now c.requires.kept c.args.disk c.index-seat.result.now c.requires.there
    c.index-seat.ensures false true (sym c.is_some.ensures ∙ c.if-is_some.false)
    (sym c.is_name_taken.ensures ∙ c.if-is_name_taken.true)

pub returns : goal.returns
returns c =
    refusal-at c.args.state.now c.requires.kept c.args.disk c.index-seat.result.now c.requires.there
    c.index-seat.ensures false false (sym c.is_some.ensures ∙ c.if-is_some.false)
    (sym c.is_name_taken.ensures ∙ c.if-is_name_taken.false)
