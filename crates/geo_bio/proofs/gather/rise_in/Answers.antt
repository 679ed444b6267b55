use Rattle.std.proofs.Common.{◌+◌, ◌^◌, ◌<◌, ◌∙◌, ap, sym, subst}
use Rattle.std.specs.Option.{IfSome}
use Rattle.geo_model.specs.declared.step.Phase.TheVariants as phases
use Rattle.geo_slots.specs.Slots.{value_at}
use Rattle.geo_bio.specs.declared.bio.Bio.{Bio}
use Rattle.geo_bio.specs.Rows.{at_phase}
use Rattle.geo_bio.proofs.TableLemmas.{value_at-changed_other}
use Rattle.geo_bio.proofs.gather.rise_in.Goals as goal

-- the parent is another bio than the child, so it still counts what it counted
pub count_child-requires : goal.count_child-requires
count_child-requires g c =
    let still = value_at-changed_other c.args.bios.now c.set_phase.new.bios c.args.number c.args.parent
    (at_phase phases.Done) c.requires.apart c.set_phase.ensures in
    let there = ap (value_at c.set_phase.new.bios.rows) c.number-else-complete.ensures ∙ still in
    subst (λ o. IfSome o (λ (x : Bio). x.finished + 1 < 2 ^ 32)) (sym there) c.requires.counts
