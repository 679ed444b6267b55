use Rattle.std.proofs.Common.{refl}
use Rattle.geo_model.specs.World.{is_busy}
use Rattle.geo_model.specs.Bios.{up_with}
use Rattle.geo_bio.specs.Rows.{up_holding}
use Rattle.geo_bio.proofs.TableLemmas.{busy_facts, one_changed}
use Rattle.geo_bio.proofs.table.BioTable.end.Goals as goal

-- a bio at its disk has no children and isn't one that is done, so its family and its parent's stay right
pub invariant_of-self : goal.invariant_of-self
invariant_of-self c =
    (one_changed c.self.inside.bios c.end_with.new.bios c.self.view_is c.self.invariant c.number.ensures is_busy
    busy_facts c.requires (up_with c.args.held) (up_holding c.args.held)
    (λ x. record { owner = refl; undone = refl; idle = refl; changed = refl }) c.end_with.ensures).table

-- the bio is there and at its disk, so it alone goes up
pub returns : goal.returns
returns c =
    let left =
    one_changed c.self.inside.bios c.end_with.new.bios c.self.view_is c.self.invariant c.number.ensures is_busy
    busy_facts c.requires (up_with c.args.held) (up_holding c.args.held)
    (λ x. record { owner = refl; undone = refl; idle = refl; changed = refl }) c.end_with.ensures in
    record { ended = left.seen_is; in_order = left.ordered }
