use Rattle.std.proofs.Common.{sym, ap, ◌∙◌}
use Rattle.std.specs.Option.{option_copied_mut}
use Rattle.geo_bio.specs.BioTable.{is_going}
use Rattle.geo_bio.proofs.TableLemmas.{never_none, one_set}
use Rattle.geo_bio.proofs.table.BioTable.set_phase.Goals as goal

-- the bio is on its way, so it is there
pub unreachable-requires : goal.unreachable-requires
unreachable-requires c =
    absurd (never_none is_going c.self.inside.bios c.self.view_is c.number.ensures c.requires.was
    c.get_mut.ensures.value (ap option_copied_mut c.in_default.is))

-- it has no children and isn't one that is done, so its family and its parent's stay right
pub invariant_of-self : goal.invariant_of-self
invariant_of-self c =
    (one_set c.self.inside.bios c.self.view_is c.self.invariant c.number.ensures c.requires.was c.args.phase
    c.requires.is (sym c.get_mut.ensures.value ∙ ap option_copied_mut c.in-Some.is)).table

-- so it alone is in another phase
pub returns : goal.returns
returns c =
    let left = one_set c.self.inside.bios c.self.view_is c.self.invariant c.number.ensures c.requires.was c.args.phase
    c.requires.is (sym c.get_mut.ensures.value ∙ ap option_copied_mut c.in-Some.is) in
    record { set = left.seen_is; in_order = left.ordered }
