use Rattle.std.proofs.Common.{◌≡◌, rules, Some, sym, ap, ◌∙◌}
use Rattle.std.specs.Option.{option_copied_mut}
use Rattle.geo_model.specs.World.{is_busy}
use Rattle.geo_slots.specs.Slots.{value_at}
use Rattle.geo_bio.specs.BioTable.{delivered_result}
use Rattle.geo_bio.proofs.TableLemmas.{never_none, one_delivered}
use Rattle.geo_bio.proofs.table.BioTable.deliver.Goals as goal
use Rattle.geo_bio.proofs.table.BioTable.deliver.Goals.{in-Some-default, in-None-Read, in-None-default}

-- the bio is at its disk, so it is there
pub unreachable-requires : goal.unreachable-requires
unreachable-requires c =
    absurd (never_none is_busy c.self.inside.bios c.self.view_is c.number.ensures c.requires c.get_mut.ensures.value
    (ap option_copied_mut c.in_default.is))

-- this is the bio
there : (c : goal.Joined-found) → value_at c.self.inside.bios.rows c.number.result ≡ Some c.in-Some.found.now
there c = sym c.get_mut.ensures.value ∙ ap option_copied_mut c.in-Some.is

-- it holds what its command gets
holds : (c : goal.Joined-found)
    → c.match-errno.held ≡ delivered_result c.in-Some.found.now.cmd c.args.place c.args.errno
holds c =
    elim c.match-errno.branch [
      | in-Some-default w ↦ search rules
      | in-None-Read w ↦ search rules
      | in-None-default w ↦ search rules
    ]

-- a bio at its disk has no children and isn't one that is done, so its family and its parent's stay right
pub invariant_of-self : goal.invariant_of-self
invariant_of-self c =
    (one_delivered c.self.inside.bios c.self.view_is c.self.invariant c.number.ensures c.requires c.args.place
    c.args.errno (there c) (holds c)).table

-- so it alone goes up
pub returns : goal.returns
returns c =
    let left = one_delivered c.self.inside.bios c.self.view_is c.self.invariant c.number.ensures c.requires c.args.place
    c.args.errno (there c) (holds c) in
    record { delivered = left.seen_is; in_order = left.ordered }
