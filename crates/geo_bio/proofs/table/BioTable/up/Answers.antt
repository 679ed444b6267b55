use Rattle.std.proofs.Common.{ap}
use Rattle.std.specs.Option.{option_copied}
use Rattle.geo_model.specs.World.{is_up}
use Rattle.geo_bio.proofs.TableLemmas.{never_none}
use Rattle.geo_bio.proofs.UpLemmas.{up_got, apart, counts, follow, raised_child, raised_root}
use Rattle.geo_bio.proofs.table.BioTable.up.Goals as goal

-- the bio is up, so it is there
pub unreachable-requires : goal.unreachable-requires
unreachable-requires g c =
    absurd (never_none is_up c.self.inside.bios c.self.view_is c.number-number.ensures c.requires c.get.ensures.value
    (ap option_copied c.in-None.is))

-- the parent waits, so it isn't this child, it still counts fewer than it has, and its children are in the table
pub rise_in-requires : goal.rise_in-requires
rise_in-requires g c =
    let got = up_got c.self.inside.bios c.self.view_is c.self.invariant c.number-number.ensures c.get.ensures.value
    (ap option_copied c.in-Some.is) c.requires in
    record {
      apart = apart got c.in-Child.is;
      counts = counts got c.in-Child.is;
      follow = follow got c.in-Child.is c.get.ensures.bound;
    }

-- the child counts in its parent as done, or was the last, and all children go and the parent goes up
pub invariant_of-self : goal.invariant_of-self
invariant_of-self g c =
    let got = up_got c.self.inside.bios c.self.view_is c.self.invariant c.number-number.ensures c.get.ensures.value
    (ap option_copied c.in-Some.is) c.requires in
    (raised_child got c.in-Child.is (g.B.LogBytes.place_bytes c.args.log.now) c.rise_in.new.bios c.rise_in.result
    c.rise_in.ensures.told c.rise_in.ensures.rises c.rise_in.ensures.stays).table

-- the parent knows its children and counts those that are done, so it sees itself which is the last
pub returns-in-Child : goal.returns-in-Child
returns-in-Child g c =
    let got = up_got c.self.inside.bios c.self.view_is c.self.invariant c.number-number.ensures c.get.ensures.value
    (ap option_copied c.in-Some.is) c.requires in
    let raised = raised_child got c.in-Child.is (g.B.LogBytes.place_bytes c.args.log.now) c.rise_in.new.bios
    c.rise_in.result c.rise_in.ensures.told c.rise_in.ensures.rises c.rise_in.ensures.stays in
    assumption raised

-- a root that goes has no children, and it is nobody's child
pub invariant_of-self-in_default : goal.invariant_of-self-in_default
invariant_of-self-in_default g c =
    let got = up_got c.self.inside.bios c.self.view_is c.self.invariant c.number-number.ensures c.get.ensures.value
    (ap option_copied c.in-Some.is) c.requires in
    (raised_root got c.in_default.not-Child (g.B.LogBytes.place_bytes c.args.log.now) c.take_root.new.bios
    c.take_root.result c.take_root.ensures.told c.take_root.ensures.gone c.take_root.ensures.stays).table

-- a root is gone with its row, and tells what it held
pub returns-in_default : goal.returns-in_default
returns-in_default g c =
    let got = up_got c.self.inside.bios c.self.view_is c.self.invariant c.number-number.ensures c.get.ensures.value
    (ap option_copied c.in-Some.is) c.requires in
    let raised = raised_root got c.in_default.not-Child (g.B.LogBytes.place_bytes c.args.log.now)
    c.take_root.new.bios c.take_root.result c.take_root.ensures.told c.take_root.ensures.gone
    c.take_root.ensures.stays in
    assumption raised
