use Rattle.std.proofs.Common.{refl, subst}
use Rattle.geo_model.specs.declared.class.Shape.TheVariants.{Slices, Logical, Named, Joined, Striped}
use Rattle.geo_model.specs.Acceptance.{concat_member, stripe_member}
use Rattle.geo_mesh.specs.Cells.{provider_seen}
use Rattle.geo_taste.specs.Accepts.{NamesAPlace}
use Rattle.geo_taste.specs.Members.{member_of}
use Rattle.geo_taste.proofs.ModelLemmas.{has_sector, member_answered, member_inside, place_inside, shape_answered}
use Rattle.geo_taste.proofs.shapes.accept.Goals as goal

-- for each class: a provider of a sound graph is one sector long at least
pub accept_label-requires-clause-sector : goal.accept_label-requires-clause-sector
accept_label-requires-clause-sector c =
    has_sector c.args.topo.now.topology c.args.prov (provider_seen c.args.prov c.in-Some.below.now)
    c.in-Some.ensures.sound c.in-Some.ensures.provider

pub accept_member-requires-clause-sector : goal.accept_member-requires-clause-sector
accept_member-requires-clause-sector c =
    has_sector c.args.topo.now.topology c.args.prov (provider_seen c.args.prov c.in-Some.below.now)
    c.in-Some.ensures.sound c.in-Some.ensures.provider

pub accept_member-requires-in-Striped-clause-sector : goal.accept_member-requires-in-Striped-clause-sector
accept_member-requires-in-Striped-clause-sector c =
    has_sector c.args.topo.now.topology c.args.prov (provider_seen c.args.prov c.in-Some.below.now)
    c.in-Some.ensures.sound c.in-Some.ensures.provider

-- for both classes: a record that was accepted names a place below its count
pub accept_member-requires-clause-place : goal.accept_member-requires-clause-place
accept_member-requires-clause-place c =
    member_inside (member_of c.in_ok-member-in-Joined.member) (concat_member c.in-Joined.found)
    c.in_ok-member-in-Joined.ensures.member
    (place_inside c.in-Joined.found.place c.in-Joined.found.count (subst NamesAPlace c.in-Joined.is c.requires.place))

pub accept_member-requires-in-Striped-clause-place : goal.accept_member-requires-in-Striped-clause-place
accept_member-requires-in-Striped-clause-place c =
    member_inside (member_of c.in_ok-member-in-Striped.member) (stripe_member c.in-Striped.found)
    c.in_ok-member-in-Striped.ensures.member
    (place_inside c.in-Striped.found.place c.in-Striped.found.count
    (subst NamesAPlace c.in-Striped.is c.requires.place))

-- for each shape: what its class makes of it is the model's, since in a firm mesh what is made has sizes of providers
pub returns-in-Slices-clause-made : goal.returns-in-Slices-clause-made
returns-in-Slices-clause-made c =
    shape_answered c.args.topo.now c.args.queue.now c.args.prov (provider_seen c.args.prov c.in-Some.below.now)
    c.in-Some.ensures.provider c.args.shape.now (Slices c.in-Slices.table) c.in-Slices.is c.accept_slices.new.topo
    c.accept_slices.new.queue c.accept_slices.result c.accept_slices.ensures.made

pub returns-in-Logical-clause-made : goal.returns-in-Logical-clause-made
returns-in-Logical-clause-made c =
    shape_answered c.args.topo.now c.args.queue.now c.args.prov (provider_seen c.args.prov c.in-Some.below.now)
    c.in-Some.ensures.provider c.args.shape.now (Logical c.in-Logical.table) c.in-Logical.is
    c.accept_partitions.new.topo c.accept_partitions.new.queue c.accept_partitions.result
    c.accept_partitions.ensures.made

pub returns-in-Named-clause-made : goal.returns-in-Named-clause-made
returns-in-Named-clause-made c =
    shape_answered c.args.topo.now c.args.queue.now c.args.prov (provider_seen c.args.prov c.in-Some.below.now)
    c.in-Some.ensures.provider c.args.shape.now (Named c.in-Named.found) c.in-Named.is c.accept_label.new.topo
    c.accept_label.new.queue c.accept_label.result c.accept_label.ensures.made

pub returns-in_ok-member-in-Joined-clause-made : goal.returns-in_ok-member-in-Joined-clause-made
returns-in_ok-member-in-Joined-clause-made c =
    member_answered c.args.topo.now c.args.queue.now c.args.prov (provider_seen c.args.prov c.in-Some.below.now)
    c.in-Some.ensures.provider c.args.shape.now (Joined c.in-Joined.found) c.in-Joined.is c.accept_member.new.topo
    c.accept_member.new.queue c.accept_member.result (member_of c.in_ok-member-in-Joined.member)
    (concat_member c.in-Joined.found) c.in_ok-member-in-Joined.ensures.member refl c.accept_member.ensures.made

pub returns-in_ok-member-in-Striped-clause-made : goal.returns-in_ok-member-in-Striped-clause-made
returns-in_ok-member-in-Striped-clause-made c =
    member_answered c.args.topo.now c.args.queue.now c.args.prov (provider_seen c.args.prov c.in-Some.below.now)
    c.in-Some.ensures.provider c.args.shape.now (Striped c.in-Striped.found) c.in-Striped.is
    c.accept_member-in-Striped.new.topo c.accept_member-in-Striped.new.queue c.accept_member-in-Striped.result
    (member_of c.in_ok-member-in-Striped.member) (stripe_member c.in-Striped.found)
    c.in_ok-member-in-Striped.ensures.member refl c.accept_member-in-Striped.ensures.made
