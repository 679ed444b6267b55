use Rattle.std.proofs.Common.{sym, ◌∙◌}
use Rattle.geo_family.specs.Links.{part_at, last_in_ends}
use Rattle.geo_family.proofs.LastLemmas.{last_child_is}
use Rattle.geo_family.proofs.links.last.Goals as goal

-- the last child in the parent's ends has none of its siblings above it, so it is the last in the rising rows
pub returns : goal.returns
returns c =
    c.last_at.ensures
    ∙ sym (last_child_is c.args.parent 1 c.args.links.now.next c.args.links.now.rows
    (part_at last_in_ends c.args.ends.now.rows c.args.parent) c.requires.rising
    (c.requires.family.lasts c.args.parent))
