use Rattle.geo_moves.proofs.Grown.{grown-kept}
use Rattle.geo_moves.proofs.makes.make.Goals as goal

-- the geom holds no grant and is of no disk, and its provider is counted
pub returns-clause-kept : goal.returns-clause-kept
returns-clause-kept c =
    grown-kept c.args.state.now c.grow.new.state c.args.geom c.args.below.now c.args.offer.now
    c.in_ok-grow.ensures.grown c.requires.stands c.requires.kind
    c.requires.can_stand c.requires.no_disk
