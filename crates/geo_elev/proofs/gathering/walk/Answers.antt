use Rattle.std.proofs.Common.{◌≡◌, ◌∙◌, ◌<◌, ◌≤◌, ◌+◌, ℕ, List, sym, subst, refl, arith}
use Rattle.geo_drain.specs.Meshes.{world_of, spot_of}
use Rattle.geo_elev.specs.declared.disks.DiskHead.{DiskHead}
use Rattle.geo_elev.specs.Gathering.{PutsAtSpot, heads_below}
use Rattle.geo_elev.proofs.Gathered.{walk_begins, walk_ends, walk_goes_on, not_before, was_given}
use Rattle.geo_elev.proofs.gathering.walk.Goals as goal

pub loop-bio-init : goal.loop-bio-init
loop-bio-init c = record {
  walked = λ log n old. old ∙ walk_begins c.args.mesh.now c.requires.history log n;
  length = refl;
}

-- the number of the bio was given out, so it is below the next one, which 64 bits hold
pub overflow_add-from : goal.overflow_add-from
overflow_add-from c =
    let given : c.in-Some.bio < (world_of c.args.mesh.now).next_bio =
    was_given c.args.mesh.now c.requires.history c.loop-bio.from c.in-Some.bio c.in-Some.ensures in
    let bound = c.in_ok-put_in.ensures.bound in
    omega (arith, given, bound)

pub loop-bio-smaller : goal.loop-bio-smaller
loop-bio-smaller c =
    let given : c.in-Some.bio < (world_of c.args.mesh.now).next_bio =
    was_given c.args.mesh.now c.requires.history c.loop-bio.from c.in-Some.bio c.in-Some.ensures in
    let least : c.loop-bio.from ≤ c.in-Some.bio =
    not_before c.args.mesh.now c.requires.history c.loop-bio.from c.in-Some.bio c.in-Some.ensures in
    omega (arith, given, least)

-- no bio stands between the place and this one, so what waits below it and it waits below the next place
pub loop-bio-preserved : goal.loop-bio-preserved
loop-bio-preserved c =
    let m = c.args.mesh.now in
    record {
      walked = λ log n old.
          subst (λ (k : ℕ). c.put_in.new.disks ≡ heads_below (world_of m) log (k + 1) n) (sym c.number-from.ensures)
          (walk_goes_on m c.requires.history c.loop-bio.from c.in-Some.bio c.in-Some.ensures log n c.put_in.new.disks
          (subst (λ (ds : List DiskHead). PutsAtSpot
          (spot_of (world_of m) c.in-Some.bio) c.in-Some.bio ds c.put_in.new.disks)
          (c.loop-bio.invariant.walked log n old) c.in_ok-put_in.ensures.put));
      length = c.in_ok-put_in.ensures.length ∙ c.loop-bio.invariant.length;
    }

-- no bio is left, so what waits below the place is all that waits
pub returns-clause-walked : goal.returns-clause-walked
returns-clause-walked c =
    λ log n old.
    c.loop-bio.invariant.walked log n old
    ∙ walk_ends c.args.mesh.now c.requires.history c.loop-bio.from (sym c.in_default.is ∙ c.next_bio.ensures) log n
