use Rattle.std.proofs.Common.{refl, ◌≡◌, ◌∙◌, ◌==◌, ◌+◌, List, Some, length, slice_get, subst, ap}
use Rattle.std.proofs.lemmas.Option.{slice_get_read}
use Rattle.geo_model.specs.declared.step.Entry.{Entry}
use Rattle.geo_elev.proofs.Histories.{follows_on}
use Rattle.geo_elev.proofs.heads.follow_all.Goals as goal

-- the entry at the place comes right after those before, and was followed
pub loop-at-preserved : goal.loop-at-preserved
loop-at-preserved c =
    let m = c.args.mesh.now in
    let all : c.entries-entries.result.now ≡ m.log = c.entries-entries.ensures ∙ c.log.ensures.log in
    record {
      followed = λ n old.
          follows_on m c.loop-at.at n c.index-entries-at.result
          (c.loop-at.at + 1 == length c.entries-entries.result.now)
          (subst (λ (es : List Entry). slice_get es c.loop-at.at ≡ Some c.index-entries-at.result) all
          (slice_get_read c.entries-entries.result.now (length c.entries-entries.result.now) c.loop-at.at
          c.index-entries-at.result refl c.loop-at-test.true c.index-entries-at.is))
          (ap (λ (es : List Entry). c.loop-at.at + 1 == length es) all)
          c.loop-at.disks c.follow.new.disks c.in_ok-follow.field-0 c.if-not-branch.false
          c.in_ok-follow.ensures.followed (c.loop-at.invariant.followed n old);
      length = c.in_ok-follow.ensures.length ∙ c.loop-at.invariant.length;
    }
