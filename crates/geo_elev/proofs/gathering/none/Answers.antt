use Rattle.std.proofs.Common.{◌∙◌, ◌++◌, ◌∷◌, [], List, ap, arith}
use Rattle.geo_headline.specs.Sweep.{Waiting}
use Rattle.geo_elev.specs.declared.disks.DiskHead.{DiskHead}
use Rattle.geo_elev.specs.Heads.{no_head}
use Rattle.geo_elev.proofs.Gathered.{none_one}
use Rattle.geo_elev.proofs.gathering.none.Goals as goal

pub loop-at-preserved : goal.loop-at-preserved
loop-at-preserved c = record {
  made = c.in_ok-push.ensures.items
      ∙ ap (λ (w : List Waiting). c.loop-at.disks.items ++ record { head = 0; waiting = w } ∷ []) c.new.ensures
      ∙ ap (λ (ds : List DiskHead). ds ++ no_head 0 ∷ []) c.loop-at.invariant.made
      ∙ none_one c.loop-at.at;
  within = let less = c.loop-at-test.true in omega (arith, less);
}
