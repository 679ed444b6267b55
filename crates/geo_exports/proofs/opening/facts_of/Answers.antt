use Rattle.std.proofs.Common.{◌≡◌, ◌∙◌, List, true, ap}
use Rattle.geo_model.specs.declared.command.DiskDecl.{DiskDecl}
use Rattle.geo_exports.specs.Opening.{sizes_fit}
use Rattle.geo_exports.proofs.Fitting.{sizes_taken}
use Rattle.geo_exports.proofs.opening.facts_of.Goals as goal

pub slice_bounds-listed-end : goal.slice_bounds-listed-end
slice_bounds-listed-end c =
    sizes_taken c.disks.result.now c.args.sizes.now
    (ap (λ (disks : List DiskDecl). sizes_fit disks c.args.sizes.now) c.disks.ensures.disks ∙ c.requires)
