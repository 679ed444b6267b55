use Rattle.std.proofs.Common.{drop, ◌+◌, List, subst}
use Rattle.std.proofs.lemmas.Result.{err_from_is_err_and}
use Rattle.geo_model.specs.declared.command.DiskDecl.{DiskDecl}
use Rattle.geo_verify.specs.Forms.{IsFormFault, sizes_from}
use Rattle.geo_verify.proofs.SizesRead.{fault_behind, from_here}
use Rattle.geo_verify.proofs.sizes.read_sizes.Goals as goal

-- the lines before were of the form, so the fault of this disk's line is the first
pub returns-in_err-sectors-clause-read : goal.returns-in_err-sectors-clause-read
returns-in_err-sectors-clause-read c =
    let p = err_from_is_err_and c.from_residual.result c.from_residual.ensures.1 in
    let left : List DiskDecl = drop (c.loop-disk.disk-index + 1) c.args.disks.now in
    let here = from_here c.args.disks.now c.loop-disk.disk-index c.disk-item.result c.loop-disk-test.true
    c.disk-item.is in
    let P : List DiskDecl → Type 0 = λ ds. IsFormFault (sizes_from c.loop-disk.at ds) c.in_err-sectors.field-0.0 in
    rw (p.1, p.2)
    (fault_behind (sizes_from c.args.place c.args.disks.now)
    (sizes_from c.loop-disk.at (drop c.loop-disk.disk-index c.args.disks.now)) c.loop-disk.facts.items
    c.in_err-sectors.field-0.0 c.loop-disk.invariant.reads (subst P here (c.in_err-sectors.ensures.read left)))
