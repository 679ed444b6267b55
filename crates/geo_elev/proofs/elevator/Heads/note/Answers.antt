use Rattle.std.proofs.Common.{◌≡◌, ◌∙◌, List, drop, length, sym, subst, ap}
use Rattle.geo_model.specs.declared.step.Entry.{Entry}
use Rattle.geo_elev.specs.declared.disks.DiskHead.{DiskHead}
use Rattle.geo_drain.specs.Meshes.{opened}
use Rattle.geo_elev.specs.Heads.{AreHeads}
use Rattle.geo_elev.proofs.Histories.{noted_then, written_whole}
use Rattle.geo_elev.proofs.elevator.Heads.note.Goals as goal

-- the heads were those of the part of the log that was noted, and were brought to its end
pub returns-in-Ok-clause-noted : goal.returns-in-Ok-clause-noted
returns-in-Ok-clause-noted c =
    let same : c.deref_mut.result.now ≡ c.self.inside.disks.items = c.deref_mut.ensures.value in
    let new = c.catch_up.new.disks in
    let count : length new ≡ c.self.inside.disks.len = c.in-Ok.ensures.length ∙ c.deref_mut.ensures.len in
    subst (λ (ds : List DiskHead).
    AreHeads (opened c.args.mesh.now) c.args.mesh.now.log (record { disks = ds; noted = length c.entries.result.now }))
    (sym (written_whole c.self.inside.disks.len new (drop (length new) c.self.inside.disks.items) count))
    (noted_then c.args.mesh.now c.args.self.now c.deref_mut.result.now c.self.inside.noted
    (ap (λ (ds : List DiskHead). record { disks = ds; noted = c.self.inside.noted }) same ∙ c.self.view_is)
    c.requires.earlier new c.in-Ok.ensures.caught (length c.entries.result.now)
    (ap (λ (es : List Entry). length es) (c.entries.ensures ∙ c.log.ensures.log)))
