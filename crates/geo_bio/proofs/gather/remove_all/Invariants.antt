use Rattle.std.proofs.Common.{◌≡◌, ◌+◌, ◌-◌}
use Rattle.geo_bio.specs.Gather.{without_all}
use Rattle.geo_bio.proofs.gather.remove_all.Given as goal

-- taking out the children that are left gives what taking out all of them gives
abbrev pub invariant-loop-place : goal.invariant-loop-place
invariant-loop-place l = record {
  rest : without_all l.bios.rows (l.first + l.place) (l.count - l.place)
      ≡ without_all l.initial.bios.rows l.first l.count;
  next : l.bios.next ≡ l.initial.bios.next;
  spare : l.bios.spare ≡ l.initial.bios.spare;
}
