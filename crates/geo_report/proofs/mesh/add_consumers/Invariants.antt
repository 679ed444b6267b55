-- The lines of the consumers so far were added.
use Rattle.std.proofs.Common.{◌≡◌, ◌++◌, take, flat_map}
use Rattle.geo_report.specs.MeshTexts.{consumer_line}
use Rattle.geo_report.proofs.mesh.add_consumers.Given as goal

abbrev pub invariant-loop-consumer : goal.invariant-loop-consumer
invariant-loop-consumer l = l.text ≡ l.fn.text ++ flat_map consumer_line (take l.consumer-index l.consumers)
