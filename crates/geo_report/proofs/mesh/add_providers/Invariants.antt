-- The lines of the providers so far were added.
use Rattle.std.proofs.Common.{◌≡◌, ◌++◌, take, flat_map}
use Rattle.geo_report.specs.MeshTexts.{provider_line}
use Rattle.geo_report.proofs.mesh.add_providers.Given as goal

abbrev pub invariant-loop-provider : goal.invariant-loop-provider
invariant-loop-provider l = l.text ≡ l.fn.text ++ flat_map provider_line (take l.provider-index l.providers)
