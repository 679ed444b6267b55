use Rattle.geo_disk.specs.Lending.{asked_in}
use Rattle.geo_disk.proofs.lending.asked_before.Given as goal

abbrev pub ghost-picked : goal.ghost-picked
ghost-picked a = asked_in a._from.now.items a._and.now
