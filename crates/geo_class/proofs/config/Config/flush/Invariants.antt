-- So many empty pieces as consumers so far, and room for the others.
use Rattle.std.proofs.Common.{◌≡◌, ◌+◌, ◌≤◌, length, map, take}
use Rattle.geo_model.specs.Bios.{empty_piece}
use Rattle.geo_class.proofs.config.Config.flush.Given as goal

abbrev pub invariant-loop : goal.invariant-loop
invariant-loop l =
    (l.list.items ≡ map (λ c. empty_piece) (take l.index l.items)) × (length l.items ≤ l.list.spare + l.index)
