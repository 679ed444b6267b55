-- The bios on their way, as contracts see them.
use Rattle.std.specs.Prelude.{ℕ, Bool, List, Option, find, count_by}
use Rattle.std.specs.Option.{option_map}
use Rattle.geo_model.specs.declared.step.Phase.{Phase}
use Rattle.geo_model.specs.World.{BioOf}
use Rattle.geo_bio.specs.BioTable.{BioTableView}

-- what is seen of the table: the bios in order of numbers, the next number, and for how many more there is room
abbrev pub TrafficView : Type 0
TrafficView = BioTableView

-- the least number of a bio whose phase passes: the first one's, since they stand in order of numbers
abbrev pub first_in : {R : Type 0} → (Phase → Bool) → List (BioOf R) → Option ℕ
first_in test bios = option_map (λ x. x.number) (find (λ x. test x.phase) bios)

-- how many bios have a phase that passes
abbrev pub count_in : {R : Type 0} → (Phase → Bool) → List (BioOf R) → ℕ
count_in test bios = count_by (λ x. test x.phase) bios
