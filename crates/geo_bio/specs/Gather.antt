-- How a parent gathers, number by number, what its children hold.
use Rattle.std.specs.Prelude.{ℕ, zero, suc, ◌+◌, ◌==◌, Bool, List, [], ◌++◌, Option, Some, None, if◌then◌else◌}
use Rattle.std.specs.Option.{option_map_or, option_and_then}
use Rattle.geo_model.specs.BioCmd.{BioCmd}
use Rattle.geo_model.specs.Errno.{Errno}
use Rattle.geo_model.specs.Words.{is_read}
use Rattle.geo_model.specs.Bios.{bytes_of_result}
use Rattle.geo_model.specs.declared.step.Phase.TheVariants as phases
use Rattle.geo_slots.specs.Slots.{value_at, with_value, without}
use Rattle.geo_bio.specs.declared.bio.Bio.{Bio}
use Rattle.geo_bio.specs.declared.bio.Held.{Held}
use Rattle.geo_bio.specs.declared.bio.Held.TheVariants as held
use Rattle.geo_bio.specs.Rows.{at_phase, up_holding}
use Rattle.geo_bio.specs.Up.{resolved}

-- the error that a bio holds
abbrev pub held_error : Option Held → Option Errno
held_error (Some (held.Failed errno)) = Some errno
held_error _ = None

-- the first error of so many bios from a number on
abbrev pub error_from : List (ℕ × Bio) → ℕ → ℕ → Option Errno
error_from rows first zero = None
error_from rows first (suc more) =
    option_map_or (λ e. Some e) (option_and_then (λ x. held_error x.held) (value_at rows first))
    (error_from rows (first + 1) more)

-- the bytes of so many bios from a number on, joined
abbrev pub bytes_from : (ℕ → Option (List ℕ)) → List (ℕ × Bio) → ℕ → ℕ → List ℕ
bytes_from log rows first zero = []
bytes_from log rows first (suc more) =
    option_map_or (λ x. bytes_of_result (resolved log x.held)) (value_at rows first) []
    ++ bytes_from log rows (first + 1) more

-- the rows without so many numbers from one on
abbrev pub without_all : List (ℕ × Bio) → ℕ → ℕ → List (ℕ × Bio)
without_all rows first zero = rows
without_all rows first (suc more) = without_all (without rows first) (first + 1) more

-- the bio with one more child in
abbrev pub counted : Bio → Bio
counted x = record x { finished = x.finished + 1 }

-- what a parent holds from the first error and the bytes of its children
abbrev pub held_of_parts : BioCmd → Option Errno → List ℕ → Held
held_of_parts cmd error bytes =
    option_map_or (λ e. held.Failed e) error (if is_read cmd then held.Bytes bytes else held.Done)

-- what a parent holds once its children are in
abbrev pub held_from : (ℕ → Option (List ℕ)) → List (ℕ × Bio) → Bio → Held
held_from log rows x =
    held_of_parts x.cmd (error_from rows x.first_child x.children) (bytes_from log rows x.first_child x.children)

-- the rows with the bio of a number changed, if there is one
abbrev pub changed_at : (Bio → Bio) → List (ℕ × Bio) → ℕ → List (ℕ × Bio)
changed_at change rows number = option_map_or (λ x. with_value rows number (change x)) (value_at rows number) rows

-- whether one more child completes the bio
abbrev pub is_last : Bio → Bool
is_last x = x.finished + 1 == x.children

-- the rows after a child went up: the last one completes its parent, another counts in it
abbrev pub rows_up : (ℕ → Option (List ℕ)) → List (ℕ × Bio) → ℕ → ℕ → Bio → List (ℕ × Bio)
rows_up log rows number parent x =
    if is_last x
    then changed_at (up_holding (held_from log rows x)) (without_all rows x.first_child x.children) parent
    else changed_at counted (changed_at (at_phase phases.Done) rows number) parent
