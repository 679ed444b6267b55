-- The table of bios, as contracts see it.
use Rattle.std.specs.Prelude.{ℕ, ◌≤◌, nat_le, Bool, true, false, IsTrue, ⊤, List, All, map, Option, Some, None, find, if◌then◌else◌}
use Rattle.std.specs.Option.{option_map, option_map_or}
use Rattle.geo_model.specs.BioCmd.{BioCmd}
use Rattle.geo_model.specs.Errno.{Errno}
use Rattle.geo_model.specs.declared.step.Phase.{Phase}
use Rattle.geo_model.specs.declared.step.Phase.TheVariants as phases
use Rattle.geo_model.specs.declared.step.Owner.{Owner}
use Rattle.geo_model.specs.declared.step.Owner.TheVariants as owners
use Rattle.geo_model.specs.Graph.{AreNumbers}
use Rattle.geo_model.specs.World.{BioOf, bio_among, is_waiting}
use Rattle.geo_model.specs.Words.{is_read}
use Rattle.geo_bio.specs.declared.bio.Held.{Held}
use Rattle.geo_bio.specs.declared.bio.Held.TheVariants as held

-- the bios in order of numbers, the next number, and for how many more there is room
pub record BioTableView : Type 0 where
  pub bios : List (BioOf Held)
  pub next : ℕ
  pub spare : ℕ

-- the bios stand in order of their numbers, which count from 1 and are below the next one
pub record AreInOrder (t : BioTableView) : Type 0 where
  pub numbers : AreNumbers (map (λ x. x.number) t.bios) t.next
  pub from_one : All (λ x. 1 ≤ x.number) t.bios
  pub next : 1 ≤ t.next

-- whether the bio of a number is there, in a phase that passes
abbrev pub has_phase : {R : Type 0} → (Phase → Bool) → List (BioOf R) → ℕ → Bool
has_phase test bios bio = option_map_or (λ x. test x.phase) (bio_among bios bio) false

-- whether a bio is on its way itself: it waits for no children, and isn't Done
abbrev pub is_going : Phase → Bool
is_going phases.Waiting = false
is_going phases.Done = false
is_going _ = true

-- the parent of a child is there, and waits for it
abbrev pub HasParent : {R : Type 0} → List (BioOf R) → Owner → Type 0
HasParent bios (owners.Child parent index) = IsTrue (has_phase is_waiting bios parent)
HasParent bios owner = ⊤

-- the first bio that isn't below a number
abbrev pub bio_from : {R : Type 0} → List (BioOf R) → ℕ → Option ℕ
bio_from bios number = option_map (λ x. x.number) (find (λ x. nat_le number x.number) bios)

-- the bio in another phase
abbrev pub with_phase : {R : Type 0} → Phase → BioOf R → BioOf R
with_phase phase x = record x { phase = phase }

-- what a bio holds once it is delivered: the place of a READ's bytes in the log, or its error
abbrev pub delivered_result : BioCmd → ℕ → Option Errno → Held
delivered_result cmd place (Some errno) = held.Failed errno
delivered_result cmd place None = if is_read cmd then held.AtPlace place else held.Done

-- the bio goes up with what was delivered
abbrev pub delivered : ℕ → Option Errno → BioOf Held → BioOf Held
delivered place errno x = record x { phase = phases.Up; result = Some (delivered_result x.cmd place errno) }
