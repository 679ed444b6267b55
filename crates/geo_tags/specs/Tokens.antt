-- What becomes of the slots of tokens.
use Rattle.std.specs.Prelude.{◌≡◌, ℕ, ◌==◌, Option, Some, None, IsSome, ⊤, if◌then◌else◌}
use Rattle.slab.specs.Slab.{Slab, get, ContainsKey, Updates}
use Rattle.geo_model.specs.declared.step.Outcome.{Outcome}
use Rattle.geo_model.specs.declared.step.Outcome.TheVariants as outcomes
use Rattle.geo_model.specs.declared.step.Step.{Step}
use Rattle.geo_model.specs.declared.step.Step.TheVariants as steps
use Rattle.geo_tags.specs.declared.due.Due.{Due}
use Rattle.geo_tags.specs.declared.due.Due.TheVariants as dues
use Rattle.geo_tags.specs.Calls.{StaysInside}

-- the disk and the bio of a Take
abbrev pub taken_by : Step → Option (ℕ × ℕ)
taken_by (steps.Take disk bio) = Some (disk, bio)
taken_by _ = None

-- what an outcome wants: only a Take asks a disk, and only a tag with a token is replied to
abbrev pub IsExpected : Slab ℕ → Option (ℕ × ℕ) → Outcome → Type 0
IsExpected slots taken (outcomes.Asked request) = IsSome taken
IsExpected slots taken (outcomes.Replied line reply) = ContainsKey slots line
IsExpected slots taken _ = ⊤

-- the generation after a step, if it is another one than before
abbrev pub changed_to : ℕ → ℕ → Option ℕ
changed_to before after = if before == after then None else Some after

-- what is due by an outcome, and by the generation if it is another one
abbrev pub HandsOut : Due → Option (ℕ × ℕ) → Outcome → Option ℕ → Slab ℕ → Slab ℕ → Type 0
HandsOut (dues.Ask disk bio request) taken outcome changed old new =
    (taken ≡ Some (disk, bio)) × (outcome ≡ outcomes.Asked request) × (new ≡ old)
HandsOut (dues.Reply token reply) taken outcome changed old new =
    (tag : ℕ) × (outcome ≡ outcomes.Replied tag reply) × (get old tag ≡ Some token) × Updates old new tag None
HandsOut dues.Moved taken outcome changed old new = StaysInside outcome × (changed ≡ None) × (new ≡ old)
HandsOut (dues.Changed generation) taken outcome changed old new =
    StaysInside outcome × (changed ≡ Some generation) × (new ≡ old)
HandsOut dues.Idle taken outcome changed old new = ⊥
