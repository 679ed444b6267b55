-- What a step that names no bio does to the bios: they stay, or one arrives (g_bio(9)).
use Rattle.std.specs.Prelude.{◌≡◌, ◌⊎◌, ℕ, ◌+◌, true, [], ◌∷◌, ◌++◌, Ok}
use Rattle.geo_model.specs.declared.step.Outcome.{Outcome}
use Rattle.geo_model.specs.declared.step.Outcome.TheVariants as outcomes
use Rattle.geo_model.specs.declared.step.Owner.TheVariants as owners
use Rattle.geo_model.specs.declared.step.Phase.TheVariants as phases
use Rattle.geo_model.specs.declared.step.Step.TheVariants as steps
use Rattle.geo_model.specs.World.{World, Bio, is_root}
use Rattle.geo_model.specs.Step.{step}

-- the bios are what they were
pub record BiosStay (w v : World) : Type 0 where
  pub bios : v.bios ≡ w.bios
  pub next : v.next_bio ≡ w.next_bio

-- the outcome accepts no request
abbrev pub AcceptsNone : Outcome → Type 0
AcceptsNone o = (line b : ℕ) → o ≡ outcomes.Accepted line b → ⊥

-- whether the outcome accepts this bio for a line of its owner
abbrev pub AcceptsIt : Outcome → Bio → Type 0
AcceptsIt o y =
    (line b : ℕ) → o ≡ outcomes.Accepted line b
    → (b ≡ y.number) × ((handle : ℕ) × (y.owner ≡ owners.Line handle line))

-- the bio y arrives: it is the last, Down, no child of another, and has the next number
pub record BioArrives (w v : World) (y : Bio) : Type 0 where
  pub bios : v.bios ≡ w.bios ++ y ∷ []
  pub next : v.next_bio ≡ w.next_bio + 1
  pub number : y.number ≡ w.next_bio
  pub phase : y.phase ≡ phases.Down
  pub root : is_root y.owner ≡ true

-- nothing arrives, or one bio does
abbrev pub StayOrArrive : World → World → Outcome → Type 0
StayOrArrive w v o =
    (BiosStay w v × AcceptsNone o) ⊎ ((y : Bio) × (BioArrives w v y × AcceptsIt o y))

-- a Go, an Event, a Judge, a Reap and a Wash leave all bios as they are; at a Go and a Judge one may arrive, and by a
-- Go that accepts one it does
pub record BiosStayOrArrive : Type 0 where
  pub go : (w v : World) (seat actor : ℕ) (o : Outcome) → step w seat (steps.Go actor) ≡ Ok (v, o) → StayOrArrive w v o
  pub event : (w v : World) (seat : ℕ) (o : Outcome) → step w seat steps.Event ≡ Ok (v, o) → StayOrArrive w v o
  pub judge : (w v : World) (seat : ℕ) (o : Outcome) → step w seat steps.Judge ≡ Ok (v, o) → StayOrArrive w v o
  pub reap : (w v : World) (seat : ℕ) (o : Outcome) → step w seat steps.Reap ≡ Ok (v, o) → StayOrArrive w v o
  pub wash : (w v : World) (seat : ℕ) (o : Outcome) → step w seat steps.Wash ≡ Ok (v, o) → StayOrArrive w v o
