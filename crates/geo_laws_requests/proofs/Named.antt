-- The bio that a Start, a Take, a Deliver or an Up names, where the step is enabled.
use Rattle.std.specs.Prelude.{◌≡◌, ℕ, ◌==◌, Bool, true, false, Some, None, Ok, Err, ⊤}
use Rattle.std.proofs.Common.{refl, sym, ap, subst}
use Rattle.std.proofs.lemmas.Bool.{eqb-true}
use Rattle.geo_model.proofs.BioLemmas.{phase_down}
use Rattle.geo_model.specs.declared.step.DeviceResult.{DeviceResult}
use Rattle.geo_model.specs.declared.step.Found.TheVariants as found
use Rattle.geo_model.specs.declared.step.Outcome.{Outcome}
use Rattle.geo_model.specs.declared.step.Phase.{Phase}
use Rattle.geo_model.specs.declared.step.Phase.TheVariants as phases
use Rattle.geo_model.specs.declared.step.Step.{Step}
use Rattle.geo_model.specs.declared.step.Step.TheVariants as steps
use Rattle.geo_model.specs.World.{World, Bio, bio_at, is_up}
use Rattle.geo_model.specs.Bios.{start_by, way_of, take_bio, deliver, up_to}
use Rattle.geo_model.specs.Step.{Answer, deliver_found, step}
use Rattle.geo_model.proofs.StepWalk.{step_by}
use Rattle.geo_laws_bios.proofs.Phases.{CanTake, can_take}

-- a bio that starts, with what is made
pub record StartsIt (w v : World) (b : ℕ) (o : Outcome) : Type 0 where
  pub bio : Bio
  pub found : bio_at w b ≡ Some bio
  pub down : bio.phase ≡ phases.Down
  pub made : (v, o) ≡ start_by w bio (way_of w.topology bio)

-- one that is taken
pub record TakesIt (w v : World) (seat disk b : ℕ) (o : Outcome) : Type 0 where
  pub bio : Bio
  pub found : bio_at w b ≡ Some bio
  pub can : CanTake w disk bio
  pub made : (v, o) ≡ take_bio w seat disk bio

-- one that is delivered by the seat that is at it
pub record DeliversIt (w v : World) (seat b : ℕ) (got : DeviceResult) (o : Outcome) : Type 0 where
  pub bio : Bio
  pub found : bio_at w b ≡ Some bio
  pub own : bio.phase ≡ phases.Busy seat
  pub made : (v, o) ≡ deliver w bio got

-- one that goes up
pub record RisesIt (w v : World) (b : ℕ) (o : Outcome) : Type 0 where
  pub bio : Bio
  pub found : bio_at w b ≡ Some bio
  pub up : is_up bio.phase ≡ true
  pub made : (v, o) ≡ up_to w bio bio.owner

-- where nothing is against a Deliver the bio is Busy at the seat that delivers
pub own_phase : (w : World) (seat : ℕ) (x : Bio) (got : DeviceResult) (p : Phase)
    → deliver_found w seat x got p ≡ None → p ≡ phases.Busy seat
own_phase w seat x got (phases.Busy holder) none = by (holder == seat) refl
  where
    by : (c : Bool) → (holder == seat) ≡ c → phases.Busy holder ≡ phases.Busy seat
    by true e = ap (λ n. phases.Busy n) (eqb-true holder seat e)
    by false e =
        absurd (let bad : Some (found.OtherSeat holder) ≡ None = rw e at none in (let wrong : ⊥ = cc in wrong))
own_phase w seat x got p none = absurd (let bad : ⊥ = cc in bad)

-- what an answer tells of the bio that its step names
abbrev Names : World → ℕ → Answer → Step → Type 0
Names w seat (Err f) s = ⊤
Names w seat (Ok made) (steps.Start b) = StartsIt w made.0 b made.1
Names w seat (Ok made) (steps.Take disk b) = TakesIt w made.0 seat disk b made.1
Names w seat (Ok made) (steps.Deliver b got) = DeliversIt w made.0 seat b got made.1
Names w seat (Ok made) (steps.Up b) = RisesIt w made.0 b made.1
Names w seat (Ok made) s = ⊤

-- each step
all_named : (w : World) (seat : ℕ) (s : Step) → Names w seat (step w seat s) s
unfolding take_bio deliver
all_named w seat =
    step_by w seat (λ s a. Names w seat a s) (record {
      refuses = λ s f. tt;
      goes = λ actor c rest is. tt;
      runs = λ e rest is. tt;
      judges = λ s x j is. tt;
      reaps = λ h c is. tt;
      washes = λ work is. tt;
      starts = λ b x way is. record {
        bio = x;
        found = is.found;
        down = phase_down x.phase is.down;
        made = ap (λ z. start_by w x z) (sym is.goes);
      };
      takes = λ disk b x is.
          record { bio = x; found = is.found; can = can_take w disk x is.free; made = refl };
      delivers = λ b got x is.
          record { bio = x; found = is.found; own = own_phase w seat x got x.phase is.fits; made = refl };
      rises = λ b x o is.
          record { bio = x; found = is.found; up = is.up; made = ap (λ k. up_to w x k) (sym is.owner) };
    })

-- so each enabled one
module _ (w v : World) (seat : ℕ) where
  named : (s : Step) (o : Outcome) → step w seat s ≡ Ok (v, o) → Names w seat (Ok (v, o)) s
  named s o e = subst (λ a. Names w seat a s) e (all_named w seat s)

  pub starts_it : (b : ℕ) (o : Outcome) → step w seat (steps.Start b) ≡ Ok (v, o) → StartsIt w v b o
  starts_it b o e = named (steps.Start b) o e

  pub takes_it : (disk b : ℕ) (o : Outcome) → step w seat (steps.Take disk b) ≡ Ok (v, o) → TakesIt w v seat disk b o
  takes_it disk b o e = named (steps.Take disk b) o e

  pub delivers_it : (b : ℕ) (got : DeviceResult) (o : Outcome) → step w seat (steps.Deliver b got) ≡ Ok (v, o)
      → DeliversIt w v seat b got o
  delivers_it b got o e = named (steps.Deliver b got) o e

  pub rises_it : (b : ℕ) (o : Outcome) → step w seat (steps.Up b) ≡ Ok (v, o) → RisesIt w v b o
  rises_it b o e = named (steps.Up b) o e
