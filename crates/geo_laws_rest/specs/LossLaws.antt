-- An Event and a Wash lower the measure, but a Wash of a consumer while a taste is under way or to come; so does a
-- Judge that makes nothing (g_event(9), g_wither_geom(9), geom(4)).
use Rattle.std.specs.Prelude.{◌≡◌, ◌≢◌, ℕ, false, IfSome, IsTrue}
use Rattle.geo_model.specs.declared.class.Judged.TheVariants.{Made}
use Rattle.geo_model.specs.declared.step.Step.TheVariants as steps
use Rattle.geo_model.specs.World.{World, granted_in}
use Rattle.geo_model.specs.WorldEvents.{queued_of}
use Rattle.geo_model.specs.Tasting.{taste_step}
use Rattle.geo_model.specs.Step.{is_enabled}
use Rattle.geo_model.specs.Fitting.{Firm}
use Rattle.geo_model.specs.Laws.{Lowers, is_early_wash}

-- an Event: an offer, a spoil, an orphan or a growth
abbrev pub EventsLower : Type 0
EventsLower = (w : World) (seat : ℕ) → Firm w → IsTrue (is_enabled w seat steps.Event) → Lowers w seat steps.Event

-- a Wash that isn't early: of a provider, of a consumer or of a geom
abbrev pub WashesLower : Type 0
WashesLower =
    (w : World) (seat : ℕ) → Firm w → IsTrue (is_enabled w seat steps.Wash) → is_early_wash w steps.Wash ≡ false
    → Lowers w seat steps.Wash

-- a Judge that makes nothing: the taste ends, a class is asked or done with, or a sector is read or known as next
abbrev pub IdleJudgesLower : Type 0
IdleJudgesLower =
    (w : World) (seat : ℕ) → Firm w
    → IfSome w.taste (λ s. (taste_step (granted_in w) (queued_of w) s).judged ≢ Made)
    → IsTrue (is_enabled w seat steps.Judge) → Lowers w seat steps.Judge
