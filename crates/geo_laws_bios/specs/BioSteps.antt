-- Steps that turn one bio keep a mesh sound, steady and fitting (g_bio(9)).
use Rattle.std.specs.Prelude.{◌≡◌, ℕ, true, Option, Some}
use Rattle.geo_model.specs.Errno.{Errno}
use Rattle.geo_model.specs.declared.step.BioResult.{BioResult}
use Rattle.geo_model.specs.declared.step.DeviceResult.{DeviceResult}
use Rattle.geo_model.specs.declared.step.Phase.{Phase}
use Rattle.geo_model.specs.World.{World, Bio, bio_at, change_bio, is_down}
use Rattle.geo_model.specs.Bios.{Bounces, Fails, Sends, start_by, way_of}
use Rattle.geo_model.specs.Step.{take_of, deliver_of}
use Rattle.geo_model.specs.Log.{world_after}
use Rattle.geo_model.specs.Fitting.{Firm}

-- a bio in another phase, with its result changed
abbrev pub turned : Phase → (Option BioResult → Option BioResult) → Bio → Bio
turned phase result x = record x { phase = phase; result = result x.result }

-- the world in which a bio is in another phase, with its result changed
abbrev pub turn : World → Bio → Phase → (Option BioResult → Option BioResult) → World
turn w x phase result = change_bio w x.number (turned phase result)

-- a Take leaves a firm mesh firm, whether it is enabled or not
abbrev pub TakesStayFirm : Type 0
TakesStayFirm = (w : World) (seat disk b : ℕ) → Firm w → Firm (world_after w (take_of w seat disk (bio_at w b)))

-- so does a Deliver
abbrev pub DeliversStayFirm : Type 0
DeliversStayFirm = (w : World) (seat b : ℕ) (got : DeviceResult) → Firm w
    → Firm (world_after w (deliver_of w seat got (bio_at w b)))

-- so does a Start by which a bio that is Down goes back with an error
abbrev pub BouncesStayFirm : Type 0
BouncesStayFirm =
    (w : World) (b : ℕ) (x : Bio) (e : Errno) → bio_at w b ≡ Some x → is_down x.phase ≡ true → Firm w
    → Firm (start_by w x (Bounces e)).0

-- so does one by which it fails at a NOP geom, which counts it
abbrev pub FailsStayFirm : Type 0
FailsStayFirm =
    (w : World) (b : ℕ) (x : Bio) (g : ℕ) → bio_at w b ≡ Some x → is_down x.phase ≡ true → Firm w
    → Firm (start_by w x (Fails g)).0

-- so does one by which it is sent to its disk
abbrev pub SendsStayFirm : Type 0
SendsStayFirm =
    (w : World) (b : ℕ) (x : Bio) (disk : ℕ) → bio_at w b ≡ Some x → is_down x.phase ≡ true
    → way_of w.topology x ≡ Sends disk
    → Firm w → Firm (start_by w x (Sends disk)).0
