-- An Up keeps a mesh sound, steady and fitting (g_bio(9)).
use Rattle.std.specs.Prelude.{◌≡◌, ℕ, true, Some}
use Rattle.geo_model.specs.declared.step.Owner.TheVariants as owners
use Rattle.geo_model.specs.World.{World, Bio, bio_at, is_up}
use Rattle.geo_model.specs.Bios.{up_line, up_taste, up_child}
use Rattle.geo_model.specs.Step.{up_of}
use Rattle.geo_model.specs.Log.{world_after}
use Rattle.geo_model.specs.Fitting.{Firm}

-- an Up of a root of a line leaves a firm mesh firm
abbrev pub LineUpsStayFirm : Type 0
LineUpsStayFirm =
    (w : World) (b : ℕ) (x : Bio) (handle line : ℕ) → bio_at w b ≡ Some x → is_up x.phase ≡ true
    → x.owner ≡ owners.Line handle line
    → Firm w → Firm (up_line w x line).0

-- so does an Up of the root of a taste
abbrev pub TasteUpsStayFirm : Type 0
TasteUpsStayFirm =
    (w : World) (b : ℕ) (x : Bio) → bio_at w b ≡ Some x → is_up x.phase ≡ true → x.owner ≡ owners.Taste → Firm w
    → Firm (up_taste w x).0

-- so does an Up of a child, whether it is the last of its parent's or not
abbrev pub ChildUpsStayFirm : Type 0
ChildUpsStayFirm =
    (w : World) (b : ℕ) (x : Bio) (parent index : ℕ) → bio_at w b ≡ Some x → is_up x.phase ≡ true
    → x.owner ≡ owners.Child parent index
    → Firm w → Firm (up_child w x parent).0

-- so does any Up, whether it is enabled or not
abbrev pub UpsStayFirm : Type 0
UpsStayFirm = (w : World) (b : ℕ) → Firm w → Firm (world_after w (up_of w (bio_at w b)))
