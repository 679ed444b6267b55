-- What a wash keeps of a firm world: of one that is sound, steady and fitting (g_wither_geom(9)).
use Rattle.std.specs.Prelude.{◌≡◌, ◌≢◌, ℕ, [], Some, None, All, Contains, IsSome, IsTrue}
use Rattle.geo_model.specs.declared.step.Entry.{Entry}
use Rattle.geo_model.specs.declared.step.Step.TheVariants as steps
use Rattle.geo_model.specs.declared.step.WashWork.{WashWork}
use Rattle.geo_model.specs.declared.step.WashWork.TheVariants as washes
use Rattle.geo_model.specs.Topology.{Provider, Consumer, geom_at, provider_at, consumer_at, attached_to, is_withering}
use Rattle.geo_model.specs.Demand.{want, is_zero}
use Rattle.geo_model.specs.Freeing.{Free, wash_work, wash}
use Rattle.geo_model.specs.History.{FreesOnlyIdle}
use Rattle.geo_model.specs.Laws.{world_by}
use Rattle.geo_model.specs.World.{World, granted_in}
use Rattle.geo_model.specs.Fitting.{Firm}

-- what goes from the one world to the other was closed, detached and idle
pub record FreesIdle (before after : World) : Type 0 where
  pub consumers : (c : Consumer) → Contains before.topology.consumers c → consumer_at after.topology c.number ≡ None
      → All (λ x. x.source ≢ c.number) before.bios × IsTrue (is_zero (want (granted_in before) before.topology c))
  pub providers : (p : Provider) → Contains before.topology.providers p → provider_at after.topology p.number ≡ None
      → attached_to before.topology p.number ≡ []
  pub geoms : (g : ℕ) → IsSome (geom_at before.topology g) → geom_at after.topology g ≡ None → Free before g

-- a provider with nothing attached goes, with its events; a consumer of a geom that withers, which holds no count; a
-- geom that is free; and what a wash finds, which was closed, detached and idle
pub record WashesKeepFirm : Type 0 where
  pub provider : (w : World) (p : ℕ) → attached_to w.topology p ≡ [] → Firm w → Firm (wash w (washes.Provider p))
  pub consumer : (w : World) (c : Consumer) → Contains w.topology.consumers c → IsTrue (is_withering w.topology c.geom)
      → IsTrue (is_zero (want (granted_in w) w.topology c)) → Firm w → Firm (wash w (washes.Consumer c.number))
  pub geom : (w : World) (g : ℕ) → Free w g → Firm w → Firm (wash w (washes.Geom g))
  pub found : (w : World) (work : WashWork) → wash_work w ≡ Some work → Firm w → Firm (wash w work)
  pub idle : (w : World) (work : WashWork) → wash_work w ≡ Some work → Firm w → FreesIdle w (wash w work)

-- the step of a wash, and that what it destroys was closed, detached and idle
pub record WashStepKeepsFirm : Type 0 where
  pub firm : (w : World) (seat : ℕ) → Firm w → Firm (world_by w seat steps.Wash)
  pub idle : (w : World) (e : Entry) → e.step ≡ steps.Wash → Firm w → FreesOnlyIdle w e
