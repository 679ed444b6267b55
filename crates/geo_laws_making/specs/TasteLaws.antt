-- What the steps of a taste keep of a firm world: of one that is sound, steady and fitting (geom(4)).
use Rattle.std.specs.Prelude.{◌≡◌, ℕ, ◌/◌, ◌<◌, false, List, Some, None, IfSome}
use Rattle.geo_base.specs.declared.kind.Kind.{Kind}
use Rattle.geo_model.specs.Topology.{Provider, provider_at}
use Rattle.geo_model.specs.Demand.{one_read}
use Rattle.geo_model.specs.Opens.{grant_refusal, with_grant}
use Rattle.geo_model.specs.Chain.{Chain}
use Rattle.geo_model.specs.World.{World, Taste, Asked, ReadOut, granted_in, is_read_out}
use Rattle.geo_model.specs.Tasting.{abort_taste, submit_read}
use Rattle.geo_model.specs.Sound.{AreReadsInOrder, HasItsChain}
use Rattle.geo_model.specs.Fitting.{IsAskedInOrder, Firm}

-- the taste with other classes left, another one asked, so many reads made for it, and another chain
abbrev pub taste_asking : Taste → List Kind → Asked → ℕ → Chain → Taste
taste_asking s classes asked reads chain = record s { classes = classes; asked = asked; reads = reads; chain = chain }

-- the world with this taste
abbrev pub world_with_taste : World → Taste → World
world_with_taste w s = record w { taste = Some s }

-- how far a class is asked, after so many reads and with this chain, is in order
pub record IsAsking (w : World) (s : Taste) : Type 0 where
  pub reads : AreReadsInOrder s.asked s.reads
  pub chain : HasItsChain w.topology s
  pub asked : IfSome (provider_at w.topology s.provider) (λ p. IsAskedInOrder w.topology p s.asked)

-- no read of the taste is out, its provider is found, and nothing refuses it a read there
pub record IsGranted (w : World) (s : Taste) (p : Provider) : Type 0 where
  pub taste : w.taste ≡ Some s
  pub idle : is_read_out s.asked ≡ false
  pub found : provider_at w.topology s.provider ≡ Some p
  pub passes : grant_refusal (with_grant (granted_in w) s.consumer one_read) w.topology s.provider ≡ None

-- a taste of which no read is out goes on, to where none is out; or the read of a sector is submitted, which nothing
-- refuses; or the taste ends: its consumer is detached and destroyed
pub record TastesStayFirm : Type 0 where
  pub goes_on : (w : World) (s : Taste) (classes : List Kind) (asked : Asked) (reads : ℕ) (chain : Chain)
      → w.taste ≡ Some s → is_read_out s.asked ≡ false → is_read_out asked ≡ false
      → IsAsking w (taste_asking s classes asked reads chain) → Firm w
      → Firm (world_with_taste w (taste_asking s classes asked reads chain))
  pub reads : (w : World) (s : Taste) (p : Provider) (classes : List Kind) (kind : Kind) (reads : ℕ) (chain : Chain)
      (sector : ℕ) → IsGranted w s p → sector < p.size / p.sector
      → IsAsking w (taste_asking s classes (ReadOut kind) reads chain) → Firm w
      → Firm
      (submit_read (world_with_taste w (taste_asking s classes (ReadOut kind) reads chain))
      (taste_asking s classes (ReadOut kind) reads chain) sector)
  pub ends : (w : World) (s : Taste) → w.taste ≡ Some s → is_read_out s.asked ≡ false → Firm w → Firm (abort_taste w s)
