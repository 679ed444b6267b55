-- The link of a chain that leads on, in a taste for which EBR is asked.
use Rattle.std.specs.Prelude.{◌≡◌, ℕ, ◌<◌, List}
use Rattle.geo_base.specs.declared.kind.Kind.TheVariants as kinds
use Rattle.geo_model.specs.declared.class.Verdict.TheVariants.{More}
use Rattle.geo_model.specs.declared.step.BioResult.{BioResult}
use Rattle.geo_model.specs.Chain.{Chain, feed, with_link}
use Rattle.geo_model.specs.Order.{reads_limit}
use Rattle.geo_model.specs.World.{NextSector, ReadBack}
use Rattle.geo_model.specs.Sound.{ChainHolds}

-- the chain of which a link leads on to a sector: with that link it is in order, and the sector may be read
pub record GoesOnTo (n made sector : ℕ) (c : Chain) : Type 0 where
  pub hold : ChainHolds n (NextSector kinds.Ebr sector) made c
  pub reads : made < reads_limit
  pub inside : sector < n

-- a link that leads on leaves a chain in order
pub record LinksStayInOrder : Type 0 where
  pub link : (n made sector : ℕ) (c : Chain) (bytes : List ℕ) (got : BioResult)
      → ChainHolds n (ReadBack kinds.Ebr got) made c → feed n c bytes ≡ More sector
      → GoesOnTo n made sector (with_link n c bytes)
