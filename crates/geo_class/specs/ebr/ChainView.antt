-- A chain that is read, as contracts see it.
use Rattle.std.specs.Prelude.{ℕ, List}
use Rattle.geo_model.specs.declared.class.Shape.TheVariants.{Logical}
use Rattle.geo_model.specs.declared.class.Verdict.{Verdict}
use Rattle.geo_model.specs.declared.class.Verdict.TheVariants.{Decline, More, Accept}
use Rattle.geo_model.specs.Chain.{Chain, with_link}
use Rattle.geo_class.specs.declared.ebr.chain.Link.{Link}
use Rattle.geo_class.specs.declared.ebr.chain.Link.TheVariants as links

-- the number of the provider's sectors, and the chain as far as it was read
pub record ChainView : Type 0 where
  pub sectors : ℕ
  pub chain : Chain

-- an answer as a verdict of the class
abbrev pub link_verdict : Link → Verdict
link_verdict (links.More sector) = More sector
link_verdict (links.Declined cause) = Decline cause
link_verdict (links.Whole table) = Accept (Logical table)

-- the chain after a verdict on a link with these bytes: with that link where more is wanted, else as it was
abbrev pub chain_after : ChainView → List ℕ → Verdict → ChainView
chain_after c bytes (More sector) = record c { chain = with_link c.sectors c.chain bytes }
chain_after c bytes (Decline cause) = c
chain_after c bytes (Accept shape) = c
