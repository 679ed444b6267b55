use Rattle.std.proofs.Common.{sym, ◌∙◌}
use Rattle.geo_mesh.specs.Cells.{provider_seen}
use Rattle.geo_taste.proofs.Coming.{errored_not, low_tasted, written_not}
use Rattle.geo_taste.proofs.taster.is_tasted.Goals as goal

-- an error is enough for it not to be tasted, and so is a writer
pub returns-then-provider : goal.returns-then-provider
returns-then-provider g c =
    errored_not c.args.topo.now c.in-Some.ensures.sound c.requires c.args.prov
    (provider_seen c.args.prov c.in-Some.provider.now) c.in-Some.ensures.provider c.in-Some.provider.now.have
    c.in-Some.ensures.have c.if-provider.true

pub returns-then-is_written : goal.returns-then-is_written
returns-then-is_written g c =
    written_not c.args.topo.now c.in-Some.ensures.sound c.requires c.args.prov
    (provider_seen c.args.prov c.in-Some.provider.now) c.in-Some.ensures.provider c.in-Some.provider.now.have
    c.in-Some.ensures.have (sym c.is_written.ensures ∙ c.if-is_written.true)

-- without an error and a writer the provider's geom decides
pub returns : goal.returns
returns g c =
    c.is_low.ensures
    ∙ low_tasted c.args.topo.now c.in-Some.ensures.sound c.requires c.args.prov
    (provider_seen c.args.prov c.in-Some.provider.now) c.in-Some.ensures.provider c.in-Some.provider.now.have
    c.in-Some.ensures.have c.if-provider.false (sym c.is_written.ensures ∙ c.if-is_written.false)
