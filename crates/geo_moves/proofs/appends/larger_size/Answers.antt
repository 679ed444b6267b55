use Rattle.std.specs.Prelude.{option_map}
use Rattle.std.specs.Option.{option_copied}
use Rattle.std.proofs.Common.{ap, ◌∙◌, arith}
use Rattle.geo_mesh.specs.Cells.{provider_seen}
use Rattle.geo_moves.proofs.Appending.{offer_there, sum_fits, sum_is}
use Rattle.geo_moves.proofs.appends.larger_size.Goals as goal

-- the concat was found with its provider, so that is there
pub unreachable-requires : goal.unreachable-requires
unreachable-requires c =
    offer_there c.args.state.now c.requires.firm c.args.growing.now c.args.below.now c.requires.able
    (c.provider.ensures.provider
    ∙ ap (λ o. option_map (provider_seen c.args.growing.now.prov) (option_copied o)) c.in_default.is)

-- no test is against the append, so both sizes together are no more than a provider may have
pub overflow_add-result : goal.overflow_add-result
overflow_add-result c =
    let fits = sum_fits c.args.state.now c.requires.firm c.args.growing.now c.args.below.now
    c.requires.able (provider_seen c.args.growing.now.prov c.in-Some.grows.now)
    (c.provider.ensures.provider
    ∙ ap (λ o. option_map (provider_seen c.args.growing.now.prov) (option_copied o)) c.in-Some.is) in
    omega (arith, fits)

pub returns : goal.returns
returns c = λ able.
    sum_is c.args.state.now c.requires.firm c.args.growing.now c.args.below.now able
    (provider_seen c.args.growing.now.prov c.in-Some.grows.now)
    (c.provider.ensures.provider
    ∙ ap (λ o. option_map (provider_seen c.args.growing.now.prov) (option_copied o)) c.in-Some.is)
