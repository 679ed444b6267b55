use Rattle.std.specs.Prelude.{◌≤◌}
use Rattle.std.proofs.Common.{subst}
use Rattle.geo_base.specs.declared.limits.TheConstants.{MAX_MEDIA_BYTES}
use Rattle.geo_moves.specs.Assemblies.{assembly_size}
use Rattle.geo_moves.proofs.Assembled.{assembly-striped}
use Rattle.geo_moves.proofs.assemblies.assembly_config.Goals as goal

pub concat-requires-clause-fits : goal.concat-requires-clause-fits
concat-requires-clause-fits c = λ none.
    subst (λ x. assembly_size x c.args.sizes.items ≤ MAX_MEDIA_BYTES) c.in-Concat.is c.requires.limited

-- strips of no bytes make no size, and this one has a size within the limit
pub stripe-requires-clause-fits : goal.stripe-requires-clause-fits
stripe-requires-clause-fits c = λ none.
    assembly-striped c.args.assembly c.in-Stripe.stripe c.args.sizes.items c.in-Stripe.is c.requires.some
    c.requires.limited
