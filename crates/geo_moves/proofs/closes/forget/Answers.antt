use Rattle.std.specs.Prelude.{◌≡◌, false, IsSomeAnd}
use Rattle.std.specs.Option.{option_map_or}
use Rattle.std.proofs.Common.{subst}
use Rattle.geo_model.specs.World.{Handle}
use Rattle.geo_handles.specs.Handles.{handle_at}
use Rattle.geo_life.specs.Life.{is_out}
use Rattle.geo_moves.proofs.Stepping.{forget-idle}
use Rattle.geo_moves.proofs.closes.forget.Goals as goal

-- nothing is out through the handle's consumer in the world, so a count of zero is kept of it
pub forget_held-requires-clause-idle : goal.forget_held-requires-clause-idle
forget_held-requires-clause-idle g c =
    forget-idle c.args.state.now c.requires.stands c.args.id c.in-Some.cons
    (subst (λ o. IsSomeAnd (handle_at c.args.state.now.handles.handles c.args.id) (λ (h : Handle). h.consumer ≡ o))
    c.in-Some.is c.requires.there)
    (subst (λ o. option_map_or (is_out c.args.state.now.topo) o false ≡ false) c.in-Some.is c.requires.free)
