use Rattle.std.proofs.Common.{arith}
use Rattle.geo_moves.proofs.Judged.{providers-few}
use Rattle.geo_moves.proofs.withered.count_made.Goals as goal

-- there are fewer providers than numbers
pub overflow_add-state : goal.overflow_add-state
overflow_add-state c =
    let few = providers-few c.args.state.now.topo.topology c.coming_provider-next.ensures.sound in
    omega (
      arith,
      few,
      c.requires.all,
      c.coming_provider-next.ensures.number,
      c.number.ensures,
      c.number-2.ensures,
    )
