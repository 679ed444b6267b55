-- Rows of idle turns.
use Rattle.std.specs.Prelude.{ℕ, ◌+◌, refl}
use Rattle.std.proofs.Common.{add-one, subst, sym}
use Rattle.geo_jobs.specs.declared.turn.Turn.{Turn}
use Rattle.geo_jobs.specs.declared.turn.Turn.TheVariants as turns
use Rattle.geo_jobs.specs.Runs.{IdleTurns}

-- no turn
pub row_none : {J : Type 0} (did : J → J → Turn → Type 0) (a : J) → IdleTurns did 0 a a
unfolding IdleTurns
row_none did a = refl

-- one turn more
pub row_more : {J : Type 0} (did : J → J → Turn → Type 0) (n : ℕ) (a m b : J) → IdleTurns did n a m
    → did m b turns.Idle → IdleTurns did (n + 1) a b
unfolding IdleTurns
row_more did n a m b row one = subst (λ k. IdleTurns did k a b) (sym (add-one n)) (m, row, one)
