-- Sizes kept in MAX_COMPONENTS cells, with zeros behind them.
use Rattle.std.specs.Prelude.{◌≡◌, ℕ, ◌≤◌, ◌-◌, ◌++◌, List, length, take, drop, replicate, sum, refl}
use Rattle.std.proofs.Common.{arith, take-append-drop, length-take-le}
use Rattle.geo_model.specs.TheConstants.{MAX_COMPONENTS, MAX_MEDIA_BYTES}

-- the first cells are the sizes, which are few and make up a size, and the others are zero
pub record IsKept (cells : List ℕ) (count : ℕ) : Type 0 where
  pub whole : length cells ≡ MAX_COMPONENTS
  pub few : count ≤ MAX_COMPONENTS
  pub rest : drop count cells ≡ replicate (MAX_COMPONENTS - count) 0
  pub fits : sum (take count cells) ≤ MAX_MEDIA_BYTES

-- the cells come back from the sizes
pub sizes_kept_again : {X : Type 0} (f : List ℕ → ℕ → X) (cells : List ℕ) (count : ℕ) → IsKept cells count →
    f (take count cells ++ replicate (MAX_COMPONENTS - length (take count cells)) 0) (length (take count cells))
    ≡ f cells count
sizes_kept_again f cells count kept =
    let short : count ≤ length cells = omega (arith, kept.whole, kept.few) in
    let taken : length (take count cells) ≡ count = length-take-le count cells short in
    let again : take count cells ++ replicate (MAX_COMPONENTS - count) 0
    ≡ cells = rw (← kept.rest) (take-append-drop count cells) in
    rw (taken, again) refl
