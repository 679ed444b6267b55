-- A name kept in 63 cells, with zeros behind it.
use Rattle.std.specs.Prelude.{◌≡◌, ℕ, ◌≤◌, ◌-◌, ◌++◌, List, length, take, drop, replicate, true, refl}
use Rattle.std.proofs.Common.{arith, take-append-drop, length-take-le}
use Rattle.geo_base.specs.Name.{is_name}

-- the first cells are a name of this length, and the others are zero
pub record IsKeptName (cells : List ℕ) (len : ℕ) : Type 0 where
  pub size : length cells ≡ 63
  pub fits : len ≤ 63
  pub rest : drop len cells ≡ replicate (63 - len) 0
  pub named : is_name (take len cells) ≡ true

-- the cells come back from the name's bytes
pub kept_again : {X : Type 0} (f : List ℕ → ℕ → X) (cells : List ℕ) (len : ℕ) → IsKeptName cells len →
    f (take len cells ++ replicate (63 - length (take len cells)) 0) (length (take len cells)) ≡ f cells len
kept_again f cells len kept =
    let short : len ≤ length cells = omega (arith, kept.size, kept.fits) in
    let taken : length (take len cells) ≡ len = length-take-le len cells short in
    let whole : take len cells ++ replicate (63 - len) 0 ≡ cells = rw (← kept.rest) (take-append-drop len cells) in
    rw (taken, whole) refl
