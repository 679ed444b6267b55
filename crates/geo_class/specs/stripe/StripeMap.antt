-- Components in turn, as contracts see them.
use Rattle.std.specs.Prelude.{ℕ, ◌*◌, ◌/◌}

-- how many components, the size of a strip, the size of the smallest component, and the size of the sectors
pub record StripeView : Type 0 where
  pub count : ℕ
  pub stripe : ℕ
  pub smallest : ℕ
  pub sector : ℕ

-- as many whole strips of each component as the smallest one has
abbrev pub striped_size : ℕ → ℕ → ℕ → ℕ
striped_size count stripe smallest = count * ((smallest / stripe) * stripe)
