use Rattle.std.proofs.Common.{ℕ, ◌%◌, ◌^◌, rules}
use Rattle.std.specs.Prelude.{nat_lt}
use Rattle.geo_elev.proofs.Fronts.{all_of_both}
use Rattle.geo_elev.proofs.front.Front.are_below.Goals as goal

-- all of both heaps are asked
pub returns-then-keys_below : goal.returns-then-keys_below
returns-then-keys_below c =
    search (
      rules,
      all_of_both (λ (k : ℕ). nat_lt (k % 2 ^ 64) c.args.bio) c.self.inside.ahead.data.items
          c.self.inside.behind.data.items,
    )

pub returns-else-keys_below : goal.returns-else-keys_below
returns-else-keys_below c =
    search (
      rules,
      all_of_both (λ (k : ℕ). nat_lt (k % 2 ^ 64) c.args.bio) c.self.inside.ahead.data.items
          c.self.inside.behind.data.items,
    )
