-- What the leaves of a request cover, and that the children of a request cover it together (g_bio(9)).
use Rattle.std.specs.Prelude.{not, List, flat_map, Contains, IsSomeAnd, IsTrue, All}
use Rattle.geo_model.specs.Words.{is_flush}
use Rattle.geo_model.specs.Topology.{Provider, provider_at}
use Rattle.geo_model.specs.World.{World, Bio, children_of, is_waiting}
use Rattle.geo_model.specs.Results.{Leaf, CoversRange, CoversEnds}
use Rattle.geo_model.specs.Fitting.{Firm}

-- leaves go exactly over the range of a bio to a provider; those of a FLUSH go once to each disk reached
pub record CoversBy (w : World) (x : Bio) (p : Provider) (found : List Leaf) : Type 0 where
  pub range : IsTrue (not (is_flush x.cmd)) → CoversRange w x p found
  pub flush : IsTrue (is_flush x.cmd) → CoversEnds w x p found

-- the leaves of a bio cover it, at its provider
abbrev pub IsCovered : World → (Bio → List Leaf) → Bio → Type 0
IsCovered w found y = IsSomeAnd (provider_at w.topology y.target) (λ q. CoversBy w y q (found y))

-- where the leaves of each child of a Waiting bio cover that child, together they cover the bio
abbrev pub JoinedCovers : Type 0
JoinedCovers =
    (w : World) (x : Bio) (found : Bio → List Leaf) → Firm w → Contains w.bios x → IsTrue (is_waiting x.phase)
    → All (IsCovered w found) (children_of w x.number)
    → IsSomeAnd (provider_at w.topology x.target)
    (λ p. CoversBy w x p (flat_map found (children_of w x.number)))
