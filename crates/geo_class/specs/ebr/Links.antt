-- The links of a chain, in two rows of MAX_LINKS cells: their sectors, and their partitions.
use Rattle.std.specs.Prelude.{◌≡◌, ℕ, ◌<◌, ◌-◌, ◌==◌, Bool, ◌||◌, List, [], ◌∷◌, length, take, drop, replicate, Option, None}
use Rattle.std.specs.List.{list_any}
use Rattle.geo_model.specs.DeclineCause.{DeclineCause}
use Rattle.geo_model.specs.TheConstants.{MAX_LINKS}
use Rattle.geo_model.specs.declared.class.EbrPart.{EbrPart}
use Rattle.geo_model.specs.Chain.{Chain, LinkRead, link_tests, next_link}
use Rattle.geo_model.specs.Words.{first_error}

-- the links at these sectors, with these partitions
abbrev pub links_read : List ℕ → List (Option EbrPart) → List LinkRead
links_read (sector ∷ sectors) (part ∷ parts) = record { sector = sector; part = part } ∷ links_read sectors parts
links_read _ _ = []

-- the chain whose links have the first cells of two rows, and whose next link stands at a sector
abbrev pub chain_in : List ℕ → List (Option EbrPart) → ℕ → ℕ → Chain
chain_in visited parts count next = record { links = links_read (take count visited) (take count parts); next = next }

-- what is against the links in two rows, of a provider of n sectors, where the last one has these bytes
abbrev pub cause_against : ℕ → List ℕ → List (Option EbrPart) → List ℕ → Option DeclineCause
cause_against n visited parts bytes =
    first_error (link_tests n (record { links = links_read visited parts; next = next_link bytes }) bytes)

-- whether a sector is 0 or one of the visited ones
abbrev pub is_back : List ℕ → ℕ → Bool
is_back visited sector = (sector == 0) || list_any (λ v. v == sector) visited

-- the first cells are those of the links, and there is one more; no partition stands behind them
pub record AreLinks (visited : List ℕ) (parts : List (Option EbrPart)) (count : ℕ) : Type 0 where
  pub sectors : length visited ≡ MAX_LINKS
  pub places : length parts ≡ MAX_LINKS
  pub few : count < MAX_LINKS
  pub rest : drop count parts ≡ replicate (MAX_LINKS - count) None
