-- Which media have the table of a chain.
use Rattle.std.specs.Prelude.{◌≡◌, ◌↔◌, ℕ, List, Ok}
use Rattle.geo_model.specs.declared.class.EbrTable.{EbrTable}
use Rattle.geo_model.specs.Chain.{IsChain, chain_table, links_at, table_of}

-- some sectors are those of the links of a chain, and the table is that of these links
pub record IsTableOf (media : ℕ → List ℕ) (n : ℕ) (table : EbrTable) : Type 0 where
  pub sectors : List ℕ
  pub chain : IsChain media n sectors
  pub same : table ≡ table_of (links_at media n sectors)

-- a chain is read, with its table, exactly where there is one
abbrev pub ChainsAreRead : Type 0
ChainsAreRead =
    (media : ℕ → List ℕ) (n : ℕ) (table : EbrTable) → (chain_table media n ≡ Ok table) ↔ IsTableOf media n table
