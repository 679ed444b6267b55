-- What is made only where names are free.
use Rattle.std.specs.Prelude.{◌≡◌, ℕ, Bool, true, false, not, ◌&&◌, List, Some, None, Contains}
use Rattle.std.proofs.Common.{refl}
use Rattle.std.proofs.lemmas.Bool.{and_parts, not-true}
use Rattle.geo_base.specs.Name.{is_name}
use Rattle.geo_model.specs.Topology.{Topology, is_name_taken}
use Rattle.geo_model.specs.World.{Config}
use Rattle.geo_model.specs.Events.{QueuedTopology}
use Rattle.geo_model.specs.Acceptance.{are_names_free, if_free}
use Rattle.geo_laws_counts.proofs.LimitFacts.{all_true}

-- what is made where names are free
pub record IsMadeFree (t : Topology Config) (names : List (List ℕ))
    (there made : QueuedTopology Config) : Type 0 where
  pub free : are_names_free t names ≡ true
  pub is : there ≡ made

-- so it is where it is made at all
pub free-made : (t : Topology Config) (names : List (List ℕ)) (there made : QueuedTopology Config)
    → if_free t names there ≡ Some made → IsMadeFree t names there made
free-made t names there made e = by (are_names_free t names) refl e where
  -- by whether the names are free
  by : (b : Bool) → are_names_free t names ≡ b → if_free t names there ≡ Some made → IsMadeFree t names there made
  by true is e = record { free = is; is = let both : Some there ≡ Some made = rw is at e in cc }
  by false is e = absurd (let none : None ≡ Some made = rw is at e in let no : ⊥ = cc in no)

-- a name of those that are free isn't taken
pub not-taken : (t : Topology Config) (names : List (List ℕ)) → are_names_free t names ≡ true → (name : List ℕ)
    → Contains names name → is_name_taken t name ≡ false
not-taken t names free name here =
    not-true (is_name_taken t name)
    (and_parts (is_name name) (not (is_name_taken t name))
    (all_true (λ name. is_name name && not (is_name_taken t name)) names free name here)).1
