-- What finds a provider by its name, over the list of the providers.
use Rattle.std.specs.Prelude.{◌≡◌, ℕ, ◌≤◌, Bool, false, not, ◌&&◌, List, [], ◌∷◌, Option, Some, None, find, map, if◌then◌else◌, option_map}
use Rattle.std.specs.HashMap.{get, spare}
use Rattle.geo_slots.specs.Slots.{without}
use Rattle.geo_model.specs.Words.{same_name}
use Rattle.geo_model.specs.Topology.{Provider}
use Rattle.geo_names.specs.Names.{with_name}
use Rattle.geo_names.specs.Inside.{key_eq}
use Rattle.geo_mesh.specs.declared.names.Names.{Names}

-- the provider without an error of a name
abbrev pub sound_of : Names → List ℕ → Option ℕ
sound_of n name = get key_eq n.sound (record { 0 = name })

-- room for so many more names
pub record HaveNameRoom (count : ℕ) (n : Names) : Type 0 where
  pub in_sound : count ≤ spare n.sound
  pub in_all : count ≤ n.all.room

-- the names stay
pub record SameNames (old new : Names) : Type 0 where
  pub sound : (q : List ℕ) → sound_of new q ≡ sound_of old q
  pub all : new.all ≡ record old.all { room = new.all.room }

-- a provider of the name and of the number, without an error, comes
pub record AddsName (old new : Names) (name : List ℕ) (number : ℕ) : Type 0 where
  pub sound : (q : List ℕ) → sound_of new q ≡ (if same_name name q then Some number else sound_of old q)
  pub all : new.all ≡ record (with_name old.all name) { room = new.all.room }

-- a provider of the name, which may carry an error already, gets one or goes
pub record RetiresName (old new : Names) (name : List ℕ) (errored : Bool) : Type 0 where
  pub sound : (q : List ℕ) → sound_of new q ≡ (if not errored && same_name name q then None else sound_of old q)
  pub all : new.all ≡ old.all

-- the provider of the name and of the number goes
pub record RemovesName (old new : Names) (name : List ℕ) (number : ℕ) (errored : Bool) : Type 0 where
  pub sound : (q : List ℕ) → sound_of new q ≡ (if not errored && same_name name q then None else sound_of old q)
  pub all : new.all ≡ record old.all { rows = without old.all.rows number; room = new.all.room }

-- whether a provider has the name and carries no error
abbrev pub is_sound_named : List ℕ → Provider → Bool
is_sound_named name x = not x.errored && same_name x.name name

-- at most one provider without an error has each name
abbrev pub OneEach : List Provider → Type 0
OneEach [] = Unit {0}
OneEach (x ∷ xs) = (x.errored ≡ false → find (is_sound_named x.name) xs ≡ None) × OneEach xs

-- the names are those of the providers
pub record AreNames (providers : List Provider) (next : ℕ) (n : Names) : Type 0 where
  pub sound : (name : List ℕ) → sound_of n name ≡ option_map (λ x. x.number) (find (is_sound_named name) providers)
  pub one : OneEach providers
  pub all : n.all.rows ≡ map (λ x. (x.number, x.name)) providers
  pub next_all : n.all.next ≡ next
