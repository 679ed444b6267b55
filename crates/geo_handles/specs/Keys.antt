-- What finds a handle.
use Rattle.std.specs.Prelude.{◌≡◌, ℕ, ◌==◌, ◌&&◌, Bool, false, List, Option, Some, None}
use Rattle.std.specs.HashMap.{HashMap, get}
use Rattle.geo_model.specs.Words.{same_name}
use Rattle.geo_handles.specs.declared.key.Key.{Key}
use Rattle.geo_handles.specs.declared.records.HandleRec.{HandleRec}

-- whether two keys are the same actor and the same name
abbrev pub same_key : Key → Key → Bool
same_key a b = (a.actor == b.actor) && same_name a.name b.name

-- whether the key that may be there is this one
abbrev pub is_key : Option Key → Key → Bool
is_key None k = false
is_key (Some j) k = same_key j k

-- the key of an actor and a name
abbrev pub key_named : ℕ → List ℕ → Key
key_named actor name = record { actor = actor; name = name }

-- the key of a handle
abbrev pub name_key : HandleRec → Option Key
name_key x = Some (key_named x.actor x.name)

-- the consumer of a handle is a key too
abbrev pub consumer_key : HandleRec → Option ℕ
consumer_key x = x.consumer

-- the number that a map has at an actor's name
abbrev pub number_of_key : {S : Type 0} → HashMap Key ℕ S → Key → Option ℕ
number_of_key numbers key = get same_key numbers key

-- the number that a map has at a consumer
abbrev pub number_of_consumer : {S : Type 0} → HashMap ℕ ℕ S → ℕ → Option ℕ
number_of_consumer numbers c = get (λ a b. a == b) numbers c

-- what finds a number by a key finds just the numbers that have the key
pub record IsFinder {K : Type 0} (key_of : ℕ → Option K) (number_of : K → Option ℕ) : Type 0 where
  pub found : (k : K) (n : ℕ) → number_of k ≡ Some n → key_of n ≡ Some k
  pub back : (k : K) (n : ℕ) → key_of n ≡ Some k → number_of k ≡ Some n
