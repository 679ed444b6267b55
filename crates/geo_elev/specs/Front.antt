-- The keys of what may be taken next from a disk, and how two heaps part them.
use Rattle.std.specs.Prelude.{◌≡◌, ℕ, ◌*◌, ◌^◌, ◌<◌, ◌≤◌, nat_le, nat_lt, Bool, true, false, List, [], ◌∷◌, ◌++◌, Option, Some, None, map, IsTrue, if◌then◌else◌}
use Rattle.std.specs.BinaryHeap.{IsHeap}
use Rattle.std.specs.BTreeMap.{is_at}
use Rattle.std.specs.List.{AllByRecursion, list_any}
use Rattle.std.specs.Ordering.{nat_cmp}
use Rattle.std.specs.declared.cmp.Ordering.{Ordering}
use Rattle.std.specs.declared.cmp.Reverse.{Reverse}

-- there are none
abbrev pub is_none_of : {X : Type 0} → List X → Bool
is_none_of [] = true
is_none_of (x ∷ xs) = false

-- whether it is among these keys
abbrev pub is_kept : ℕ → List ℕ → Bool
is_kept key keys = list_any (is_at (nat_cmp key)) keys

-- with one more, before the first that isn't less
abbrev pub with_key : ℕ → List ℕ → List ℕ
with_key k [] = k ∷ []
with_key k (j ∷ js) = if nat_le k j then k ∷ j ∷ js else j ∷ with_key k js

-- these in ascending order
abbrev pub in_order : List ℕ → List ℕ
in_order [] = []
in_order (k ∷ ks) = with_key k (in_order ks)

-- the order of a heap whose top is the least key
abbrev pub key_order : Reverse ℕ → Reverse ℕ → Ordering
key_order x y = nat_cmp y.0 x.0

-- the keys in a heap
abbrev pub keys_in : List (Reverse ℕ) → List ℕ
keys_in rs = map (λ r. r.0) rs

-- those in two, in ascending order
abbrev pub keys_of : List (Reverse ℕ) → List (Reverse ℕ) → List ℕ
keys_of ahead behind = in_order (keys_in ahead ++ keys_in behind)

-- each is a heap, and the place of the head parts them
pub record AreParted (ahead behind : List (Reverse ℕ)) (head : ℕ) : Type 0 where
  pub ahead_order : IsHeap key_order ahead
  pub behind_order : IsHeap key_order behind
  pub ahead_high : AllByRecursion (λ k. head * 2 ^ 64 ≤ k) (keys_in ahead)
  pub behind_low : AllByRecursion (λ k. k < head * 2 ^ 64) (keys_in behind)

-- the least key of a heap, or none where it is empty
abbrev pub IsTop : List (Reverse ℕ) → Option ℕ → Type 0
IsTop rs (Some k) = (is_kept k (keys_in rs) ≡ true) × AllByRecursion (λ j. k ≤ j) (keys_in rs)
IsTop rs None = rs ≡ []

-- the lesser of a key and one that was found, if the key is from a low one on
abbrev pub lesser : ℕ → ℕ → Option ℕ → Option ℕ
lesser low k None = if nat_lt k low then None else Some k
lesser low k (Some j) = if nat_lt k low then Some j else (if nat_le j k then Some j else Some k)

-- the least of these keys from a low one on, and of one that was found
abbrev pub least_with : ℕ → List ℕ → Option ℕ → Option ℕ
least_with low [] found = found
least_with low (k ∷ ks) found = least_with low ks (lesser low k found)

-- the least key from one on
abbrev pub IsNextKey : List ℕ → ℕ → Option ℕ → Type 0
IsNextKey keys low (Some k) =
    IsTrue (is_kept k keys) × (low ≤ k) × ((key : ℕ) → IsTrue (is_kept key keys) → low ≤ key → k ≤ key)
IsNextKey keys low None = (key : ℕ) → low ≤ key → is_kept key keys ≡ false
