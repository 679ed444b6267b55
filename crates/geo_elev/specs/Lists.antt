-- What waits for a disk, as it is kept: by places what may be taken next, and by numbers what comes behind that.
use Rattle.std.specs.Prelude.{◌≡◌, ℕ, ◌+◌, ◌*◌, ◌/◌, ◌%◌, ◌^◌, ◌<◌, ◌≤◌, ◌==◌, nat_lt, Bool, true, not, ◌&&◌, List, [], ◌∷◌, ◌++◌, filter, map, ⊤, if◌then◌else◌}
use Rattle.std.specs.List.{list_all, list_any}
use Rattle.geo_headline.specs.Sweep.{Waiting, candidates}
use Rattle.geo_elev.specs.Front.{is_kept}
use Rattle.geo_elev.specs.declared.lists.Place.{Place}

-- a bio that waits, by its number and its place
abbrev pub one_at : ℕ → Place → Waiting
one_at bio place = record { bio = bio; flush = place.flush; first = place.first }

-- an entry of those that come behind
abbrev pub waiting_at : ℕ × Place → Waiting
waiting_at entry = one_at entry.0 entry.1

-- those that come behind, in order of numbers
abbrev pub waiting_in : List (ℕ × Place) → List Waiting
waiting_in entries = map waiting_at entries

-- a number that rises with the first sector, and among equal ones with the number of the bio
abbrev pub key_of : Waiting → ℕ
key_of x = x.first * 2 ^ 64 + x.bio

-- what may be taken next, by its key
abbrev pub at_key : Bool → ℕ → Waiting
at_key flush key = record { bio = key % 2 ^ 64; flush = flush; first = key / 2 ^ 64 }

-- with one more, before the first with a greater number
abbrev pub with_waiting : Waiting → List Waiting → List Waiting
with_waiting x [] = x ∷ []
with_waiting x (y ∷ ys) = if nat_lt x.bio y.bio then x ∷ y ∷ ys else y ∷ with_waiting x ys

-- those with these keys, in order of numbers
abbrev pub listed : Bool → List ℕ → List Waiting
listed flush [] = []
listed flush (key ∷ keys) = with_waiting (at_key flush key) (listed flush keys)

-- all that waits: what may be taken next, and what comes behind it
abbrev pub all_waiting : List ℕ → Bool → List (ℕ × Place) → List Waiting
all_waiting keys flush later = listed flush keys ++ waiting_in later

-- whether one has this key
abbrev pub has_key : ℕ → List Waiting → Bool
has_key key xs = list_any (λ x. key_of x == key) xs

-- no FLUSH waits
abbrev pub has_no_flush : List Waiting → Bool
has_no_flush xs = list_all (λ x. not x.flush) xs

-- whether one more at the end may be taken next
abbrev pub joins : List Waiting → Bool → Bool
joins [] flush = true
joins (x ∷ xs) flush = has_no_flush (x ∷ xs) && not flush

-- those that are another bio
abbrev pub without : ℕ → List Waiting → List Waiting
without bio xs = filter (λ x. not (x.bio == bio)) xs

-- those that are left where a bio is taken, if it is
abbrev pub taken_if : Bool → ℕ → List Waiting → List Waiting
taken_if b bio xs = if b then without bio xs else xs

-- all have smaller numbers
abbrev pub are_below : ℕ → List Waiting → Bool
are_below bio xs = list_all (λ x. nat_lt x.bio bio) xs

-- the numbers rise from one on, and fit 64 bits
abbrev pub Rises : ℕ → List Waiting → Type 0
Rises low [] = ⊤
Rises low (x ∷ xs) = (low ≤ x.bio) × (x.bio < 2 ^ 64) × Rises (x.bio + 1) xs

-- they are the keys of these
abbrev pub HasKeys : List ℕ → List Waiting → Type 0
HasKeys keys xs = (key : ℕ) → is_kept key keys ≡ has_key key xs

-- the numbers rise, what has these keys may be taken next, and no number is greater than the last
pub record AreLists (keys : List ℕ) (flush : Bool) (later : List (ℕ × Place)) (last : ℕ) : Type 0 where
  pub rises : Rises 0 (all_waiting keys flush later)
  pub next : candidates (all_waiting keys flush later) ≡ listed flush keys
  pub below : are_below (last + 1) (all_waiting keys flush later) ≡ true
