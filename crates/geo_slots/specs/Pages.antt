-- The pages of an index: each has the keys of 64 numbers in a row, and they stand in rising order.
use Rattle.std.specs.Prelude.{◌≡◌, ◌≢◌, ℕ, ◌*◌, ◌/◌, ◌%◌, ◌<◌, ◌≤◌, ◌^◌, ◌==◌, List, length, slice_index, Option, Some, None, IsSome, MatchOption, if◌then◌else◌}
use Rattle.std.specs.Int.{bit_at}
use Rattle.std.specs.List.{slice_get}
use Rattle.std.specs.Option.{option_map, option_and_then}
use Rattle.geo_slots.specs.Slots.{IsRising, value_at}
use Rattle.geo_slots.specs.declared.page.Page.{Page}

-- it has a place for the key of each of its numbers
abbrev pub IsFull : Page → Type 0
IsFull page = length page.keys.items ≡ 64

-- the key of a page's number, if it has one
abbrev pub key_in : Page → ℕ → Option ℕ
key_in page at = if bit_at page.live at == 1 then Some (slice_index page.keys.items at) else None

-- the page with this key under a number, or with none: the others keep what they have
pub record IsWith (old : Page) (at : ℕ) (key : Option ℕ) (new : Page) : Type 0 where
  pub here : key_in new at ≡ key
  pub others : (other : ℕ) → other < 64 → other ≢ at → key_in new other ≡ key_in old other
  pub full : length new.keys.items ≡ length old.keys.items

-- of the numbers from `low` on below `high`, the first that has something
abbrev pub IsFirst : {A : Type 0} → (ℕ → Option A) → ℕ → ℕ → Option ℕ → Type 0
IsFirst has low high found =
    MatchOption
    found
    ((n : ℕ) → low ≤ n → n < high → has n ≡ None)
    (λ m. (low ≤ m) × (m < high) × IsSome (has m) × ((n : ℕ) → low ≤ n → n < m → has n ≡ None))

-- the pages, each under its number
abbrev pub Pages : Type 0
Pages = List (ℕ × Page)

-- the key of a number, if it has one
abbrev pub key_at : Pages → ℕ → Option ℕ
key_at pages number = option_and_then (λ page. key_in page (number % 64)) (value_at pages (number / 64))

-- the number of the page at a place
abbrev pub page_at : Pages → ℕ → Option ℕ
page_at pages at = option_map (λ p. p.0) (slice_get pages at)

-- its number and its bits
abbrev pub bits_at : Pages → ℕ → Option (ℕ × ℕ)
bits_at pages at = option_map (λ p. (p.0, p.1.live)) (slice_get pages at)

-- a page that isn't there would stand at this place
pub record IsGap (pages : Pages) (page at : ℕ) : Type 0 where
  pub before : (k m : ℕ) → k < at → page_at pages k ≡ Some m → m < page
  pub behind : (k m : ℕ) → at ≤ k → page_at pages k ≡ Some m → page < m

-- the pages rise up to `end`, and each has its places
pub record AreInOrder (pages : Pages) (end : ℕ) : Type 0 where
  pub rising : IsRising 0 pages end
  pub small : end * 64 ≤ 2 ^ 64
  pub full : (m : ℕ) (page : Page) → value_at pages m ≡ Some page → IsFull page

-- Numbers below `next` were given out. Of their pages those are there that have a key, and of the others all below `end`.
pub record ArePages (pages : Pages) (end next : ℕ) : Type 0 where
  pub in_order : AreInOrder pages end
  pub reaches : next / 64 ≤ end
  pub used : (m : ℕ) (page : Page) → value_at pages m ≡ Some page → m < next / 64 → page.live ≢ 0
  pub there : (m : ℕ) → next / 64 ≤ m → m < end → IsSome (value_at pages m)
  pub unused : (n : ℕ) → next ≤ n → key_at pages n ≡ None

-- the keys of the numbers, with this one under a number: the others keep what they have
pub record AreWith (old : Pages) (number : ℕ) (key : Option ℕ) (new : Pages) : Type 0 where
  pub here : key_at new number ≡ key
  pub others : (n : ℕ) → n ≢ number → key_at new n ≡ key_at old n

-- more room alone was made
pub record HaveRoom (old : Pages) (old_end : ℕ) (new : Pages) (new_end : ℕ) : Type 0 where
  pub in_order : AreInOrder new new_end
  pub grows : old_end ≤ new_end
  pub pages_are : (next : ℕ) → ArePages old old_end next → ArePages new new_end next
  pub same : (n : ℕ) → key_at new n ≡ key_at old n
