-- The rule of a view, and what each kind of step tells. Three slots change hands as in triple buffering. Word 0 is
-- twice the slot that waits, and one more while what waits there wasn't taken by the watcher since it was shown.
use Rattle.std.specs.Prelude.{◌≡◌, ◌≢◌, ℕ, ◌+◌, ◌*◌, ◌/◌, ◌%◌, ◌<◌, List, [], ◌∷◌, length, Bool, true, false, Option, Some}
use mathlib.Core.Option.{some}
use mathlib.Core.List.{IsPrefix}
use lib.ListN.{get_elem?}
use Rattle.atomic_table.specs.Table.{State, Me, Step}
use Rattle.geo_model.specs.declared.step.Entry.{Entry}
use Rattle.geo_jobs.specs.Passes.{MeshPass}
use Rattle.geo_jobs.specs.declared.role.Role.{Role}
use Rattle.geo_jobs.specs.declared.role.Role.TheVariants.{First, Shows, Comes, Looks, Note}
use Rattle.geo_jobs.specs.declared.known.Known.{Known}
use Rattle.geo_jobs.specs.declared.shown.Shown.{Shown}
use Rattle.geo_jobs.specs.Views.{AllBegin, AreOnePass, expecting, looking, showing}

-- what a slot holds
abbrev pub Slot : Type 0
Slot = Option Shown

-- the word, the slots and what each end knows
abbrev pub ViewState : Type 0
ViewState = State Slot Known

-- what an end knows, and the slots that it holds
abbrev pub Seat : Type 0
Seat = Me Slot Known

-- what was seen of which the list was shown last; the slot that waits, the publisher's and the watcher's; whether a
-- newer list waits; whether the latter two slots are out; whether there is a watcher; and the seats of the two ends
pub record Layout : Type 0 where
  pub latest : List Entry
  pub middle : ℕ
  pub back : ℕ
  pub front : ℕ
  pub fresh : Bool
  pub back_out : Bool
  pub front_out : Bool
  pub has_watcher : Bool
  pub publisher : ℕ
  pub watcher : ℕ

abbrev pub bit : Bool → ℕ
bit true = 1
bit false = 0

-- the list is the one that was shown last
abbrev pub IsLatest : MeshPass → List Entry → Slot → Type 0
IsLatest from latest x = (y : Shown) × (x ≡ Some y) × (y.at.value.seen ≡ latest) × AreOnePass from y.at.value

-- what a role says of the layout. A watcher that knows of no newer list has seen the latest, where none waits
abbrev pub Plays : Layout → ℕ → List Entry → Role → Type 0
Plays p j seen First = (j ≡ p.publisher) × (p.has_watcher ≡ false) × (p.back ≡ 1) × (p.front ≡ 2) × (p.back_out ≡ false)
    × (p.front_out ≡ false) × (p.fresh ≡ true) × (seen ≡ p.latest)
Plays p j seen (Shows b out) = (j ≡ p.publisher) × (b ≡ p.back) × (out ≡ p.back_out) × (seen ≡ p.latest)
Plays p j seen (Comes f) = (p.has_watcher ≡ true) × (j ≡ p.watcher) × (f ≡ p.front) × (p.front_out ≡ false)
    × (p.fresh ≡ true)
Plays p j seen (Looks f marked) = (p.has_watcher ≡ true) × (j ≡ p.watcher) × (f ≡ p.front)
    × (marked ≡ true → p.fresh ≡ true) × (p.fresh ≡ false → seen ≡ p.latest)
Plays p j seen Note = Unit {0}

-- what the seat j knows is true
pub record Knows (from : MeshPass) (p : Layout) (j : ℕ) (d : Known) : Type 0 where
  pub of : (o : MeshPass) → d.of ≡ Some o → o ≡ from
  pub seen : IsPrefix d.seen p.latest
  pub told : AllBegin d.told p.latest
  pub part : Plays p j d.seen d.role

-- the rule of a view that began with this pass
pub record IsKept (from : MeshPass) (s : ViewState) : Type 0 where
  pub layout : Layout
  pub low : (layout.middle < 3) × (layout.back < 3) × (layout.front < 3)
  pub apart : (layout.back ≢ layout.middle) × (layout.front ≢ layout.middle) × (layout.back ≢ layout.front)
  pub word : s.words ≡ (2 * layout.middle + bit layout.fresh) ∷ []
  pub long : length s.homes ≡ 3
  pub shown : (x : Slot) × (get_elem? s.homes layout.middle ≡ some (some x))
      × (layout.fresh ≡ true → IsLatest from layout.latest x)
  pub back_home : layout.back_out ≡ false → (y : Slot) × (get_elem? s.homes layout.back ≡ some (some y))
  pub front_home : layout.front_out ≡ false → (y : Slot) × (get_elem? s.homes layout.front ≡ some (some y))
  pub each_view : (j : ℕ) (d : Known) → get_elem? s.views j ≡ some d → Knows from layout j d

-- the publisher has its slot
abbrev pub TakesSlotBack : Step Slot → Seat → ℕ → Seat → Type 0
TakesSlotBack st m r m' = (b : ℕ) → m.0.role ≡ Shows b false → (y : Slot)
    × (m' ≡ (showing m.0 b m.0.seen, (b, y) ∷ m.1))

-- the publisher has shown what was in its slot, and has the slot that waited
abbrev pub ShowsIt : Step Slot → Seat → ℕ → Seat → Type 0
ShowsIt st m r m' = (b : ℕ) (x : Shown) → m.0.role ≡ Shows b true → m.1 ≡ (b, Some x) ∷ []
    → (y : Slot) × (r / 2 < 3) × (m' ≡ (showing m.0 (r / 2) x.at.value.seen, (r / 2, y) ∷ []))

-- the publisher finds that all it was told of begins what it shows
abbrev pub Agrees : Step Slot → Seat → ℕ → Seat → Type 0
Agrees st m r m' = (b : ℕ) → m.0.role ≡ Shows b true
    → (m' ≡ (showing m.0 b m.0.seen, m.1)) × AllBegin m.0.told m.0.seen

-- the watcher learns whether a newer list waits; where none does, it has seen what it was told of
abbrev pub Peeps : Step Slot → Seat → ℕ → Seat → Type 0
Peeps st m r m' = (f : ℕ) → m.0.role ≡ Looks f false
    → (r % 2 ≡ 1 → m' ≡ (expecting m.0 f, m.1))
    × (r % 2 ≢ 1 → (m' ≡ (looking m.0 f m.0.seen, m.1)) × AllBegin m.0.told m.0.seen)

-- the list is of what begins with all that the watcher saw and was told of
pub record IsNews (v : Known) (x : Shown) : Type 0 where
  pub seen : IsPrefix v.seen x.at.value.seen
  pub told : AllBegin v.told x.at.value.seen
  pub of : (o : MeshPass) → v.of ≡ Some o → AreOnePass o x.at.value

-- the slot that the watcher gives, once it has one
abbrev pub Gives : Seat → ℕ → Type 0
Gives m f = (x : Slot) × (m.1 ≡ (f, x) ∷ [])

-- the watcher has the list that waited
abbrev pub HasFetched : Seat → ℕ → Seat → Type 0
HasFetched m r m' = (x : Shown) × IsNews m.0 x × (r / 2 < 3)
    × (m' ≡ (looking m.0 (r / 2) x.at.value.seen, (r / 2, Some x) ∷ []))

-- so has a watcher that has just come, and one that knew of a newer list
abbrev pub Fetches : Step Slot → Seat → ℕ → Seat → Type 0
Fetches st m r m' = (f : ℕ)
    → (m.0.role ≡ Comes f → m.1 ≡ [] → HasFetched m r m')
    × (m.0.role ≡ Looks f true → Gives m f → HasFetched m r m')
