-- The rule of the lock, and what each kind of step tells. Word 0 is twice the number of entries in the log, and one
-- more while a pass has the turn. Slot 0 has the state at home, and is out with the pass that has the turn.
use Rattle.std.specs.Prelude.{◌≡◌, ℕ, ◌+◌, ◌*◌, ◌^◌, ◌<◌, ◌≤◌, List, [], ◌∷◌, length, Bool, true, false, Option, Some}
use mathlib.Core.Option.{some, none}
use mathlib.Core.List.{IsPrefix}
use lib.ListN.{get_elem?}
use Rattle.atomic_table.specs.Table.{State, Me, Step}
use Rattle.geo_lock.specs.declared.claim.Claim.{Claim}
use Rattle.geo_lock.specs.declared.view.View.{View}
use Rattle.geo_lock.specs.Logged.{entries_with_seat}
use Rattle.geo_lock.specs.View.{in_turn, out_of_turn}

module _ {E : Type 0} where
  -- the claim is true of the log h and belongs to the view j, which counts `counted` passes. `made` is how many were
  -- made, and `owner` says which view has the claim of each number
  pub record IsClaimOf (seat_of : E → ℕ) (h : List E) (made : ℕ) (owner : ℕ
      → ℕ) (j counted : ℕ) (c : Claim E) : Type 0 where
    pub entries : entries_with_seat seat_of c.number h ≡ c.own
    pub prefix : IsPrefix c.seen h
    pub among : entries_with_seat seat_of c.number c.seen ≡ c.own
    pub owned : owner c.number ≡ j
    pub below : c.number < made
    pub count : c.number ≡ 0 → counted ≡ made

module _ {B E : Type 0} where
  -- what the view j says is true of the log h: its start, what it has seen, its turn and its claims
  pub record Knows (lawful : B → List E → Type 0) (seat_of : E → ℕ) (from : B) (h : List E) (made : ℕ) (owner : ℕ
      → ℕ) (busy : Bool) (holder j : ℕ) (v : View B E) : Type 0 where
    pub start : (b : B) → v.start ≡ Some b → b ≡ from
    pub seen : IsPrefix v.seen h
    pub law : (b : B) → v.start ≡ Some b → lawful b v.seen
    pub turn : v.turn ≡ true → (busy ≡ true) × (j ≡ holder) × (v.seen ≡ h)
    pub claims : (i : ℕ) (c : Claim E) → get_elem? v.claims i ≡ some c → IsClaimOf seat_of h made owner j v.made c

module _ {L B E : Type 0} (start : L → B) (log : L → List E) (lawful : B → List E → Type 0) (seat_of : E → ℕ) where
  -- the word and the slot: at home, or out with the view that has the turn
  abbrev pub Placed : B → List E → ℕ → State (Option L) (View B E) → Bool → Type 0
  Placed from h holder s false = (s.words ≡ (2 * length h) ∷ [])
      × ((x : L) × (s.homes ≡ some (Some x) ∷ []) × (start x ≡ from) × (log x ≡ h))
  Placed from h holder s true = (s.words ≡ (2 * length h + 1) ∷ []) × (s.homes ≡ none ∷ [])
      × ((v : View B E) × (c : Claim E) × (get_elem? s.views holder ≡ some v) × (v.turn ≡ true)
      × (get_elem? v.claims 0 ≡ some c))

  -- the rule: h is the log without an unfinished entry, `made` how many passes were made, and `busy` whether a pass,
  -- the one of the view `holder`, has the turn
  pub record IsKept (from : B) (s : State (Option L) (View B E)) : Type 0 where
    pub h : List E
    pub made : ℕ
    pub owner : ℕ → ℕ
    pub busy : Bool
    pub holder : ℕ
    pub law : lawful from h
    pub small : length h ≤ 2 ^ 62
    pub placed : Placed from h holder s busy
    pub each_view : (j : ℕ) (v : View B E) → get_elem? s.views j ≡ some v
        → Knows lawful seat_of from h made owner busy holder j v
    pub unmade : (n : ℕ) → made ≤ n → entries_with_seat seat_of n h ≡ []

  -- what a pass with this view finds in the slot, where the word was `found`
  pub record Found (v : View B E) (found : ℕ) (x : L) : Type 0 where
    pub start_is : (b : B) → v.start ≡ Some b → start x ≡ b
    pub longer : IsPrefix v.seen (log x)
    pub law : lawful (start x) (log x)
    pub small : length (log x) ≤ 2 ^ 62
    pub word : found ≡ 2 * length (log x)
    pub own : (c : Claim E) → get_elem? v.claims 0 ≡ some c → entries_with_seat seat_of c.number (log x) ≡ c.own
    pub none_more : (c : Claim E) → get_elem? v.claims 0 ≡ some c → c.number ≡ 0 → (n : ℕ) → v.made ≤ n
        → entries_with_seat seat_of n (log x) ≡ []
    pub below : (c : Claim E) → get_elem? v.claims 0 ≡ some c → c.number ≡ 0 → c.number < v.made

  abbrev pub Seat : Type 0
  Seat = Me (Option L) (View B E)

  -- where the word was still as it was found, the pass is in turn and has the state out. Else nothing changed
  abbrev pub TakesTurn : Step (Option L) → Seat → ℕ → Seat → Type 0
  TakesTurn st m r m' = (r ≡ st.first → (x : L) × Found m.0 r x × (m' ≡ (in_turn m.0 (log x), (0, Some x) ∷ [])))
      × ((r ≡ st.first → ⊥) → m' ≡ m)

  -- the slot at the end, where the last view has the claims of all
  pub record Ends (from : B) (v : View B E) (homes : List (mathlib.Core.Option.Option (Option L))) : Type 0 where
    pub state : L
    pub home : homes ≡ some (Some state) ∷ []
    pub begun : start state ≡ from
    pub law : lawful from (log state)
    pub seen : IsPrefix v.seen (log state)
    pub claims : (i : ℕ) (c : Claim E) → get_elem? v.claims i ≡ some c
        → (entries_with_seat seat_of c.number (log state) ≡ c.own) × IsPrefix c.seen (log state)
        × (entries_with_seat seat_of c.number c.seen ≡ c.own)
    pub unmade : (n : ℕ) → v.made ≤ n → entries_with_seat seat_of n (log state) ≡ []

module _ {L B E : Type 0} (log : L → List E) (seat_of : E → ℕ) where
  -- the pass is out of turn, and has seen the log of the state that it put back
  abbrev pub GivesTurn : Step (Option L) → Me (Option L) (View B E) → ℕ → Me (Option L) (View B E) → Type 0
  GivesTurn st m r m' = (x : L) → m.1 ≡ (0, Some x) ∷ [] → m' ≡ (out_of_turn seat_of m.0 (log x), [])
