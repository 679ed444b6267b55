-- The rule of a lane, what each kind of step tells, and what a pass can tell of what the lane holds.
-- The history of a lane is what was taken and then what it holds.
use Rattle.std.specs.Prelude.{◌≡◌, ◌≢◌, ℕ, ◌+◌, ◌<◌, ◌≤◌, List, [], ◌++◌, length, true, All}
use mathlib.Core.Option.{some}
use mathlib.Core.List.{IsPrefix}
use lib.ListN.{get_elem?}
use Rattle.geo_lane.specs.declared.ticket.Ticket.{Ticket}
use Rattle.geo_lane.specs.declared.view.View.{View}
use Rattle.geo_lane.specs.Ticket.{sent_by, AreNumbered}
use Rattle.geo_lane.specs.View.{has_put, has_taken}

-- `put` is all that the sender n has put, and the view j knows it. `made` is how many passes there were, and `owner`
-- says which view knows of each number
pub record IsSentOf (history : List Ticket) (made : ℕ) (owner : ℕ → ℕ) (j n : ℕ) (put : List Ticket) : Type 0 where
  pub is : sent_by n history ≡ put
  pub owned : owner n ≡ j
  pub below : n < made

-- what the view j says is true: what it has put, what the passes that it took in had put, and, of the pass 0, how
-- many passes there were and what was taken
pub record Knows (taken items : List Ticket) (made : ℕ) (owner : ℕ → ℕ) (j : ℕ) (v : View) : Type 0 where
  pub own : v.live ≡ true → IsSentOf (taken ++ items) made owner j v.number v.put
  pub ended : v.live ≡ true
      → All (λ s. IsSentOf (taken ++ items) made owner j s.sender s.put × (s.sender ≢ v.number)) v.ended
  pub first : v.live ≡ true → v.number ≡ 0 → (v.split + 1 ≡ made) × (v.taken ≡ taken)

-- the rule: each sender's tickets, taken or in the lane, are those that it put, numbered 0, 1, 2 and so on
pub record IsDelivered (items : List Ticket) (views : List View) : Type 0 where
  pub taken : List Ticket
  pub made : ℕ
  pub owner : ℕ → ℕ
  pub each_view : (j : ℕ) (v : View) → get_elem? views j ≡ some v → Knows taken items made owner j v
  pub numbered : (n : ℕ) → AreNumbered n 0 (sent_by n (taken ++ items))
  pub unmade : (n : ℕ) → made ≤ n → sent_by n (taken ++ items) ≡ []

-- what a pass with this view can tell of the tickets that its lane holds at one moment
pub record Tells (v : View) (items : List Ticket) : Type 0 where
  pub taken : List Ticket
  pub numbered : (n : ℕ) → AreNumbered n 0 (sent_by n (taken ++ items))
  pub own : sent_by v.number (taken ++ items) ≡ v.put
  pub ended : All (λ s. sent_by s.sender (taken ++ items) ≡ s.put) v.ended
  pub first : v.number ≡ 0 → (taken ≡ v.taken) × ((n : ℕ) → v.split < n → sent_by n (taken ++ items) ≡ [])

-- what the pass 0 has taken of each sender is numbered 0, 1, 2 and so on, and begins what that sender put, where the
-- pass knows it
pub record AreTakenInOrder (v : View) : Type 0 where
  pub numbered : (n : ℕ) → AreNumbered n 0 (sent_by n v.taken)
  pub own : IsPrefix (sent_by v.number v.taken) v.put
  pub ended : All (λ s. IsPrefix (sent_by s.sender v.taken) s.put) v.ended

-- a pass's tickets are numbered 0, 1, 2 and so on, and so are those that the pass 0 has taken of each sender
pub record IsInOrder (v : View) : Type 0 where
  pub put : AreNumbered v.number 0 v.put
  pub taken : v.number ≡ 0 → AreTakenInOrder v

-- the pass 0 has taken all that it put itself, and all that the passes which it took in had put
pub record HasTakenAll (v : View) : Type 0 where
  pub own : sent_by v.number v.taken ≡ v.put
  pub ended : All (λ s. sent_by s.sender v.taken ≡ s.put) v.ended

-- the pass has put the ticket, and this is what it can tell of the lane after it
abbrev pub Puts : View → Ticket → View → Type 0
Puts v t w = (w ≡ has_put v t) × ((items : List Ticket) × Tells w items)

-- the pass has taken the ticket, whose number is how many of its sender were taken before, and this is what it can
-- tell of the lane after it
abbrev pub Takes : View → Ticket → View → Type 0
Takes v t w = (w ≡ has_taken v t) × (t.number ≡ length (sent_by t.sender v.taken))
    × ((items : List Ticket) × Tells w items)
