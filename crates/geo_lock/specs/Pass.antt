-- What contracts see of a pass.
use Rattle.std.specs.Prelude.{◌≡◌, ℕ, ◌<◌, ◌≤◌, List, [], ◌∷◌, Option}
use Rattle.std.specs.Option.{ForSome}
use mathlib.Core.List.{IsPrefix}
use Rattle.atomic_table.specs.Seated.{TableId}
use Rattle.atomic_table.specs.Table.{Me}
use Rattle.geo_lock.specs.declared.claim.Claim.{Claim}
use Rattle.geo_lock.specs.declared.view.View.{View}
use Rattle.geo_lock.specs.Logged.{entries_with_seat}
use Rattle.geo_lock.specs.View.{a_claim, resting}

-- the yard, the start of its state, the pass's number, what it has seen of the log, its own entries, and for the pass
-- 0 how many passes were made
pub record PassView (B E : Type 0) : Type 0 where
  pub yard : TableId
  pub start : Option B
  pub number : ℕ
  pub seen : List E
  pub own : List E
  pub made : ℕ

-- the own entries of the first claim
abbrev pub own_of : {E : Type 0} → List (Claim E) → List E
own_of [] = []
own_of (c ∷ cs) = c.own

module _ {B E : Type 0} where
  abbrev pub claim_of : PassView B E → Claim E
  claim_of p = a_claim p.number p.own p.seen

  -- what the pass has seen begins the log, and its own entries are those of the log with its number, in order, all of
  -- them among what it has seen
  pub record IsGoodIn (seat_of : E → ℕ) (p : PassView B E) (log : List E) : Type 0 where
    pub seen : IsPrefix p.seen log
    pub own : entries_with_seat seat_of p.number log ≡ p.own
    pub own_seen : entries_with_seat seat_of p.number p.seen ≡ p.own

  -- the pass is good in what it has seen, and that is lawful from its start
  pub record IsGood (lawful : B → List E → Type 0) (seat_of : E → ℕ) (p : PassView B E) : Type 0 where
    pub good : IsGoodIn seat_of p p.seen
    pub law : ForSome p.start (λ b. lawful b p.seen)

  -- the same pass of the same yard, before and after a call
  pub record IsSamePass (p q : PassView B E) : Type 0 where
    pub yard : q.yard ≡ p.yard
    pub start : q.start ≡ p.start
    pub number : q.number ≡ p.number
    pub made : q.made ≡ p.made

-- what a pass keeps of its seat, out of turn
pub record IsSound {S B E : Type 0} (lawful : B → List E → Type 0) (seat_of : E
    → ℕ) (b : B) (number made : ℕ) (me : Me S (View B E)) : Type 0 where
  pub me_is : me ≡ (resting b number (own_of me.0.claims) me.0.seen made, [])
  pub own : entries_with_seat seat_of number me.0.seen ≡ own_of me.0.claims
  pub law : lawful b me.0.seen
  pub none_more : number ≡ 0 → (0 < made) × ((n : ℕ) → made ≤ n → entries_with_seat seat_of n me.0.seen ≡ [])
