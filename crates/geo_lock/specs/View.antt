-- The views of passes: at the start, split in two, joined, in turn and out of turn.
use Rattle.std.specs.Prelude.{ℕ, ◌+◌, List, [], ◌∷◌, ◌++◌, Bool, true, false, Option, Some, None}
use Rattle.geo_lock.specs.declared.claim.Claim.{Claim}
use Rattle.geo_lock.specs.declared.view.View.{View}
use Rattle.geo_lock.specs.Logged.{entries_with_seat}

module _ {E : Type 0} where
  abbrev pub a_claim : ℕ → List E → List E → Claim E
  a_claim number own seen = record { number = number; own = own; seen = seen }

  -- the number of the first claim, which is the pass's own
  abbrev pub first_number : List (Claim E) → ℕ
  first_number [] = 0
  first_number (c ∷ cs) = c.number

module _ {B E : Type 0} where
  abbrev pub a_view : Option B → List E → List (Claim E) → ℕ → Bool → View B E
  a_view start seen claims made turn = record { start = start; seen = seen; claims = claims; made = made; turn = turn }

  -- what is left of a pass that was joined to another
  abbrev pub nobody : View B E
  nobody = a_view None [] [] 0 false

  -- a pass out of turn
  abbrev pub resting : B → ℕ → List E → List E → ℕ → View B E
  resting start number own seen made = a_view (Some start) seen (a_claim number own seen ∷ []) made false

  -- the pass 0 at the start, before any entry
  abbrev pub opening_view : B → View B E
  opening_view start = resting start 0 [] [] 1

  -- the pass 0, once another pass was made
  abbrev pub one_more : View B E → View B E
  one_more v = a_view v.start v.seen v.claims (v.made + 1) v.turn

  -- the pass that was made: it has the old count as its number, has seen the same, and has no entry
  abbrev pub newcomer : View B E → View B E
  newcomer v = a_view v.start v.seen (a_claim v.made [] v.seen ∷ []) 0 false

  abbrev pub with_claims : View B E → List (Claim E) → View B E
  with_claims v claims = a_view v.start v.seen claims v.made v.turn

  -- the first pass, with the claims of the second behind its own
  abbrev pub together : View B E → View B E → View B E
  together v w = with_claims v (v.claims ++ w.claims)

  -- in turn, with the log seen
  abbrev pub in_turn : View B E → List E → View B E
  in_turn v h = a_view v.start h v.claims v.made true

  -- out of turn, with the log seen and its own entries in it
  abbrev pub out_of_turn : (E → ℕ) → View B E → List E → View B E
  out_of_turn seat_of v h = let n = first_number v.claims in
      a_view v.start h (a_claim n (entries_with_seat seat_of n h) h ∷ []) v.made false
