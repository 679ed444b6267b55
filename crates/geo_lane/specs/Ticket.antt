-- Tickets by their senders.
use Rattle.std.specs.Prelude.{◌≡◌, ℕ, ◌+◌, List, [], ◌∷◌, filter, eqb}
use Rattle.geo_lane.specs.declared.ticket.Ticket.{Ticket}

-- the tickets of a sender, in order
abbrev pub sent_by : ℕ → List Ticket → List Ticket
sent_by n = filter (λ t. eqb t.sender n)

-- they are tickets of the sender n, numbered from k on without a gap
abbrev pub AreNumbered : ℕ → ℕ → List Ticket → Type 0
AreNumbered n k [] = Unit {0}
AreNumbered n k (t ∷ ts) = (t.sender ≡ n) × (t.number ≡ k) × AreNumbered n (k + 1) ts
