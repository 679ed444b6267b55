-- The views of passes: at the start, split in two, taken in, after a put and after a take.
use Rattle.std.specs.Prelude.{ℕ, ◌+◌, List, [], ◌∷◌, ◌++◌, Bool, true, false}
use Rattle.geo_lane.specs.declared.ticket.Ticket.{Ticket}
use Rattle.geo_lane.specs.declared.sent.Sent.{Sent}
use Rattle.geo_lane.specs.declared.view.View.{View}

abbrev pub a_view : Bool → ℕ → ℕ → List Ticket → List Ticket → List Sent → View
a_view live number split put taken ended =
    record { live = live; number = number; split = split; put = put; taken = taken; ended = ended }

-- the pass 0 of an empty lane
abbrev pub opening_view : View
opening_view = a_view true 0 0 [] [] []

-- what is left of a pass that was taken in
abbrev pub nobody : View
nobody = a_view false 0 0 [] [] []

-- the pass 0, once another pass was made of it
abbrev pub one_more : View → View
one_more v = a_view v.live v.number (v.split + 1) v.put v.taken v.ended

-- the pass that was made: it has the next number, and has put nothing
abbrev pub newcomer : View → View
newcomer v = a_view true (v.split + 1) 0 [] [] []

abbrev pub sent : View → Sent
sent v = record { sender = v.number; put = v.put }

-- the first pass, which now knows what the second had put
abbrev pub with_ended : View → View → View
with_ended v w = a_view v.live v.number v.split v.put v.taken (v.ended ++ sent w ∷ [])

abbrev pub has_put : View → Ticket → View
has_put v t = a_view v.live v.number v.split (v.put ++ t ∷ []) v.taken v.ended

abbrev pub has_taken : View → Ticket → View
has_taken v t = a_view v.live v.number v.split v.put (v.taken ++ t ∷ []) v.ended
