-- The tickets that a job puts after its step, by the outcome and in order. A ticket is a hint that a step may be due.
use Rattle.std.specs.Prelude.{ℕ, ◌%◌, ◌^◌, ◌==◌, ltb, true, List, [], ◌∷◌, filter, map, if◌then◌else◌}
use Rattle.std.specs.List.{range_with_len}
use Rattle.geo_lane.specs.declared.ticket.TicketStep.{TicketStep}
use Rattle.geo_lane.specs.declared.ticket.TicketStep.TheVariants as hints
use Rattle.geo_model.specs.declared.step.Outcome.{Outcome}
use Rattle.geo_model.specs.declared.step.Outcome.TheVariants as outcomes

-- a client, into the down lane: a bio that was accepted is to be started
abbrev pub go_hints : Outcome → List TicketStep
go_hints (outcomes.Accepted line bio) = hints.Start bio ∷ []
go_hints _ = []

-- the event worker, into the down lane: the read of a taste is to be started
abbrev pub judge_hints : Outcome → List TicketStep
judge_hints (outcomes.Reading bio) = hints.Start bio ∷ []
judge_hints _ = []

-- so many children are to be started, in order of their numbers; one whose number no ticket can have gets none
abbrev pub start_hints : ℕ → ℕ → List TicketStep
start_hints first count = map hints.Start (filter (λ n. ltb n (2 ^ 64)) (range_with_len first count))

-- the down worker, into the down lane: the children of a bio that was split are to be started
abbrev pub split_hints : Outcome → List TicketStep
split_hints (outcomes.Split first count) = start_hints first count
split_hints _ = []

-- into the lane of a disk worker: a bio that was queued at a disk of this worker is to be taken. There are two
-- workers, and the disks go to them in turn
abbrev pub queued_hint : ℕ → ℕ → Outcome → List TicketStep
queued_hint worker bio (outcomes.Queued disk) = if disk % 2 == worker then hints.Take disk bio ∷ [] else []
queued_hint worker bio _ = []

-- into the up lane: a bio that bounced is to go up
abbrev pub bounced_hint : ℕ → Outcome → List TicketStep
bounced_hint bio outcomes.Bounced = hints.Up bio ∷ []
bounced_hint bio _ = []

-- the up worker, into the up lane: a bio whose last child came in is to go up
abbrev pub up_hints : Outcome → List TicketStep
up_hints (outcomes.Gathered parent true) = hints.Up parent ∷ []
up_hints _ = []
