-- Where a session stands, and where each answer leads.
use Rattle.std.specs.Prelude.{ℕ, List, [], Option, Some, None}
use Rattle.geo_connection.specs.declared.meeting.Met.{Met}
use Rattle.geo_connection.specs.declared.meeting.Met.TheVariants as mets
use Rattle.geo_connection.specs.declared.stage.Stage.{Stage}
use Rattle.geo_connection.specs.declared.stage.Stage.TheVariants as stages
use Rattle.geo_connection.specs.declared.turn.Turn.{Turn}
use Rattle.geo_connection.specs.declared.turn.Turn.TheVariants as turns
use Rattle.geo_nbd.specs.declared.export.Export.{Export}
use Rattle.geo_nbd.specs.declared.request.Request.{Request}
use Rattle.geo_tags.specs.Tags.{TaggedView}
use Rattle.geo_serving.specs.declared.client.Client.{Client}
use Rattle.geo_serving.specs.declared.client.Doing.{Doing}
use Rattle.geo_serving.specs.declared.client.Doing.TheVariants as doings
use Rattle.geo_serving.specs.declared.talk.Chosen.{Chosen}
use Rattle.geo_serving.specs.declared.talk.Talk.{Talk}
use Rattle.geo_serving.specs.declared.talk.Talk.TheVariants as talks
use Rattle.geo_serving.specs.Handles.{handle_at}

-- a session at one moment
pub data Point : Type 0 where
  -- the server is to greet its client with these exports
  greets : List Export → TaggedView → Point
  -- the handshake is at this stage
  hears : List Export → Stage → TaggedView → Point
  -- the head of a request is read next
  awaits : Client → TaggedView → Point
  -- what comes behind the head of this request is read next
  follows : Client → TaggedView → Request → Point
  -- this is to be done
  does : Client → TaggedView → Turn → Point
  -- the session is over
  over : Point

-- The handshake

-- what the next stage of the handshake is: another message, requests, or the end
abbrev pub talk_of : Stage → Talk
talk_of (stages.Serving export structured) = talks.Serves (record { export = export; structured = structured })
talk_of stages.Ended = talks.Ends
talk_of stage = talks.On stage

-- requests for an export go through its handle of the mesh; none is out
abbrev pub client_of : Chosen → List ℕ → Client
client_of chosen handle = record {
  size = (chosen.export).size;
  service = record { handle = handle; structured = chosen.structured; out = []; next_token = 0 };
}

abbrev pub through : Chosen → TaggedView → Option (List ℕ) → Point
through chosen mesh None = over
through chosen mesh (Some handle) = awaits (client_of chosen handle) mesh

-- an export that was chosen is served; else the session is over
abbrev pub chosen_point : List Export → TaggedView → Option Chosen → Point
chosen_point exports mesh None = over
chosen_point exports mesh (Some chosen) = through chosen mesh (handle_at exports chosen.export)

abbrev pub talk_point : List Export → TaggedView → Talk → Point
talk_point exports mesh (talks.On stage) = hears exports stage mesh
talk_point exports mesh (talks.Serves chosen) = chosen_point exports mesh (Some chosen)
talk_point exports mesh talks.Ends = over

-- Requests

-- bytes that are no head of a request end the session
abbrev pub headed : Option Request → Doing
headed None = doings.Over
headed (Some r) = doings.Follows r

-- a request that came ends the session, has its reply at once, or has its first command given to the mesh
abbrev pub met_doing : Met → Doing
met_doing mets.Ends = doings.Over
met_doing (mets.Says sent) = doings.Does (turns.Says sent)
met_doing (mets.Begins b) = doings.Does (turns.Gives b)

abbrev pub point_of : Client → TaggedView → Doing → Point
point_of client mesh doings.Awaits = awaits client mesh
point_of client mesh (doings.Follows r) = follows client mesh r
point_of client mesh (doings.Does turn) = does client mesh turn
point_of client mesh doings.Over = over
