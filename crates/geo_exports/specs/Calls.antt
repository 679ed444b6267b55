-- What each call answers, and what a handle holds behind it: the live mesh that it held, after what the live mesh's own
-- call did.
use Rattle.std.specs.Prelude.{◌≡◌, ◌⊎◌, ◌<◌, ◌≤◌, ◌++◌, ℕ, ℤ, List, Option, Some, None, Result, Ok, Err, IfOk, length, drop}
use Rattle.geo_base.specs.declared.block.NoMemory.{NoMemory}
use Rattle.geo_model.specs.declared.command.Command.{Command}
use Rattle.geo_model.specs.declared.command.LineCommand.{LineCommand}
use Rattle.geo_model.specs.declared.step.DeviceResult.{DeviceResult}
use Rattle.geo_model.specs.declared.step.Found.{Found}
use Rattle.geo_model.specs.declared.step.Reply.{Reply}
use Rattle.geo_model.specs.Listing.{listing}
use Rattle.geo_model.specs.Report.{mesh_text}
use Rattle.geo_session.specs.declared.refusal.SessionRefusal.{SessionRefusal}
use Rattle.geo_tags.specs.declared.due.Due.{Due}
use Rattle.geo_tags.specs.Calls.{Delivers, Nexts, Submits}
use Rattle.geo_tags.specs.Tags.{TaggedView, waiting}
use Rattle.geo_exports.specs.declared.codes.TheConstants.{CLOSED, NO_MEMORY, OK, ROOM, UNFIT, WRONG}
use Rattle.geo_exports.specs.declared.event.TzbEvent.{TzbEvent}
use Rattle.geo_exports.specs.declared.event.TheConstants.{IDLE}
use Rattle.geo_exports.specs.declared.refusal.Refusal.{Refusal}
use Rattle.geo_exports.specs.Events.{bytes_of, event_of, plain}
use Rattle.geo_exports.specs.Numbers.{given_code, given_error}
use Rattle.geo_exports.specs.Texts.{IsCommandOf, IsNoCommand, refusal_code}

-- a command was given to a live mesh
abbrev pub Gives : ℤ → ℕ → TaggedView → TaggedView → ℕ → Command → ℕ → Type 0
Gives code error old new actor command token =
    (given : Result (Option Reply) SessionRefusal) × Submits given old new actor command token
    × (code ≡ given_code given) × (error ≡ given_error given)

-- to what a handle holds, if it is open
abbrev pub Given : ℤ → ℕ → Option TaggedView → Option TaggedView → ℕ → Command → ℕ → Type 0
Given code error None new actor command token = (code ≡ CLOSED) × (error ≡ 0) × (new ≡ None)
Given code error (Some old) (Some new) actor command token = Gives code error old new actor command token
Given code error (Some old) None actor command token = ⊥

-- where there is no memory for the bytes of a WRITE it isn't given
abbrev pub Written : ℤ → ℕ → Option TaggedView → Option TaggedView → ℕ → Command → ℕ → Type 0
Written code error old new actor command token =
    Given code error old new actor command token ⊎ ((code ≡ NO_MEMORY) × (error ≡ 0) × (new ≡ old))

-- where an argument doesn't have its form nothing is given
abbrev pub Refused : ℤ → ℕ → Option TaggedView → Option TaggedView → Type 0
Refused code error old new = (code ≡ WRONG) × (error ≡ 0) × (new ≡ old)

-- the one command of a text was given, as of its actor; or the text has it not, and nothing is given
abbrev pub Commanded : ℤ → ℕ → Option TaggedView → Option TaggedView → List ℕ → ℕ → Type 0
Commanded code error old new text token =
    ((c : LineCommand) × IsCommandOf text c × Given code error old new c.actor c.command token)
    ⊎ ((refusal : Refusal) × IsNoCommand refusal text × (code ≡ refusal_code refusal) × (error ≡ 0) × (new ≡ old))

-- what is told of a turn: what is due, and its bytes in front of a buffer that has room for them
abbrev pub Tells : ℤ → TzbEvent → List ℕ → List ℕ → Result Due NoMemory → Type 0
Tells code event was bytes (Ok due) = (code ≡ OK) × (event ≡ event_of due)
    × (length (bytes_of due) ≤ length was → bytes ≡ bytes_of due ++ drop (length (bytes_of due)) was)
Tells code event was bytes (Err wanting) = (code ≡ NO_MEMORY) × (event ≡ plain IDLE) × (bytes ≡ was)

-- the step that is due was made
abbrev pub Turns : ℤ → TzbEvent → List ℕ → List ℕ → TaggedView → TaggedView → Type 0
Turns code event was bytes old new =
    (due : Result Due NoMemory) × Nexts due old new × Tells code event was bytes due

abbrev pub Turned : ℤ → TzbEvent → List ℕ → List ℕ → Option TaggedView → Option TaggedView → Type 0
Turned code event was bytes None new = (code ≡ CLOSED) × (event ≡ plain IDLE) × (bytes ≡ was) × (new ≡ None)
Turned code event was bytes (Some old) (Some new) = Turns code event was bytes old new
Turned code event was bytes (Some old) None = ⊥

-- no step is made with too little room
abbrev pub HasNoRoom : ℤ → TzbEvent → List ℕ → List ℕ → Option TaggedView → Option TaggedView → Type 0
HasNoRoom code event was bytes old new = (code ≡ ROOM) × (event ≡ plain IDLE) × (bytes ≡ was) × (new ≡ old)

-- a disk's answer was delivered, or may not be
abbrev pub answer_code : Result (Unit {0}) Found → ℤ
answer_code (Ok done) = OK
answer_code (Err found) = UNFIT

abbrev pub Answers : ℤ → TaggedView → TaggedView → ℕ → DeviceResult → Type 0
Answers code old new bio got =
    (answered : Result (Unit {0}) Found) × Delivers answered old new bio got × (code ≡ answer_code answered)

abbrev pub Answered : ℤ → Option TaggedView → Option TaggedView → ℕ → DeviceResult → Type 0
Answered code None new bio got = (code ≡ CLOSED) × (new ≡ None)
Answered code (Some old) (Some new) bio got = Answers code old new bio got
Answered code (Some old) None bio got = ⊥

-- bytes that a disk answered; where there is no memory for them they aren't delivered
abbrev pub AnsweredBytes : ℤ → Option TaggedView → Option TaggedView → ℕ → DeviceResult → Type 0
AnsweredBytes code old new bio got = Answered code old new bio got ⊎ ((code ≡ NO_MEMORY) × (new ≡ old))

-- what is told of a text: its length, and the text in front of a buffer that has room for it
abbrev pub TellsText : ℤ → ℕ → List ℕ → List ℕ → List ℕ → Type 0
TellsText code need was bytes text = (need ≡ length text)
    × (length text ≤ length was → (code ≡ OK) × (bytes ≡ text ++ drop (length text) was))
    × (length was < length text → (code ≡ ROOM) × (bytes ≡ was))

abbrev pub TellsMade : ℤ → ℕ → List ℕ → List ℕ → Result (List ℕ) NoMemory → Type 0
TellsMade code need was bytes (Ok text) = TellsText code need was bytes text
TellsMade code need was bytes (Err wanting) = (code ≡ NO_MEMORY) × (need ≡ 0) × (bytes ≡ was)

-- the text of a mesh was made, unless memory was wanting
abbrev pub IsListing : Result (List ℕ) NoMemory → TaggedView → Type 0
IsListing made mesh = IfOk made (λ text. text ≡ mesh_text (listing (mesh.session).world))

-- the mesh as text
abbrev pub Lists : ℤ → ℕ → List ℕ → List ℕ → Option TaggedView → Type 0
Lists code need was bytes None = (code ≡ CLOSED) × (need ≡ 0) × (bytes ≡ was)
Lists code need was bytes (Some mesh) =
    (made : Result (List ℕ) NoMemory) × IsListing made mesh × TellsMade code need was bytes made

-- how many tags wait; none in a handle that is closed
abbrev pub waiting_in : Option TaggedView → ℕ
waiting_in None = 0
waiting_in (Some mesh) = waiting mesh

-- how many steps it has made; none in a handle that is closed
abbrev pub steps_in : Option TaggedView → ℕ
steps_in None = 0
steps_in (Some mesh) = (mesh.session).steps

-- how many of them were of the graph
abbrev pub generation_in : Option TaggedView → ℕ
generation_in None = 0
generation_in (Some mesh) = (mesh.session).generation
