-- The calls of the program as they are seen from outside.
use Rattle.std.specs.Prelude.{◌≡◌, ◌≢◌, ◌⊎◌, ℕ, ◌+◌, ◌<◌, ◌≤◌, List, [], ◌++◌, drop, length, None, Result, Ok, Err, IfSome, IfNone, IsSome, IsSomeAnd, IsTrue, ⊤}
use Rattle.geo_io.specs.Counts.{FailedAtLast}
use Rattle.geo_headline.specs.declared.verified.Verified.{Verified}
use Rattle.geo_headline.specs.Modes.{Mode, VerifyMode, source_limit}
use Rattle.geo_headline.specs.Traces.{TraceFault, InScript, InTrace}
use Rattle.geo_headline.specs.Verifying.{verified}
use Rattle.geo_model.specs.Script.{Fault, script}
use Rattle.geo_model.specs.World.{Plan}
use Rattle.geo_model.specs.Opening.{opening}
use Rattle.geo_headline.specs.Outside.{Outside, ShelfView, SinkView, SourceView, DisksAreKept, OthersStay, ImagesStay, ImagesStand}
use Rattle.geo_model.specs.Log.{Fits}
use Rattle.geo_model.specs.History.{KeepsHistory, RanToItsEnd}
use Rattle.geo_headline.specs.Endings.{Ending, ReadFault, Call, CauseOf, HasLog, IsOpened, IsWhole, reported}
use Rattle.geo_headline.specs.Headline.{CallsAreTold, CallsInOrder, FollowsMode, HaveFactSectors, IsComplete, KeepsAll, NoneAsked, LeavesOutside, LentAfter, ReadAs, ReadsFew}
use Rattle.geo_run.specs.declared.top.Ended.{Ended}
use Rattle.geo_run.specs.declared.finish.Finish.{Finish}
use Rattle.geo_run.specs.declared.due.Due.TheVariants as dues
use Rattle.geo_run.specs.declared.stop.Stop.{Stop}
use Rattle.geo_run.specs.declared.stop.Stop.TheVariants as stops
use Rattle.geo_run.specs.Ends.{RunsPlan, entries_in}
use Rattle.geo_run.specs.Stops.{ending_by, IsDue}

-- what came behind so many bytes
abbrev pub added_to : List ℕ → List ℕ → List ℕ
added_to before after = drop (length before) after

-- the call that was given these words, found this outside and left that one
abbrev pub call_of : List (List ℕ) → Ended → Outside → Outside → Call
call_of words ended before after = record {
  words = words;
  text = added_to before.source.given after.source.given;
  facts = ended.facts.items;
  status = ended.status;
  written = added_to before.sink.taken after.sink.taken;
  log = entries_in ended.log;
  before = before;
  after = after;
}

-- the call keeps all that it has to
pub record Keeps (call : Call) : Type 0 where
  pub mode : Mode
  pub plan : Plan
  pub ending : Ending
  pub all : KeepsAll call mode plan ending

-- it is the status of a call of these words that keeps all that it has to, and is complete
pub record HasStatus (words : List (List ℕ)) (status : ℕ) (before after : Outside) : Type 0 where
  pub ended : Ended
  pub is : status ≡ ended.status
  pub keeps : Keeps (call_of words ended before after)
  pub complete : IsComplete (call_of words ended before after)

-- Before anything is written

-- the source gave the text, which it had left where it tells that
pub record Gave (before : SourceView) (text : List ℕ) (after : SourceView) : Type 0 where
  pub given : after.given ≡ before.given ++ text
  pub had_left : IfSome before.left (λ had. IsSomeAnd after.left (λ has. had ≡ text ++ has))

-- what a call keeps beside what it writes
pub record KeepsInside (call : Call) (mode : Mode) (plan : Plan) (ending : Ending) : Type 0 where
  pub read_as : ReadAs call mode plan
  pub gave : Gave call.before.source call.text call.after.source
  pub cause : CauseOf call mode plan ending
  pub has_log : HasLog ending call.log
  pub is_opened : IsSome call.log → IsOpened call mode plan
  pub history : IfSome call.log (KeepsHistory (opening plan call.facts))
  pub to_its_end : IsWhole ending → IfSome call.log (RanToItsEnd (opening plan call.facts))
  pub order : IfSome call.log (FollowsMode mode plan (opening plan call.facts) ending)
  pub fits : IfSome call.log (Fits (opening plan call.facts))
  pub disks : IfSome call.log (DisksAreKept plan call.before.shelf call.after.shelf)
  pub lent : LentAfter ending call.before.shelf call.after.shelf
  pub reads : ending ≢ ReadFault → call.after.source.faults ≡ call.before.source.faults
  pub few : ReadsFew call mode
  pub calls : CallsAreTold ending call.before.shelf call.after.shelf
  pub in_order : CallsInOrder plan ending call.log call.before.shelf call.after.shelf
  pub others : OthersStay plan call.before.shelf call.after.shelf
  pub unasked : IfNone call.log (NoneAsked call.before.shelf call.after.shelf)
  pub sizes : IsSome call.log → HaveFactSectors plan call.facts call.after.shelf
  pub images : IfNone call.log (ImagesStay call.before.shelf call.after.shelf)
  pub images_stand : ImagesStand call.before.shelf call.after.shelf
  pub outside : LeavesOutside mode ending call.before call.after

-- the source and the shelf of a call, and the sink, at one moment
abbrev pub outside_of : SourceView → SinkView → ShelfView → Outside
outside_of source sink shelf = record { source = source; sink = sink; shelf = shelf }

-- a run of these words that finished so keeps all that it has to, whatever is then written
pub record Finishes (words : List (List ℕ)) (finish : Finish) (source source_after : SourceView)
    (shelf shelf_after : ShelfView) : Type 0 where
  pub mode : Mode
  pub plan : Plan
  pub due : IsDue finish.due
      (reported mode (added_to source.given source_after.given) plan finish.facts.items (entries_in finish.log))
  pub keeps : (status : ℕ) (sink sink_after : SinkView)
      → KeepsInside
      (call_of words (record { status = status; log = finish.log; facts = finish.facts }) (outside_of source sink shelf)
      (outside_of source_after sink_after shelf_after))
      mode plan (ending_by finish.due)

-- Of a text

-- no log came, and the shelf is as before; this is due
pub record EndsEarly (finish : Finish) (stop : Stop) (before after : ShelfView) : Type 0 where
  pub due : finish.due ≡ dues.Stopped stop
  pub log : finish.log ≡ None
  pub shelf : after ≡ before

-- the plan of a text was run, or the first fault of the text is told
abbrev pub FinishesPlan : List ℕ → Result Plan Fault → Mode → Finish → ShelfView → ShelfView → Type 0
FinishesPlan text (Ok plan) mode finish before after =
    RunsPlan mode plan finish.facts.items (entries_in finish.log) (ending_by finish.due) before after
    × IsDue finish.due (reported mode text plan finish.facts.items (entries_in finish.log))
FinishesPlan text (Err fault) mode finish before after =
    EndsEarly finish (stops.NoScript fault.line fault.cause) before after

-- a text was run, or memory ran out before its mesh opened
abbrev pub FinishesText : List ℕ → Mode → Finish → ShelfView → ShelfView → Type 0
FinishesText text mode finish before after =
    EndsEarly finish stops.NoMemory before after ⊎ FinishesPlan text (script text) mode finish before after

-- Of a source

-- a source gave this text, which is all of it and isn't too long
pub record ReadsWhole (limit : ℕ) (before after : SourceView) (text : List ℕ) : Type 0 where
  pub gave : Gave before text after
  pub told : after.faults ≡ before.faults
  pub reads : after.reads ≤ before.reads + (limit + 2)
  pub few : length text ≤ limit
  pub ended : IsTrue after.ended
  pub none_left : IfSome after.left (λ left. left ≡ [])

-- why a source that gave this text wasn't read to its end
abbrev pub UnreadCause : ℕ → List ℕ → SourceView → SourceView → Stop → Type 0
UnreadCause limit text before after stops.ReadFault =
    (length text ≤ limit) × FailedAtLast before.faults after.faults after.failed
UnreadCause limit text before after stops.TooLong = (limit < length text) × (after.faults ≡ before.faults)
UnreadCause limit text before after stops.NoMemory = after.faults ≡ before.faults
UnreadCause limit text before after _ = ⊥

-- a source wasn't read to its end
pub record ReadsPart (limit : ℕ) (before after : SourceView) (stop : Stop) : Type 0 where
  pub text : List ℕ
  pub gave : Gave before text after
  pub reads : after.reads ≤ before.reads + (limit + 2)
  pub cause : UnreadCause limit text before after stop

-- a source wasn't read to its end, and nothing was done
pub record EndsUnread (mode : Mode) (source source_after : SourceView) (finish : Finish)
    (before after : ShelfView) : Type 0 where
  pub stop : Stop
  pub part : ReadsPart (source_limit mode) source source_after stop
  pub early : EndsEarly finish stop before after

-- a source was read to its end, and its text was run
pub record EndsRead (mode : Mode) (source source_after : SourceView) (finish : Finish)
    (before after : ShelfView) : Type 0 where
  pub text : List ℕ
  pub whole : ReadsWhole (source_limit mode) source source_after text
  pub of_text : FinishesText text mode finish before after

-- what a source gave was run if it is all of it
abbrev pub FinishesSource : Mode → SourceView → SourceView → Finish → ShelfView → ShelfView → Type 0
FinishesSource mode source source_after finish before after =
    EndsRead mode source source_after finish before after ⊎ EndsUnread mode source source_after finish before after

-- Of a trace

-- what was found of a text, or its first fault, unless memory ran out
abbrev pub IsFoundIn : Result Verified TraceFault → Stop → Type 0
IsFoundIn answer (stops.Answered found) = answer ≡ Ok found
IsFoundIn answer (stops.NoScript line cause) = answer ≡ Err (InScript line cause)
IsFoundIn answer (stops.NoTrace line) = answer ≡ Err (InTrace line)
IsFoundIn answer stops.NoMemory = ⊤
IsFoundIn answer _ = ⊥

-- a source was read to its end, and this was found of its text
pub record EndsFound (source source_after : SourceView) (finish : Finish) (before after : ShelfView) : Type 0 where
  pub text : List ℕ
  pub whole : ReadsWhole (source_limit VerifyMode) source source_after text
  pub stop : Stop
  pub found : IsFoundIn (verified text) stop
  pub early : EndsEarly finish stop before after

-- the text of a source was verified if it is all of it
abbrev pub FinishesVerified : SourceView → SourceView → Finish → ShelfView → ShelfView → Type 0
FinishesVerified source source_after finish before after =
    EndsFound source source_after finish before after ⊎ EndsUnread VerifyMode source source_after finish before after
