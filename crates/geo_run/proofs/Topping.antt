-- The whole call: how its run finished, and what was written.
use Rattle.std.proofs.Common.{◌≡◌, ℕ, List, ◌++◌, ◌∙◌, ap, rules}
use Rattle.std.proofs.Math.Seq.{drop-append_seam}
use Rattle.geo_model.specs.World.{Plan}
use Rattle.geo_headline.specs.Modes.{Mode}
use Rattle.geo_headline.specs.Outside.{ShelfView, SinkView, SourceView}
use Rattle.geo_headline.specs.Endings.{Ending, Call, due_text, reported, status_of}
use Rattle.geo_headline.specs.Headline.{IsComplete, KeepsAll, Prints}
use Rattle.geo_run.specs.declared.finish.Finish.{Finish}
use Rattle.geo_run.specs.declared.top.Ended.{Ended}
use Rattle.geo_run.specs.Calls.{Finishes, Keeps, KeepsInside, added_to, call_of, outside_of}
use Rattle.geo_run.specs.Ends.{entries_in}
use Rattle.geo_run.specs.Stops.{IsDue, ending_by}
use Rattle.geo_run.specs.Writes.{Writes, WritesEnding}
use Rattle.geo_run.proofs.Completing.{complete}
use Rattle.geo_run.proofs.Replying.{replied}

-- What is written

prints : (call : Call) (ending : Ending) (text : List ℕ)
    → Writes call.status (status_of ending) text call.before.sink call.after.sink
    → call.written ≡ added_to call.before.sink.taken call.after.sink.taken
    → Prints call ending text
prints call ending text w e = record {
  cut_off = λ four. let begun = w.cut_off four in
      record {
        fault = begun.fault;
        rest = begun.rest;
        some_left = begun.some_left;
        written = ap (λ bs. bs ++ begun.rest) is ∙ begun.front;
      };
  whole = λ ne. let all = w.whole ne in record { status = all.0; written = is ∙ all.1 };
}
  where
    is : call.written ≡ w.written
    is = search (rules, drop-append_seam call.before.sink.taken w.written)

took : (call : Call) (status due : ℕ) (text : List ℕ) → Writes status due text call.before.sink call.after.sink
    → call.written ≡ added_to call.before.sink.taken call.after.sink.taken
    → call.after.sink.taken ≡ call.before.sink.taken ++ call.written
took call status due text w e = search (rules, drop-append_seam call.before.sink.taken w.written)

-- both
keeps_all : (call : Call) (mode : Mode) (plan : Plan) (ending : Ending) → KeepsInside call mode plan ending
    → Writes call.status (status_of ending) (due_text (reported mode call.text plan call.facts call.log) ending)
    call.before.sink call.after.sink
    → call.written ≡ added_to call.before.sink.taken call.after.sink.taken
    → KeepsAll call mode plan ending
keeps_all call mode plan ending k w e =
    search (
      rules,
      replied call mode plan ending k,
      took call call.status (status_of ending) (due_text (reported mode call.text plan call.facts call.log) ending) w e,
      prints call ending (due_text (reported mode call.text plan call.facts call.log) ending) w e,
    )

-- a run that finished and wrote what is due keeps all that it has to
pub keeps : (words : List (List ℕ)) (finish : Finish) (status : ℕ) (source source_after : SourceView)
    (sink sink_after : SinkView) (shelf shelf_after : ShelfView)
    → (f : Finishes words finish source source_after shelf shelf_after)
    → ((reported : List ℕ) → IsDue finish.due reported
    → WritesEnding reported (ending_by finish.due) status sink sink_after)
    → Keeps (call_of words (record { status = status; log = finish.log; facts = finish.facts })
    (outside_of source sink shelf) (outside_of source_after sink_after shelf_after))
keeps words finish status source source_after sink sink_after shelf shelf_after f writes =
    search (rules, keeps_all call f.mode f.plan (ending_by finish.due) (f.keeps status sink sink_after) (writes text f.due))
  where
    call : Call
    call = call_of words (record { status = status; log = finish.log; facts = finish.facts })
        (outside_of source sink shelf) (outside_of source_after sink_after shelf_after)

    text : List ℕ
    text = reported f.mode call.text f.plan finish.facts.items (entries_in finish.log)

-- and is complete
pub completes : (call : Call) → Keeps call → IsComplete call
completes call k = complete call k.mode k.plan k.ending k.all

-- so does a call that wrote what is due of its run
pub call_keeps : (words : List (List ℕ)) (finish : Finish) (ended : Ended) (source source_after : SourceView)
    (sink sink_after : SinkView) (shelf shelf_after : ShelfView)
    → Finishes words finish source source_after shelf shelf_after → ended.log ≡ finish.log
    → ended.facts ≡ finish.facts
    → ((reported : List ℕ) → IsDue finish.due reported
    → WritesEnding reported (ending_by finish.due) ended.status sink sink_after)
    → Keeps (call_of words ended (outside_of source sink shelf) (outside_of source_after sink_after shelf_after))
call_keeps words finish ended source source_after sink sink_after shelf shelf_after f log facts writes =
    search (rules, keeps words finish ended.status source source_after sink sink_after shelf shelf_after f writes)

pub call_completes : (words : List (List ℕ)) (finish : Finish) (ended : Ended) (source source_after : SourceView)
    (sink sink_after : SinkView) (shelf shelf_after : ShelfView)
    → Finishes words finish source source_after shelf shelf_after → ended.log ≡ finish.log
    → ended.facts ≡ finish.facts
    → ((reported : List ℕ) → IsDue finish.due reported
    → WritesEnding reported (ending_by finish.due) ended.status sink sink_after)
    → IsComplete (call_of words ended (outside_of source sink shelf) (outside_of source_after sink_after shelf_after))
call_completes words finish ended source source_after sink sink_after shelf shelf_after f log facts writes =
    completes _
    (call_keeps words finish ended source source_after sink sink_after shelf shelf_after f log facts writes)
