-- Where a call reports, each command has its reply.
use Rattle.std.specs.Prelude.{◌≡◌, ℕ, List, Option, Some, None, IsSome, IfSome}
use Rattle.std.proofs.Common.{refl}
use Rattle.geo_model.specs.declared.step.Entry.{Entry}
use Rattle.geo_model.specs.World.{Plan}
use Rattle.geo_model.specs.Opening.{opening}
use Rattle.geo_model.specs.Plans.{FactsFit}
use Rattle.geo_model.specs.Script.{IsScript}
use Rattle.geo_model.specs.History.{KeepsHistory, RanToItsEnd}
use Rattle.geo_script.proofs.PlanLaw.{scripts-are-plans}
use Rattle.geo_headline.specs.Modes.{Mode}
use Rattle.geo_headline.specs.Endings.{Ending, Call, IsOpened, IsWhole, script_of}
use Rattle.geo_headline.specs.Replies.{EachCommandHasItsReply}
use Rattle.geo_laws_replies.proofs.AllAnswered.{rest_answers_each_command}
use Rattle.geo_run.specs.Calls.{KeepsInside}

-- a log of a script's plan that came to its end
ended_replied : (plan : Plan) (facts : List (ℕ × ℕ)) (text : List ℕ) (log : List Entry) → IsScript text plan
    → FactsFit plan facts → KeepsHistory (opening plan facts) log → RanToItsEnd (opening plan facts) log
    → EachCommandHasItsReply plan log
ended_replied plan facts text log is fit history end =
    rest_answers_each_command plan facts (scripts-are-plans text plan is) fit log history.history.legal end.rest

-- so has the log of a call, where it is there
pub replied : (call : Call) (mode : Mode) (plan : Plan) (ending : Ending) → KeepsInside call mode plan ending
    → IsWhole ending → IfSome call.log (EachCommandHasItsReply plan)
replied call mode plan ending k whole = by call.log refl
  where
    by : (o : Option (List Entry)) → call.log ≡ o → IfSome o (EachCommandHasItsReply plan)
    by None e = tt
    by (Some log) e =
        let there : IsSome call.log = rw e refl in
        let opened : IsOpened call mode plan = k.is_opened there in
        ended_replied plan call.facts (script_of mode call.text) log opened.parsed.script opened.facts_fit
        (rw e at k.history) (rw e at (k.to_its_end whole))
