-- A state with other room for events and requests stands for the same world.
use Rattle.std.specs.Prelude.{List, Result, Ok, Err, IfOk, OnErr}
use Rattle.std.proofs.Common.{sym, ◌∙◌, ap, rules}
use Rattle.geo_model.specs.declared.step.Entry.{Entry}
use Rattle.geo_model.specs.declared.step.Outcome.{Outcome}
use Rattle.geo_model.specs.World.{World}
use Rattle.geo_model.specs.Step.{Answer}
use Rattle.geo_state.specs.declared.state.State.{State}
use Rattle.geo_state.specs.Steps.{Makes, SameWorld}
use Rattle.geo_state.specs.World.{HasBytes}
use Rattle.geo_moves.specs.Judging.{IsRoomed}

module _ (s now : State) (roomed : IsRoomed s now) where
  -- the world is the same
  pub same-world : SameWorld s now
  same-world actors log = search rules

  module _ (step : World → Answer) where
    -- a step of it is one of the state as it was
    pub makes-still : {E : Type 0} (r : Result Outcome E) (new : State) (log : List Entry)
        → IfOk r (λ o. Makes step log now new o) → IfOk r (λ o. Makes step log s new o)
    makes-still (Err e) new log makes = tt
    makes-still (Ok o) new log makes = λ actors. ap step (sym (same-world actors log)) ∙ makes actors

  -- a state that stands for its world stands for that of the state as it was
  pub same-still : {A E : Type 0} (r : Result A E) (new : State) → OnErr r (SameWorld now new)
      → OnErr r (SameWorld s new)
  same-still (Ok x) new same = tt
  same-still (Err e) new same = λ actors log. same actors log ∙ same-world actors log

  -- the bytes that bios name are in the log as before
  pub logged-still : (log : List Entry) → HasBytes log s → HasBytes log now
  logged-still log has = search rules
