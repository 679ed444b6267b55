-- In a legal log each open under a free handle name, and each append, is answered by what the mesh forbids.
use Rattle.std.specs.Prelude.{◌≡◌, List, ◌∷◌, Ok, Err, IsOkAnd}
use Rattle.std.proofs.Common.{refl, ◌∙◌, ap, subst}
use Rattle.geo_model.specs.declared.step.Entry.{Entry}
use Rattle.geo_model.specs.World.{World}
use Rattle.geo_model.specs.Step.{Answer, step}
use Rattle.geo_model.specs.Log.{replay, Legal}
use Rattle.geo_model.specs.History.{AtEachEntry, OpensAreAnswered, AppendsAreAnswered}
use Rattle.geo_model.specs.Laws.{OfEachLegalLog}
use Rattle.geo_model.proofs.LogLemmas.{Legal-back}
use Rattle.geo_laws_handles.proofs.Answered.{opens_are_answered_right}
use Rattle.geo_laws_steps.proofs.AnsweredAppends.{append_answers}

-- the answer of an entry that is made
pub record MadeSo (w : World) (e : Entry) : Type 0 where
  pub after : World
  pub is : step w e.seat e.step ≡ Ok (after, e.outcome)

-- an entry that is made has its answer
made-so : (w : World) (e : Entry) (r : Answer) → step w e.seat e.step ≡ r
    → IsOkAnd r (λ made. made.1 ≡ e.outcome) → MadeSo w e
made-so w e (Ok made) is same = record { after = made.0; is = is ∙ ap (λ o. Ok (made.0, o)) same }
made-so w e (Err found) is same = absurd same

-- what holds of each step that is made holds at each entry of a legal log
pub at_each_made : (P : World → Entry → Type 0) → ((w : World) (e : Entry) → MadeSo w e → P w e)
    → (w : World) (log : List Entry) → Legal w log → AtEachEntry w log P
at_each_made P each w log legal earlier e split =
    let back : Legal (replay w earlier) (e ∷ split.0) =
    Legal-back w earlier (e ∷ split.0) (subst (Legal w) split.1 legal) in
    each (replay w earlier) e (made-so (replay w earlier) e (step (replay w earlier) e.seat e.step) refl back.0)

-- opens
pub opens_are_answered : OfEachLegalLog OpensAreAnswered
opens_are_answered plan facts is fit log legal =
    at_each_made _ (λ w e made. opens_are_answered_right.entry w made.after e made.is) _ log legal

-- appends
pub appends_are_answered : OfEachLegalLog AppendsAreAnswered
appends_are_answered plan facts is fit log legal =
    at_each_made _ (λ w e made. append_answers w made.after e made.is) _ log legal
