-- The word of a mode, or another.
use Rattle.std.proofs.Common.{refl, sym, ◌∙◌, codes}
use Rattle.geo_headline.specs.Modes.{StepMode, SweepMode, VerifyMode}
use Rattle.geo_run.proofs.Digits.{asks_nothing, asks_word}
use Rattle.geo_run.proofs.words.work_by.Goals as goal

pub returns-in-step : goal.returns-in-step
returns-in-step c = asks_word StepMode _ (codes "step") refl tt (sym c.as_str.ensures.value ∙ c.in-step.is)

pub returns-in-sweep : goal.returns-in-sweep
returns-in-sweep c = asks_word SweepMode _ (codes "sweep") refl tt (sym c.as_str.ensures.value ∙ c.in-sweep.is)

pub returns-in-verify : goal.returns-in-verify
returns-in-verify c = asks_word VerifyMode _ (codes "verify") refl tt (sym c.as_str.ensures.value ∙ c.in-verify.is)

-- none of the three words, and no other word alone asks for one thread
pub returns-in_default : goal.returns-in_default
returns-in_default c =
    asks_nothing _ (λ e. c.in_default.not-step (c.as_str.ensures.value ∙ e))
    (λ e. c.in_default.not-sweep (c.as_str.ensures.value ∙ e))
    (λ e. c.in_default.not-verify (c.as_str.ensures.value ∙ e))
