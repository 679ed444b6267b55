-- Parts of the table of steps.
use Rattle.std.specs.Prelude.{List, [], ◌∷◌, ℕ, Result, codes}
use Rattle.geo_model.specs.declared.command.Cause.{Cause}
use Rattle.geo_model.specs.declared.step.Step.{Step}
use Rattle.geo_model.specs.declared.step.Step.TheVariants as steps
use Rattle.geo_model.specs.Script.{Words}
use Rattle.geo_headline.specs.Traces.{bio_words, take_words, deliver_words}

-- the steps that name a bio: the last four of the table
abbrev pub bio_steps : List (List ℕ × (Words → Result Step Cause))
bio_steps =
    (codes "start", λ ws. bio_words (λ b. steps.Start b) ws) ∷ (codes "take", take_words)
    ∷ (codes "deliver", deliver_words) ∷ (codes "up", λ ws. bio_words (λ b. steps.Up b) ws) ∷ []
