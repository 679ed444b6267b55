-- What comes of a bio that goes up to a line or to its parent.
use Rattle.std.specs.Prelude.{ℕ}
use Rattle.geo_model.specs.declared.step.Outcome.{Outcome}
use Rattle.geo_model.specs.declared.step.Outcome.TheVariants as outcomes
use Rattle.geo_model.specs.declared.step.Owner.{Owner}
use Rattle.geo_model.specs.declared.step.Owner.TheVariants as owners
use Rattle.geo_model.specs.Bios.{reply_of_result}
use Rattle.geo_bio.specs.declared.bio.Risen.{Risen}
use Rattle.geo_bio.specs.declared.bio.Risen.TheVariants as risen

-- the line of an owner, 0 where there is none
abbrev pub owner_line : Owner → ℕ
owner_line (owners.Line handle line) = line
owner_line _ = 0

-- a root is the reply to its line, a child comes in
abbrev pub outcome_of_rise : ℕ → Risen → Outcome
outcome_of_rise line (risen.Root got) = outcomes.Replied line (reply_of_result got)
outcome_of_rise line (risen.InParent parent complete) = outcomes.Gathered parent complete
