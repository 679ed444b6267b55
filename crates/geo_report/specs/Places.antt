-- Where the reply to each line stands in a log.
use Rattle.std.specs.Prelude.{◌≡◌, ℕ, ◌+◌, ◌≤◌, List, [], ◌∷◌, Option, Some, None, slice_get, slice_index_or, slice_set, is_some, if◌then◌else◌}
use Rattle.std.specs.Option.{option_and_then}
use Rattle.geo_base.specs.declared.limits.TheConstants.{MAX_SCRIPT_LINES}
use Rattle.geo_model.specs.declared.step.Entry.{Entry}
use Rattle.geo_model.specs.declared.step.Outcome.{Outcome}
use Rattle.geo_model.specs.declared.step.Outcome.TheVariants as outcomes
use Rattle.geo_model.specs.declared.step.Reply.{Reply}
use Rattle.geo_model.specs.Report.{reply_in, reply_from}

-- the line that an outcome gives a reply to
abbrev pub line_replied : Outcome → Option ℕ
line_replied (outcomes.Replied line reply) = Some line
line_replied _ = None

abbrev pub line_of : Entry → Option ℕ
line_of e = line_replied e.outcome

-- the place that is kept for a line
abbrev pub slot : List (Option ℕ) → ℕ → Option ℕ
slot slots line = slice_index_or slots line None

-- a place for a line that has none yet
abbrev pub noted_at : List (Option ℕ) → ℕ → Option ℕ → List (Option ℕ)
noted_at slots place None = slots
noted_at slots place (Some line) = if is_some (slot slots line) then slots else slice_set slots line (Some place)

-- the slots once the entry at this place was read
unfoldable pub slots_after : List (Option ℕ) → ℕ → Entry → List (Option ℕ)
slots_after slots place e = noted_at slots place (line_of e)

-- the slots once the entries from this place on were read
abbrev pub places : List Entry → ℕ → List (Option ℕ) → List (Option ℕ)
places [] place slots = slots
places (e ∷ log) place slots = places log (place + 1) (slots_after slots place e)

-- the reply that stands at a place
abbrev pub reply_at : List Entry → Option ℕ → ℕ → Option Reply
reply_at log None line = None
reply_at log (Some place) line = option_and_then (λ e. reply_in line e.outcome) (slice_get log place)

-- the slots lead to the first reply to each line
abbrev pub ArePlaces : List Entry → List (Option ℕ) → Type 0
ArePlaces log slots = (line : ℕ) → line ≤ MAX_SCRIPT_LINES → reply_at log (slot slots line) line ≡ reply_from log line
