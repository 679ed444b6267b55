-- The slots that are kept lead to the first replies.
use Rattle.std.proofs.Common.{◌≡◌, ◌≢◌, ℕ, ◌+◌, ◌<◌, ◌≤◌, ◌==◌, Bool, true, false, List, [], ◌∷◌, ◌++◌, length, Option, Some, None, if◌then◌else◌, refl, sym, ap, ◌∙◌, subst, arith, drop, replicate, inl, inr, slice_get, is_some}
use Rattle.std.specs.Option.{option_and_then, unwrap_or}
use Rattle.std.proofs.Math.ListN.{drop_of_length-le}
use Rattle.std.proofs.lemmas.Bool.{cases_Bool, false≢true}
use Rattle.std.proofs.lemmas.Bool.Decides.{nat_tests}
use Rattle.std.proofs.lemmas.List.{append_assoc, length-append, length-set, length-replicate, get_or-set_same, get_or-set_other, get_or-replicate}
use Rattle.std.proofs.lemmas.Option.{unwrap_or-slice_get}
use Rattle.geo_base.specs.declared.limits.TheConstants.{MAX_SCRIPT_LINES}
use Rattle.geo_model.specs.declared.step.Entry.{Entry}
use Rattle.geo_model.specs.declared.step.Outcome.{Outcome}
use Rattle.geo_model.specs.declared.step.Outcome.TheVariants as outcomes
use Rattle.geo_model.specs.declared.step.Reply.{Reply}
use Rattle.geo_model.specs.Report.{reply_in, reply_from}
use Rattle.geo_report.specs.Places.{ArePlaces, line_of, line_replied, slots_after, noted_at, places, slot, reply_at}

-- Slots

pub slot_here : (slots : List (Option ℕ)) (line : ℕ) (place : Option ℕ) → Some place ≡ slice_get slots line
    → place ≡ slot slots line
slot_here slots line place e = ap (λ o. unwrap_or o None) e ∙ unwrap_or-slice_get slots line None

pub slot_past : (slots : List (Option ℕ)) (line : ℕ) → None ≡ slice_get slots line → None ≡ slot slots line
slot_past slots line e = ap (λ o. unwrap_or o None) e ∙ unwrap_or-slice_get slots line None

-- The first place

-- whether a reply to the first line, if there is one, is to the other
abbrev gives : ℕ → Option ℕ → Bool
gives line None = false
gives line (Some own) = own == line

-- the place of the first reply to a line, where the first entry has this place
abbrev first_place : List Entry → ℕ → ℕ → Option ℕ
first_place [] place line = None
first_place (e ∷ log) place line =
    if gives line (line_of e) then Some place else first_place log (place + 1) line

abbrev or_else : Option ℕ → Option ℕ → Option ℕ
or_else None other = other
or_else (Some place) other = Some place

or_none : (o : Option ℕ) → o ≡ or_else o None
or_none None = refl
or_none (Some place) = refl

-- a place is noted, by what the slot of its line has
noted_same : (slots : List (Option ℕ)) (place line : ℕ) (rest o : Option ℕ) → line < length slots → slot slots line ≡ o
    → or_else (slot (noted_at slots place (Some line)) line) rest ≡ or_else o (Some place)
noted_same slots place line rest None within is =
    rw is (rw (get_or-set_same slots line (Some place) None within) refl)
noted_same slots place line rest (Some p) within is = rw (is, is) refl

noted_other : (slots : List (Option ℕ)) (place own line : ℕ) (o : Option ℕ) → line ≢ own → slot slots own ≡ o
    → slot (noted_at slots place (Some own)) line ≡ slot slots line
noted_other slots place own line None other is = rw is (get_or-set_other slots own line (Some place) None other)
noted_other slots place own line (Some p) other is = rw is refl

slot_noted : (slots : List (Option ℕ)) (place line : ℕ) (own rest : Option ℕ) → line < length slots
    → or_else (slot (noted_at slots place own) line) rest
    ≡ or_else (slot slots line) (if gives line own then Some place else rest)
slot_noted slots place line None rest within = refl
slot_noted slots place line (Some own) rest within = elim (cases_Bool (own == line)) [
  | inl hit ↦
      let same : line ≡ own = grind (arith, nat_tests) in
      let P : ℕ → Type 0 =
      λ n. or_else (slot (noted_at slots place (Some n)) line) rest ≡ or_else (slot slots line) (Some place) in
      rw hit (subst P same (noted_same slots place line rest (slot slots line) within refl))
  | inr miss ↦
      let other : line ≢ own = λ e. absurd (grind (arith, nat_tests, e, miss)) in
      rw miss (ap (λ o. or_else o rest) (noted_other slots place own line (slot slots own) other refl))
]

noted_length : (slots : List (Option ℕ)) (place : ℕ) (own : Option ℕ)
    → length (noted_at slots place own) ≡ length slots
noted_length slots place None = refl
noted_length slots place (Some own) = elim (cases_Bool (is_some (slot slots own))) [
  | inl hit ↦
      rw hit refl
  | inr miss ↦ rw miss (length-set slots own (Some place))
]

-- each slot has what it had, else the place of the first reply
slot_places : (log : List Entry) (place line : ℕ) (slots : List (Option ℕ)) → line < length slots
    → slot (places log place slots) line ≡ or_else (slot slots line) (first_place log place line)
unfolding slots_after
slot_places [] place line slots within = or_none (slot slots line)
slot_places (e ∷ log) place line slots within =
    let long : length (noted_at slots place (line_of e)) ≡ length slots = noted_length slots place (line_of e) in
    slot_places log (place + 1) line (noted_at slots place (line_of e)) (omega (arith, within, long))
    ∙ slot_noted slots place line (line_of e) (first_place log (place + 1) line) within

-- Replies at their places

none_given : (line : ℕ) (o : Outcome) → gives line (line_replied o) ≡ false → reply_in line o ≡ None
none_given line (outcomes.Replied own reply) miss = rw miss refl
none_given line (outcomes.Accepted own bio) miss = refl
none_given line (outcomes.Reading bio) miss = refl
none_given line outcomes.Ran miss = refl
none_given line (outcomes.Split first count) miss = refl
none_given line (outcomes.Queued disk) miss = refl
none_given line outcomes.Bounced miss = refl
none_given line (outcomes.Asked request) miss = refl
none_given line outcomes.Delivered miss = refl
none_given line (outcomes.Gathered parent complete) miss = refl
none_given line outcomes.TasteBack miss = refl

is_given : (line : ℕ) (o : Outcome) → gives line (line_replied o) ≡ true → (r : Reply) × (reply_in line o ≡ Some r)
is_given line (outcomes.Replied own reply) hit = (reply, rw hit refl)
is_given line (outcomes.Accepted own bio) hit = absurd (false≢true hit)
is_given line (outcomes.Reading bio) hit = absurd (false≢true hit)
is_given line outcomes.Ran hit = absurd (false≢true hit)
is_given line (outcomes.Split first count) hit = absurd (false≢true hit)
is_given line (outcomes.Queued disk) hit = absurd (false≢true hit)
is_given line outcomes.Bounced hit = absurd (false≢true hit)
is_given line (outcomes.Asked request) hit = absurd (false≢true hit)
is_given line outcomes.Delivered hit = absurd (false≢true hit)
is_given line (outcomes.Gathered parent complete) hit = absurd (false≢true hit)
is_given line outcomes.TasteBack hit = absurd (false≢true hit)

-- what comes behind stands at the place that is the length
seam : (xs ys : List Entry) (y : Entry) → slice_get (xs ++ y ∷ ys) (length xs) ≡ Some y
seam [] ys y = refl
seam (x ∷ xs) ys y = seam xs ys y

-- at the first place stands the first reply
at_first : (pre log : List Entry) (line : ℕ)
    → reply_at (pre ++ log) (first_place log (length pre) line) line ≡ reply_from log line
at_first pre [] line = refl
at_first pre (e ∷ log) line = elim (cases_Bool (gives line (line_of e))) [
  | inl hit ↦
      let given = is_given line e.outcome hit in
      rw hit (ap (λ o. option_and_then (λ e. reply_in line e.outcome) o) (seam pre log e) ∙ (rw given.1 refl))
  | inr miss ↦
      let none = none_given line e.outcome miss in
      let longer : length (pre ++ e ∷ []) ≡ length pre + 1 = length-append pre (e ∷ []) in
      let Q : List Entry → ℕ → Type 0 =
      λ l n. reply_at l (first_place log n line) line ≡ reply_from log line in
      let on : Q (pre ++ e ∷ log) (length pre + 1) =
      subst (λ l. Q l (length pre + 1)) (append_assoc pre (e ∷ []) log)
      (subst (λ n. Q ((pre ++ e ∷ []) ++ log) n) longer (at_first (pre ++ e ∷ []) log line)) in
      rw (miss, none) on
]

-- The pass over the log

-- the slots at the end, of which there are enough
pub are_places : (log : List Entry) (i lines : ℕ) (slots : List (Option ℕ)) → length log ≤ i → MAX_SCRIPT_LINES < lines
    → places (drop i log) i slots ≡ places log 0 (replicate lines None) → ArePlaces log slots
are_places log i lines slots past enough whole line below =
    let own : slots ≡ places log 0 (replicate lines None) =
    sym (ap (λ l. places l i slots) (drop_of_length-le log past)) ∙ whole in
    let empty : List (Option ℕ) = replicate lines None in
    let within : line < length empty = omega (arith, length-replicate {A = Option ℕ}) in
    ap (λ l. reply_at log (slot l line) line) own
    ∙ ap (λ o. reply_at log o line) (slot_places log 0 line empty within
    ∙ ap (λ o. or_else o (first_place log 0 line)) (get_or-replicate lines line None None (omega arith)))
    ∙ at_first [] log line
