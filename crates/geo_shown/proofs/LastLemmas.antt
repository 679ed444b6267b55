-- The last listing of a seat, by the entries before it, and what is printed of it.
use Rattle.std.proofs.Common.{◌≡◌, ℕ, ◌+◌, ◌-◌, ◌<◌, ◌≤◌, ◌==◌, Bool, true, false, ◌&&◌, List, [], ◌∷◌, ◌++◌, length, take, get_or, Option, Some, None, if◌then◌else◌, refl, sym, ap, ◌∙◌, arith, is_some}
use Rattle.std.proofs.lemmas.Bool.{ne_eqb}
use Rattle.std.proofs.lemmas.List.{length-take-le, take_more}
use Rattle.std.proofs.lemmas.Option.{slice_get_read}
use Rattle.geo_model.specs.declared.listing.GeomLine.{GeomLine}
use Rattle.geo_model.specs.declared.step.Entry.{Entry}
use Rattle.geo_model.specs.declared.step.Outcome.{Outcome}
use Rattle.geo_model.specs.declared.step.Outcome.TheVariants as outcomes
use Rattle.geo_model.specs.declared.step.Reply.TheVariants as replies
use Rattle.geo_model.specs.Listing.{listing}
use Rattle.geo_model.specs.Log.{replay}
use Rattle.geo_model.specs.Report.{report}
use Rattle.geo_model.specs.World.{Plan}
use Rattle.geo_headline.specs.Viewing.{if_some, is_listing, shown, shown_of}
use Rattle.geo_report.specs.Texts.{IsReport}
use Rattle.geo_shown.specs.Shown.{IsLastView, IsListedAt, IsWatchedReport, listing_by, listing_of, view_lines}
use Rattle.geo_shown.proofs.Replies.{replies_are_listings}

-- Whether an entry is a listing of the seat

is_found : (o : Outcome) → is_listing o ≡ is_some (listing_of o)
is_found (outcomes.Replied line (replies.Listing lines)) = refl
is_found _ = refl

abbrev mark : Option (List GeomLine) → ℕ
mark o = if is_some o then 1 else 0

-- what the entry counts by itself
marked : (b : Bool) (o : Outcome) → (if b && is_listing o then 1 else 0) ≡ mark (if b then listing_of o else None)
marked false o = refl
marked true o = ap (λ (t : Bool). if t then 1 else 0) (is_found o)

outcome_listed : (o : Outcome) (lines : List GeomLine) → listing_of o ≡ Some lines
    → (line : ℕ) × (o ≡ outcomes.Replied line (replies.Listing lines))
outcome_listed (outcomes.Replied line (replies.Listing xs)) lines is =
    let same : xs ≡ lines = cc in (line, λ i. outcomes.Replied line (replies.Listing (same i)))
outcome_listed _ lines is = absurd (let bad : ⊥ = cc in bad)

entry_listed : (b : Bool) (o : Outcome) (lines : List GeomLine) → (if b then listing_of o else None) ≡ Some lines
    → (line : ℕ) × (o ≡ outcomes.Replied line (replies.Listing lines))
entry_listed true o lines is = outcome_listed o lines is
entry_listed false o lines is = absurd (let bad : ⊥ = cc in bad)

-- One entry more

past : (later here : ℕ) → 0 < later → if_some later here ≡ later + 1
past later here some = rw (ne_eqb later 0 (λ e. absurd (omega arith))) refl

-- a listing at the end is the last
shown_listed : (seat : ℕ) (log : List Entry) (e : Entry) (lines : List GeomLine) → listing_by seat e ≡ Some lines
    → shown seat (log ++ e ∷ []) ≡ length log + 1
shown_listed seat [] e lines is = marked (e.seat == seat) e.outcome ∙ ap mark is
shown_listed seat (x ∷ log) e lines is =
    let here : ℕ = if (x.seat == seat) && is_listing x.outcome then 1 else 0 in
    let more : length log + 1 + 1 ≡ length (x ∷ log) + 1 = omega arith in
    ap (λ (n : ℕ). if_some n here) (shown_listed seat log e lines is) ∙ past (length log + 1) here (omega arith) ∙ more

-- another entry at the end changes nothing
shown_unlisted : (seat : ℕ) (log : List Entry) (e : Entry) → listing_by seat e ≡ None
    → shown seat (log ++ e ∷ []) ≡ shown seat log
shown_unlisted seat [] e is = marked (e.seat == seat) e.outcome ∙ ap mark is
shown_unlisted seat (x ∷ log) e is =
    let here : ℕ = if (x.seat == seat) && is_listing x.outcome then 1 else 0 in
    ap (λ (n : ℕ). if_some n here) (shown_unlisted seat log e is)

-- The search from the end

cut : (log : List Entry) (count : ℕ) (e : Entry) → 0 < count → count ≤ length log → e ≡ get_or log (count - 1) e
    → take count log ≡ take (count - 1) log ++ e ∷ []
cut log count e some within is =
    let whole : count ≡ count - 1 + 1 = omega arith in
    ap (λ (n : ℕ). take n log) whole
    ∙ (take_more log (count - 1) e (omega arith) ∙ ap (λ (x : Entry). take (count - 1) log ++ x ∷ []) (sym is))

-- the last of these entries is the last listing
pub found_number : (seat : ℕ) (log : List Entry) (count : ℕ) (e : Entry) (lines : List GeomLine) → 0 < count
    → count ≤ length log → e ≡ get_or log (count - 1) e → listing_by seat e ≡ Some lines
    → shown seat (take count log) ≡ shown seat log → count ≡ shown seat log
found_number seat log count e lines some within is listed so_far =
    let long : length (take (count - 1) log) ≡ count - 1 = length-take-le (count - 1) log (omega arith) in
    let whole : count ≡ length (take (count - 1) log) + 1 = omega arith in
    whole
    ∙ (sym (shown_listed seat (take (count - 1) log) e lines listed)
    ∙ (ap (λ (l : List Entry). shown seat l) (sym (cut log count e some within is)) ∙ so_far))

pub found_listing : (seat : ℕ) (log : List Entry) (count : ℕ) (e : Entry) (lines : List GeomLine) → 0 < count
    → count ≤ length log → e ≡ get_or log (count - 1) e → listing_by seat e ≡ Some lines → IsListedAt log count lines
found_listing seat log count e lines some within is listed =
    let replied = entry_listed (e.seat == seat) e.outcome lines listed in record {
      some = some;
      entry = e;
      at = slice_get_read log (length log) (count - 1) e refl (omega arith) is;
      line = replied.0;
      replied = replied.1;
    }

-- it is none, so the search goes on
pub found_none : (seat : ℕ) (log : List Entry) (count : ℕ) (e : Entry) → 0 < count → count ≤ length log
    → e ≡ get_or log (count - 1) e → listing_by seat e ≡ None → shown seat (take count log) ≡ shown seat log
    → shown seat (take (count - 1) log) ≡ shown seat log
found_none seat log count e some within is none so_far =
    sym (shown_unlisted seat (take (count - 1) log) e none)
    ∙ (ap (λ (l : List Entry). shown seat l) (sym (cut log count e some within is)) ∙ so_far)

-- By the plan

of_actors : (plan : Plan) (actors : List (List ℕ)) (log : List Entry) → plan.actors ≡ actors
    → shown_of plan log ≡ shown_of (record plan { actors = actors }) log
of_actors plan actors log is = ap (λ (xs : List (List ℕ)). shown_of (record plan { actors = xs }) log) is

none_by : (plan : Plan) (actors : List (List ℕ)) (log : List Entry) → plan.actors ≡ actors → length actors ≡ 0
    → shown_of plan log ≡ 0
none_by plan [] log is none = of_actors plan [] log is
none_by plan (actor ∷ actors) log is none = absurd (omega arith)

some_by : (plan : Plan) (actors : List (List ℕ)) (log : List Entry) → plan.actors ≡ actors → 0 < length actors
    → shown_of plan log ≡ shown 1 log
some_by plan [] log is some = absurd (omega arith)
some_by plan (actor ∷ actors) log is some = of_actors plan (actor ∷ actors) log is

-- with no actor nothing is shown
pub shown_of_none : (plan : Plan) (log : List Entry) → length plan.actors ≡ 0 → shown_of plan log ≡ 0
shown_of_none plan log none = none_by plan plan.actors log refl none

-- else what the client in the first seat shows
pub shown_of_some : (plan : Plan) (log : List Entry) → 0 < length plan.actors → shown_of plan log ≡ shown 1 log
shown_of_some plan log some = some_by plan plan.actors log refl some

-- What is printed

-- where nothing is shown it is the mesh at the start
pub opening_seen : (plan : Plan) (log : List Entry) (first : List GeomLine) → shown_of plan log ≡ 0
    → IsLastView plan log first 0 first
opening_seen plan log first none = record {
  number = sym none;
  listed = λ opened legal began. began ∙ ap (λ (n : ℕ). listing (replay opened (take n log))) (sym none);
}

-- else the last listing is the mesh after its own entry
pub reply_seen : (plan : Plan) (log : List Entry) (first : List GeomLine) (count : ℕ) (lines : List GeomLine)
    → count ≡ shown_of plan log → IsListedAt log count lines → IsLastView plan log first count lines
reply_seen plan log first count lines number l = record {
  number = number;
  listed = λ opened legal began.
      let some : 0 < count = l.some in
      let whole : count - 1 + 1 ≡ count = omega arith in
      replies_are_listings opened log (count - 1) l.entry l.line lines legal l.at l.replied
      ∙ ap (λ (n : ℕ). listing (replay opened (take n log))) (whole ∙ number);
}

-- the report with what is seen last
pub is_watched : (plan : Plan) (log : List Entry) (lines first due : List GeomLine) (count : ℕ)
    (reported text : List ℕ) → IsReport plan log lines reported → IsLastView plan log first count due
    → text ≡ reported ++ view_lines count due → IsWatchedReport plan log lines first text
unfolding view_lines
is_watched plan log lines first due count reported text reports view is opened legal ended began =
    is
    ∙ (ap (λ (r : List ℕ). r ++ view_lines count due) (reports opened ended)
    ∙ (ap (λ (n : ℕ). report plan opened log ++ view_lines n due) view.number
    ∙ ap (λ (l : List GeomLine). report plan opened log ++ view_lines (shown_of plan log) l)
    (view.listed opened legal began)))
