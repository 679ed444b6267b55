-- What the log shows last, and what is printed of it.
use Rattle.std.specs.Prelude.{◌≡◌, ℕ, ◌-◌, ◌<◌, ◌==◌, List, ◌++◌, Option, Some, None, slice_get, take, codes, decimal, if◌then◌else◌}
use Rattle.geo_model.specs.declared.listing.GeomLine.{GeomLine}
use Rattle.geo_model.specs.declared.step.Entry.{Entry}
use Rattle.geo_model.specs.declared.step.Outcome.{Outcome}
use Rattle.geo_model.specs.declared.step.Outcome.TheVariants as outcomes
use Rattle.geo_model.specs.declared.step.Reply.{Reply}
use Rattle.geo_model.specs.declared.step.Reply.TheVariants as replies
use Rattle.geo_model.specs.Listing.{listing}
use Rattle.geo_model.specs.Log.{Legal, replay}
use Rattle.geo_model.specs.Report.{end_line, mesh_text, report}
use Rattle.geo_model.specs.World.{Plan, World}
use Rattle.geo_headline.specs.Viewing.{shown_of, view_text}

-- the listing of a reply, of an outcome, and of an entry of this seat
abbrev pub listing_in : Reply → Option (List GeomLine)
listing_in (replies.Listing lines) = Some lines
listing_in _ = None

abbrev pub listing_of : Outcome → Option (List GeomLine)
listing_of (outcomes.Replied line reply) = listing_in reply
listing_of _ = None

abbrev pub listing_by : ℕ → Entry → Option (List GeomLine)
listing_by seat e = if e.seat == seat then listing_of e.outcome else None

-- the last of so many entries was replied this listing
pub record IsListedAt (log : List Entry) (count : ℕ) (lines : List GeomLine) : Type 0 where
  pub some : 0 < count
  pub entry : Entry
  pub at : slice_get log (count - 1) ≡ Some entry
  pub line : ℕ
  pub replied : entry.outcome ≡ outcomes.Replied line (replies.Listing lines)

-- so many entries are shown, and this is the mesh as it is printed after them, if the first is that at the start
pub record IsLastView (plan : Plan) (log : List Entry) (first : List GeomLine) (count : ℕ) (lines : List GeomLine)
    : Type 0 where
  pub number : count ≡ shown_of plan log
  pub listed : (opened : World) → Legal opened log → first ≡ listing opened
      → lines ≡ listing (replay opened (take (shown_of plan log) log))

-- the line that tells how many entries are shown, and the lines of the mesh
unfoldable pub view_lines : ℕ → List GeomLine → List ℕ
view_lines count lines = codes "view " ++ decimal count ++ end_line ++ mesh_text lines

-- a text is the report of a plan and a log with what is seen last, from each world that has the first listing and from
-- which the log leads to the other
abbrev pub IsWatchedReport : Plan → List Entry → List GeomLine → List GeomLine → List ℕ → Type 0
IsWatchedReport plan log lines first text =
    (opened : World) → Legal opened log → lines ≡ listing (replay opened log) → first ≡ listing opened
    → text ≡ report plan opened log ++ view_text plan opened log
