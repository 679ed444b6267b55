-- A disk's head and what waits for it, as a log changes them.
use Rattle.std.specs.Prelude.{◌≡◌, ℕ, Bool, true, false, not, List, [], ◌∷◌, ◌++◌, IsTrue, MatchOption, slice_get, slice_set, ⊤, if◌then◌else◌}
use Rattle.geo_model.specs.declared.step.Request.{Request}
use Rattle.geo_model.specs.Words.{is_flush}
use Rattle.geo_headline.specs.Sweep.{Waiting}
use Rattle.geo_elev.specs.declared.disks.DiskHead.{DiskHead}
use Rattle.geo_elev.specs.Lists.{are_below, without}

-- the head after a request
abbrev pub moved : Request → ℕ → ℕ
moved q head = if not (is_flush q.cmd) then q.first else head

-- a disk that was asked for a bio
abbrev pub after_asking : Request → ℕ → DiskHead → DiskHead
after_asking q bio d = record { head = moved q d.head; waiting = without bio d.waiting }

-- so it is, if that was followed
abbrev pub IsAsked : Bool → Request → ℕ → DiskHead → DiskHead → Type 0
IsAsked true q bio d e = e ≡ after_asking q bio d
IsAsked false q bio d e = ⊤

-- its head alone moves
abbrev pub HeadMoves : Request → DiskHead → DiskHead → Type 0
HeadMoves q d e = e ≡ record d { head = moved q d.head }

-- one more waits, behind all; or as before, where not all have smaller numbers
abbrev pub Queues : Bool → Waiting → DiskHead → DiskHead → Type 0
Queues true x d e = IsTrue (are_below x.bio d.waiting) × (e ≡ record d { waiting = d.waiting ++ x ∷ [] })
Queues false x d e = (are_below x.bio d.waiting ≡ false) × (e ≡ d)

-- one disk changes so, if there is one of this number
abbrev pub ChangesOne : ℕ → (DiskHead → DiskHead → Type 0) → List DiskHead → List DiskHead → Type 0
ChangesOne i R old new =
    MatchOption (slice_get old i) (new ≡ old) (λ d. (e : DiskHead) × R d e × (new ≡ slice_set old i e))
