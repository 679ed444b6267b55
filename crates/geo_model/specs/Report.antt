-- The texts: words, mesh lines, the report and the summary.
use Rattle.std.specs.Prelude.{ℕ, ◌==◌, Bool, true, false, List, [], ◌∷◌, ◌++◌, length, filter_map, flat_map, sum_by, count_by, Option, Some, None, codes, decimal, if◌then◌else◌}
use Rattle.std.specs.Option.{option_map_or}
use Rattle.geo_base.specs.declared.request.Counts.{Counts}
use Rattle.geo_base.specs.declared.errno.Errno.{Errno}
use Rattle.geo_base.specs.declared.errno.Errno.TheVariants.{ENOENT, EEXIST, EBADF, ENXIO, EPERM, EOVERFLOW, EBUSY, EINVAL, EIO, ELOOP, EDEEP}
use Rattle.geo_base.specs.Errno.{errno_text}
use Rattle.geo_base.specs.Kind.{kind_text}
use Rattle.geo_base.specs.Runs.{runs_text}
use Rattle.geo_model.specs.declared.command.LineCommand.{LineCommand}
use Rattle.geo_model.specs.declared.listing.ConsLine.{ConsLine}
use Rattle.geo_model.specs.declared.listing.GeomLine.{GeomLine}
use Rattle.geo_model.specs.declared.listing.ProvLine.{ProvLine}
use Rattle.geo_model.specs.declared.step.Entry.{Entry}
use Rattle.geo_model.specs.declared.step.Outcome.{Outcome}
use Rattle.geo_model.specs.declared.step.Outcome.TheVariants as outcomes
use Rattle.geo_model.specs.declared.step.Reply.{Reply}
use Rattle.geo_model.specs.declared.step.Reply.TheVariants as replies
use Rattle.geo_model.specs.World.{World, Plan}
use Rattle.geo_model.specs.Listing.{listing}
use Rattle.geo_model.specs.Log.{replay}

-- Words

-- the place of an error in the list of errors
abbrev pub errno_number : Errno → ℕ
errno_number ENOENT = 0
errno_number EEXIST = 1
errno_number EBADF = 2
errno_number ENXIO = 3
errno_number EPERM = 4
errno_number EOVERFLOW = 5
errno_number EBUSY = 6
errno_number EINVAL = 7
errno_number EIO = 8
errno_number ELOOP = 9
errno_number EDEEP = 10

abbrev pub all_errnos : List Errno
all_errnos = ENOENT ∷ EEXIST ∷ EBADF ∷ ENXIO ∷ EPERM ∷ EOVERFLOW ∷ EBUSY ∷ EINVAL ∷ EIO ∷ ELOOP ∷ EDEEP ∷ []

abbrev pub counts_text : Counts → List ℕ
counts_text a = codes "r" ++ decimal a.r ++ codes "w" ++ decimal a.w ++ codes "e" ++ decimal a.e

-- a line's end
abbrev pub end_line : List ℕ
end_line = 10 ∷ []

-- Mesh lines

abbrev pub prov_text : ProvLine → List ℕ
prov_text p =
    codes "  provider " ++ p.name ++ codes " size " ++ decimal p.size ++ codes " sector " ++ decimal p.sector
    ++ codes " " ++ counts_text p.counts ++ (if p.errored then codes " ENXIO" else []) ++ end_line

abbrev pub cons_text : ConsLine → List ℕ
cons_text c = codes "  consumer " ++ c.prov ++ codes " " ++ counts_text c.counts ++ end_line

abbrev pub geom_text : GeomLine → List ℕ
geom_text g =
    codes "geom " ++ kind_text g.kind ++ codes " " ++ g.name ++ codes " rank " ++ decimal g.rank
    ++ (if g.withering then codes " withering" else []) ++ end_line
    ++ flat_map prov_text g.providers ++ flat_map cons_text g.consumers

unfoldable pub mesh_text : List GeomLine → List ℕ
mesh_text lines = flat_map geom_text lines

-- Report

-- a reply behind the number of its line, and the mesh lines of a `mesh` command
abbrev pub reply_text : Reply → List ℕ
reply_text replies.Ok = codes " ok" ++ end_line
reply_text (replies.Bytes bytes) = codes " ok " ++ runs_text bytes ++ end_line
reply_text (replies.Refused e) = codes " " ++ errno_text e ++ end_line
reply_text (replies.Listing lines) = codes " ok" ++ end_line ++ mesh_text lines

-- the reply to a line, if the entry gives it
abbrev pub reply_in : ℕ → Outcome → Option Reply
reply_in line (outcomes.Replied l reply) = if l == line then Some reply else None
reply_in line _ = None

-- the first reply in the log to a line
abbrev pub reply_from : List Entry → ℕ → Option Reply
reply_from [] line = None
reply_from (e ∷ log) line = option_map_or (λ reply. Some reply) (reply_in line e.outcome) (reply_from log line)

abbrev pub line_text : List Entry → LineCommand → List ℕ
line_text log c = decimal c.line ++ option_map_or reply_text (reply_from log c.line) end_line

-- the reply of each line in order, then the mesh after the whole log
unfoldable pub report : Plan → World → List Entry → List ℕ
report plan opened log = flat_map (line_text log) plan.commands ++ mesh_text (listing (replay opened log))

-- Summary

-- the replies of the lines, in order
abbrev pub all_replies : Plan → List Entry → List Reply
all_replies plan log = filter_map (λ c. reply_from log c.line) plan.commands

abbrev pub is_refusal : Errno → Reply → Bool
is_refusal e (replies.Refused x) = errno_number x == errno_number e
is_refusal e _ = false

abbrev pub is_ok_reply : Reply → Bool
is_ok_reply (replies.Refused x) = false
is_ok_reply _ = true

abbrev pub reply_len : Reply → ℕ
reply_len (replies.Bytes bytes) = length bytes
reply_len _ = 0

-- a word, a number and a line feed
abbrev pub count_line : List ℕ → ℕ → List ℕ
count_line word n = word ++ codes " " ++ decimal n ++ end_line

-- the numbers of commands, of ok replies, of each error, of bytes read and of geoms
unfoldable pub summary : Plan → World → List Entry → List ℕ
summary plan opened log =
    count_line (codes "commands") (length plan.commands)
    ++ count_line (codes "ok") (count_by is_ok_reply (all_replies plan log))
    ++ flat_map (λ e. count_line (errno_text e) (count_by (is_refusal e) (all_replies plan log))) all_errnos
    ++ count_line (codes "bytes") (sum_by reply_len (all_replies plan log))
    ++ count_line (codes "geoms") (length (listing (replay opened log)))
