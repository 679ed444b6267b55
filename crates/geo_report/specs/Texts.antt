-- The report and the summary by the listing of the mesh.
use Rattle.std.specs.Prelude.{◌≡◌, ℕ, List, ◌++◌, Option, length, count_by, sum_by, flat_map, codes}
use Rattle.std.specs.Option.{option_map_or}
use Rattle.geo_model.specs.declared.listing.GeomLine.{GeomLine}
use Rattle.geo_model.specs.declared.step.Entry.{Entry}
use Rattle.geo_model.specs.declared.step.Reply.{Reply}
use Rattle.geo_model.specs.World.{World, Plan}
use Rattle.geo_model.specs.Listing.{listing}
use Rattle.geo_model.specs.Log.{replay}
use Rattle.geo_model.specs.Report.{end_line, line_text, mesh_text, reply_text, report, summary, count_line, all_replies, is_ok_reply, is_refusal, reply_len, all_errnos}
use Rattle.geo_base.specs.Errno.{errno_text}

-- what stands behind the number of a line
abbrev pub reply_or_end : Option Reply → List ℕ
reply_or_end reply = option_map_or reply_text reply end_line

-- the reply of each line in order, then the mesh as it is listed
unfoldable pub report_text : Plan → List Entry → List GeomLine → List ℕ
report_text plan log lines = flat_map (line_text log) plan.commands ++ mesh_text lines

-- a text is the report of a plan and a log, from each world from which the log leads to this listing
abbrev pub IsReport : Plan → List Entry → List GeomLine → List ℕ → Type 0
IsReport plan log lines text = (opened : World) → lines ≡ listing (replay opened log) → text ≡ report plan opened log

-- the numbers of commands, of ok replies, of each error, of bytes read, and of geoms as they are listed
unfoldable pub summary_text : Plan → List Entry → List GeomLine → List ℕ
summary_text plan log lines =
    count_line (codes "commands") (length plan.commands)
    ++ count_line (codes "ok") (count_by is_ok_reply (all_replies plan log))
    ++ flat_map (λ e. count_line (errno_text e) (count_by (is_refusal e) (all_replies plan log))) all_errnos
    ++ count_line (codes "bytes") (sum_by reply_len (all_replies plan log))
    ++ count_line (codes "geoms") (length lines)

-- a text is the summary of a plan and a log, from each world from which the log leads to this listing
abbrev pub IsSummary : Plan → List Entry → List GeomLine → List ℕ → Type 0
IsSummary plan log lines text = (opened : World) → lines ≡ listing (replay opened log) → text ≡ summary plan opened log
