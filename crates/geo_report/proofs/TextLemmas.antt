-- The report and the summary of the model, by the listing; and that each line of a plan has a number within the limit.
use Rattle.std.specs.Prelude.{[], ◌∷◌, ◌≤◌, All, map}
use Rattle.std.specs.List.{AllByRecursion}
use Rattle.std.proofs.Common.{◌≡◌, ℕ, List, ◌++◌, length, ap, ◌∙◌, flat_map, subst, sym}
use Rattle.std.proofs.lemmas.List.Elements.{All-from_recursion, recursion_from_All}
use Rattle.geo_base.specs.declared.limits.TheConstants.{MAX_SCRIPT_LINES}
use Rattle.geo_model.specs.declared.command.LineCommand.{LineCommand}
use Rattle.geo_model.specs.Plans.{IsPlan, IsLineNumber}
use Rattle.geo_model.specs.declared.listing.GeomLine.{GeomLine}
use Rattle.geo_model.specs.declared.step.Entry.{Entry}
use Rattle.geo_model.specs.World.{Plan}
use Rattle.geo_model.specs.Report.{line_text, mesh_text, report, summary, count_line, all_replies, is_ok_reply, is_refusal, reply_len, all_errnos}
use Rattle.geo_report.specs.Texts.{report_text, IsReport, summary_text, IsSummary}
use Rattle.geo_report.specs.declared.tally.Tally.{Tally}
use Rattle.geo_report.specs.Tallies.{IsTally, tally_text}
use Rattle.geo_report.proofs.TallyLemmas.{tally_lines}
use Rattle.std.proofs.lemmas.List.{append_assoc}
use Rattle.std.specs.Prelude.{codes, count_by, sum_by}
use Rattle.geo_base.specs.Errno.{errno_text}

-- the report by the listing is the report
pub is_report : (plan : Plan) (log : List Entry) (lines : List GeomLine) (text : List ℕ)
    → text ≡ report_text plan log lines → IsReport plan log lines text
unfolding report report_text
is_report plan log lines text is opened listed =
    is ∙ ap (λ l. flat_map (line_text log) plan.commands ++ mesh_text l) listed

-- the summary by the listing is the summary
pub is_summary : (plan : Plan) (log : List Entry) (lines : List GeomLine) (text : List ℕ)
    → text ≡ summary_text plan log lines → IsSummary plan log lines text
unfolding summary summary_text
is_summary plan log lines text is opened listed =
    is ∙ ap (λ l. count_line (codes "commands") (length plan.commands)
    ++ count_line (codes "ok") (count_by is_ok_reply (all_replies plan log))
    ++ flat_map (λ e. count_line (errno_text e) (count_by (is_refusal e) (all_replies plan log))) all_errnos
    ++ count_line (codes "bytes") (sum_by reply_len (all_replies plan log))
    ++ count_line (codes "geoms") (length l)) listed

regroup : (a b c d e : List ℕ) → (a ++ (b ++ c ++ d)) ++ e ≡ a ++ b ++ c ++ d ++ e
regroup a b c d e = simp append_assoc

-- the summary by the numbers that were counted
pub summary_is : (plan : Plan) (log : List Entry) (lines : List GeomLine) (t : Tally) → IsTally (all_replies plan log) t
    → count_line (codes "commands") (length plan.commands) ++ tally_text t ++ count_line (codes "geoms") (length lines)
    ≡ summary_text plan log lines
unfolding summary_text
summary_is plan log lines t is =
    let first : List ℕ = count_line (codes "commands") (length plan.commands) in
    let last : List ℕ = count_line (codes "geoms") (length lines) in
    ap (λ l. first ++ l ++ last) (tally_lines (all_replies plan log) t is)
    ∙ regroup first (count_line (codes "ok") (count_by is_ok_reply (all_replies plan log)))
    (flat_map (λ e. count_line (errno_text e) (count_by (is_refusal e) (all_replies plan log))) all_errnos)
    (count_line (codes "bytes") (sum_by reply_len (all_replies plan log))) last

-- the lines of numbered commands are within the limit
few_each : (cs : List LineCommand) → AllByRecursion IsLineNumber (map (λ (c : LineCommand). c.line) cs)
    → AllByRecursion (λ (c : LineCommand). c.line ≤ MAX_SCRIPT_LINES) cs
few_each [] are = tt
few_each (c ∷ cs) are = (are.0.few, few_each cs are.1)

-- so are those of a plan
pub few_lines : (plan : Plan) → IsPlan plan → (commands : List LineCommand) → commands ≡ plan.commands
    → All (λ (c : LineCommand). c.line ≤ MAX_SCRIPT_LINES) commands
few_lines plan is commands same =
    subst (λ (cs : List LineCommand). All (λ (c : LineCommand). c.line ≤ MAX_SCRIPT_LINES) cs) (sym same)
    (All-from_recursion (λ (c : LineCommand). c.line ≤ MAX_SCRIPT_LINES) plan.commands
    (few_each plan.commands
    (recursion_from_All IsLineNumber (map (λ (c : LineCommand). c.line) plan.commands) is.numbered)))
