use Rattle.std.proofs.Common.{◌≡◌, ◌++◌, ◌∙◌}
use Rattle.geo_shown.specs.Shown.{view_lines}
use Rattle.geo_shown.proofs.LastLemmas.{is_watched}
use Rattle.geo_shown.proofs.watched.watched_report.Goals as goal

-- what is printed is the listing that is due, whatever was seen
pub returns : goal.returns
returns c =
    let count = c.last_view-entries.result.0 in
    let due = c.last_view-entries.result.1.now in
    let front : c.add.new.self ≡ c.in_ok-reported.reported =
    c.in_ok-add.ensures ∙ (λ i. c.new-text.ensures i ++ c.bytes.ensures i) in
    let text : c.into_block.result ≡ c.in_ok-reported.reported ++ view_lines count due =
    c.into_block.ensures ∙ (c.in_ok-add_view.ensures ∙ (λ i. front i ++ view_lines count (c.printed.ensures i))) in
    is_watched c.args.plan.now c.args.log.now.items c.args.mesh.now c.args.opening.now due count
    c.in_ok-reported.reported c.into_block.result c.in_ok-reported.ensures.report c.last_view-entries.ensures text
