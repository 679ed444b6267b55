use Rattle.std.proofs.Common.{◌≡◌, ◌+◌, ◌∙◌, Bool, true, false, Some, cond, drop, sym, ap}
use Rattle.std.specs.List.{find}
use Rattle.geo_nbd.specs.Handshake.{is_meant}
use Rattle.geo_nbd.proofs.Finds.{find-next}
use Rattle.geo_nbd.proofs.export.export_of.Goals as goal

-- the next one is it
pub returns-then-is_meant : goal.returns-then-is_meant
returns-then-is_meant c =
    let p = is_meant c.args.name.now in
    let xs = c.args.exports.now in
    let i = c.loop-export.export-index in
    let x = c.export-item.result in
    let meant : true ≡ p x = sym c.if-is_meant.true ∙ c.is_meant.ensures in
    sym (c.loop-export.invariant ∙ find-next p xs i x c.loop-export-test.true c.export-item.is
    ∙ ap (λ (b : Bool). cond b (Some x) (find p (drop (i + 1) xs))) (sym meant))

-- the next one isn't it, so it is behind that
pub loop-export-preserved : goal.loop-export-preserved
loop-export-preserved c =
    let p = is_meant c.args.name.now in
    let xs = c.args.exports.now in
    let i = c.loop-export.export-index in
    let x = c.export-item.result in
    let other : false ≡ p x = sym c.if-is_meant.false ∙ c.is_meant.ensures in
    c.loop-export.invariant ∙ find-next p xs i x c.loop-export-test.true c.export-item.is
    ∙ ap (λ (b : Bool). cond b (Some x) (find p (drop (i + 1) xs))) (sym other)
