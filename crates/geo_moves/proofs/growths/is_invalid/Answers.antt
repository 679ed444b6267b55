use Rattle.std.specs.Prelude.{◌≡◌, false, ◌||◌}
use Rattle.std.proofs.Common.{ap, sym, ◌∙◌}
use Rattle.geo_model.specs.Append.{is_invalid_append}
use Rattle.geo_moves.specs.Appends.{AreNamed}
use Rattle.geo_moves.proofs.Appending.{invalid-told}
use Rattle.geo_moves.proofs.growths.is_invalid.Goals.{After-is_misfit-misfit}
use Rattle.geo_moves.proofs.growths.is_invalid.Goals as goal

-- the tests are those of the concat and the provider that were named
told : (c : After-is_misfit-misfit) (n : AreNamed c.args.topo.now.topology c.args.growing.now c.args.below.now)
    → (c.is_automatic-automatic.result || (c.is_full-full.result || c.is_misfit-misfit.result))
    ≡ is_invalid_append c.args.topo.now.topology n.concat n.provider
told c n =
    invalid-told c.is_automatic-automatic.ensures.sound.orderly.order n c.is_automatic-automatic.ensures.automatic
    c.is_full-full.ensures c.is_misfit-misfit.ensures

-- Each way out: one of the tests is enough
pub returns-then-automatic : goal.returns-then-automatic
returns-then-automatic c = λ n.
    c.if-automatic.true
    ∙ sym (ap (λ z. z || (c.is_full-full.result || c.is_misfit-misfit.result)) c.if-automatic.true)
    ∙ told (goal.at.returns-then-automatic c).After-is_misfit-misfit n

pub returns-then-full : goal.returns-then-full
returns-then-full c = λ n.
    c.if-full.true
    ∙ sym (ap (λ z. z || (c.is_full-full.result || c.is_misfit-misfit.result)) c.if-automatic.false
    ∙ ap (λ z. false || (z || c.is_misfit-misfit.result)) c.if-full.true)
    ∙ told (goal.at.returns-then-full c).After-is_misfit-misfit n

pub returns-else-full : goal.returns-else-full
returns-else-full c = λ n.
    sym (ap (λ z. z || (c.is_full-full.result || c.is_misfit-misfit.result)) c.if-automatic.false
    ∙ ap (λ z. false || (z || c.is_misfit-misfit.result)) c.if-full.false)
    ∙ told (goal.at.returns-else-full c).After-is_misfit-misfit n
