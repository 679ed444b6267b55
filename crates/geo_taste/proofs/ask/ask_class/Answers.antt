use Rattle.std.proofs.Common.{sym, ap, ◌∙◌}
use Rattle.geo_model.specs.Tasting.{is_attached_class}
use Rattle.geo_model.specs.World.{Taste}
use Rattle.geo_model.specs.Acceptance.{taste_where}
use Rattle.geo_taste.proofs.Asking.{asks_sector}
use Rattle.geo_taste.proofs.ask.ask_class.Goals as goal

-- the class has no geom over the provider yet and looks at it, so asking it is reading that sector
pub returns-in-Some-clause-judged : goal.returns-in-Some-clause-judged
returns-in-Some-clause-judged g c events p s facts left =
    asks_sector c.args.topo.now events s p c.args.kind c.args.taste.now c.in-Some.sector left
    (ap (is_attached_class c.args.topo.now.topology c.args.kind)
    (sym (c.provider.ensures ∙ ap (λ (z : Taste). z.provider) left))
    ∙ sym c.is_attached.ensures ∙ c.if-is_attached.false)
    (ap (taste_where c.args.kind) (sym facts) ∙ sym c.in-Some.ensures)
    ∙ c.read_sector.ensures.judged events
