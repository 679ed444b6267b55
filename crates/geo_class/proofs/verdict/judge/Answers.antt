use Rattle.std.proofs.Common.{sym, ap, ◌∙◌}
use Rattle.geo_model.specs.Acceptance.{judge, verdict_of}
use Rattle.geo_model.specs.declared.class.Shape.TheVariants.{Slices}
use Rattle.geo_class.proofs.verdict.judge.Goals as goal

-- what the decoder answers is what the model says of the table in this sector
pub returns-in-Mbr : goal.returns-in-Mbr
returns-in-Mbr c =
    c.verdict_on_table.ensures ∙ ap (verdict_of Slices) c.decode.ensures
    ∙ ap (λ kind. judge kind c.args.sector.now c.args.facts.now) (sym c.in-Mbr.is)
