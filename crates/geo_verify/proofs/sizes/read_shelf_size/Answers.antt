use Rattle.std.proofs.Common.{sym, ◌∙◌, ap, ◌∷◌}
use Rattle.geo_laws_traces.proofs.Sizes.{shelf_step}
use Rattle.geo_headline.specs.Traces.{read_sizes, parts_of}
use Rattle.geo_laws_traces.proofs.Lines.{some_part}
use Rattle.geo_verify.proofs.SizesRead.{shelf_fault}
use Rattle.geo_verify.proofs.sizes.read_shelf_size.Goals as goal

-- Both ways: a disk of the shelf takes a line, which is of the form or is the first fault
pub returns-in-Ok-clause-read : goal.returns-in-Ok-clause-read
returns-in-Ok-clause-read c =
    λ ds. ap (read_sizes c.args.place.line (c.args.disk.now ∷ ds)) c.in-Some.ensures.parts
    ∙ shelf_step c.args.place.line c.args.disk.now ds c.in-Some.first.now (parts_of c.in-Some.text.now)
    c.in-Ok.sectors c.requires.shelf (some_part c.in-Some.text.now) (sym c.size_of_line.ensures ∙ c.in-Ok.is)

pub returns-in-Err-clause-read : goal.returns-in-Err-clause-read
returns-in-Err-clause-read c =
    λ ds. ap (read_sizes c.args.place.line (c.args.disk.now ∷ ds)) c.in-Some.ensures.parts
    ∙ shelf_fault c.args.place.line c.args.disk.now ds c.in-Some.first.now (parts_of c.in-Some.text.now)
    c.in-Err.field-0 c.requires.shelf (some_part c.in-Some.text.now) (sym c.size_of_line.ensures ∙ c.in-Err.is)
