use Rattle.std.proofs.Common.{◌∙◌}
use Rattle.geo_moves.proofs.Assembled.{all-few-sizes, all-sector-fits, assembly-done, assembly-refused, can-assemble, judged, size-there}
use Rattle.geo_moves.proofs.joins.join_over.Goals as goal

pub assembly_size-size-requires : goal.assembly_size-size-requires
assembly_size-size-requires c = all-few-sizes c.requires.found _ (c.deref.ensures.value ∙ c.in_ok-sizes.ensures)

pub assembly_refusal-requires-clause-sector : goal.assembly_refusal-requires-clause-sector
assembly_refusal-requires-clause-sector c = all-sector-fits c.args.state.now c.requires.stands.firm c.requires.found

-- what refuses it is what the model finds against it
pub returns-in-Some-clause-does : goal.returns-in-Some-clause-does
returns-in-Some-clause-does c = λ log actors.
    let judgement = judged c.args.assembly c.args.name.now c.requires.found
    (c.deref.ensures.value ∙ c.in_ok-sizes.ensures) c.assembly_size-size.ensures c.assembly_refusal.ensures in
    assembly-refused c.args.state.now c.requires.stands.firm c.requires.found judgement c.in-Some.errno c.in-Some.is
    c.args.line c.refused.result actors log c.refused.ensures

-- where nothing does, it has a size
pub unreachable-requires : goal.unreachable-requires
unreachable-requires c =
    let judgement = judged c.args.assembly c.args.name.now c.requires.found
    (c.deref.ensures.value ∙ c.in_ok-sizes.ensures) c.assembly_size-size.ensures c.assembly_refusal.ensures in
    size-there c.args.state.now c.requires.stands.firm c.requires.found judgement c.in_default.is c.in_default-size.is

-- and can be made
pub assemble-requires-clause-can : goal.assemble-requires-clause-can
assemble-requires-clause-can c =
    let judgement = judged c.args.assembly c.args.name.now c.requires.found
    (c.deref.ensures.value ∙ c.in_ok-sizes.ensures) c.assembly_size-size.ensures c.assembly_refusal.ensures in
    can-assemble c.args.state.now c.requires.stands.firm c.requires.found judgement c.in_default.is c.in-Some-size.is
    c.assembly_name-full.ensures c.sector_below-sector.ensures c.in_ok-sizes.sizes.items c.in_ok-sizes.ensures

-- the geom that was made is the model's assembly of what was found
pub returns-clause-does : goal.returns-clause-does
returns-clause-does c = λ log actors.
    let judgement = judged c.args.assembly c.args.name.now c.requires.found
    (c.deref.ensures.value ∙ c.in_ok-sizes.ensures) c.assembly_size-size.ensures c.assembly_refusal.ensures in
    assembly-done c.args.state.now c.requires.stands.firm c.requires.found judgement c.in_default.is c.in-Some-size.is
    c.assembly_name-full.ensures c.sector_below-sector.ensures c.assemble.new.state c.in_ok-assemble.ensures.made
    c.args.line c.done.result actors log c.done.ensures
