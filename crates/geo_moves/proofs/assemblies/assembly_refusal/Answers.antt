use Rattle.geo_moves.proofs.Assembled.{all-refusal}
use Rattle.geo_moves.proofs.assemblies.assembly_refusal.Goals as goal

-- the providers that were found are those of the names, so they are tested as the model tests them
pub returns : goal.returns
returns c = λ names found size_is.
    all-refusal found c.args.assembly c.args.name.now c.args.wanted c.assembly_name-full.ensures
    c.has_bad_strips-is_bad.ensures c.joined_refusal.ensures size_is
