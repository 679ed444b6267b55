use Rattle.std.proofs.lemmas.List.Elements.{recursion_from_All}
use Rattle.geo_laws_counts.proofs.Reach.{want_same}
use Rattle.geo_laws_counts.proofs.demands.wants_depend_on_counts.Goals as goal

pub returns : goal.returns
returns g m granted t other u c grant kind providers haves =
    want_same granted t other u c grant kind providers (recursion_from_All _ _ haves)
