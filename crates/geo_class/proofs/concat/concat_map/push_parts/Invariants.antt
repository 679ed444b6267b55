use Rattle.geo_class.proofs.ConcatLemmas.{PartsSoFar}
use Rattle.geo_class.proofs.concat.concat_map.push_parts.Given as goal

-- the parts so far, with those in the components that are left, are all parts; each that is left has room
abbrev pub invariant-loop-component : goal.invariant-loop-component
invariant-loop-component l =
    PartsSoFar l.span.offset l.span.len l.sizes l.component l.start l.fn.list.items l.list.items l.list.spare
