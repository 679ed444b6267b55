use Rattle.std.proofs.Common.{sym, ap}
use Rattle.geo_class.specs.concat.ConcatMap.{ConcatView}
use Rattle.geo_class.proofs.ConcatGrowthLemmas.{kept_grown, places_kept}
use Rattle.geo_class.proofs.concat.concat_map.ConcatMap.add.Goals as goal

-- the new size takes the first cell without one, so the sizes stay in front and zeros behind
pub invariant_of-self : goal.invariant_of-self
invariant_of-self c =
    kept_grown c.args.self.now.sizes c.self.inside.cells c.self.inside.count c.args.size c.self.invariant
    (sym (ap (λ (map : ConcatView). map.sizes) c.self.view_is)) c.requires.few c.requires.fits

-- an offset of the old media lies before the new component, so the walk stops where it did
pub returns-clause-places_stay : goal.returns-clause-places_stay
returns-clause-places_stay c =
    places_kept c.args.self.now.sizes c.self.inside.cells c.self.inside.count c.args.size c.self.invariant
    (sym (ap (λ (map : ConcatView). map.sizes) c.self.view_is)) c.requires.few
