use Rattle.std.proofs.Common.{refl, rules}
use Rattle.geo_class.proofs.ConcatLemmas.{kept_from}
use Rattle.geo_class.proofs.concat.concat_map.ConcatMap.new.Goals as goal

-- the sizes stand in front, and zeros alone behind them
pub invariant_of-result : goal.invariant_of-result
invariant_of-result c =
    kept_from c.args.sizes.now c.copy_from_slice.new.self _ (search rules) c.requires.few c.requires.fits refl
