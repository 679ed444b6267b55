use Rattle.std.proofs.Common.{◌≡◌, true, refl, rules}
use Rattle.geo_base.specs.Name.{is_name}
use Rattle.geo_base.proofs.NameLemmas.{kept_from}
use Rattle.geo_base.proofs.name.Name.new.Goals as goal

-- the bytes were tested, and zeros alone stand behind them
pub invariant_of-result : goal.invariant_of-result
invariant_of-result c =
    let named : is_name c.args.bytes.now ≡ true = search rules in
    kept_from c.args.bytes.now c.copy_from_slice.new.self _ (search rules) named refl
