use Rattle.std.proofs.Common.{refl}
use Rattle.geo_slots.proofs.PageLemmas.{with_set}
use Rattle.geo_slots.proofs.page.set_key.Goals as goal

pub returns : goal.returns
returns c = with_set c.args.page.now _ c.args.at c.args.key c.requires.within c.requires.full refl refl
