use Rattle.std.proofs.Common.{refl}
use Rattle.geo_slots.proofs.PageLemmas.{with_cleared}
use Rattle.geo_slots.proofs.page.take_key.Goals as goal

pub returns : goal.returns
returns c = with_cleared c.args.page.now _ c.args.at c.requires refl refl
