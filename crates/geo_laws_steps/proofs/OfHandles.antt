-- Each command is one of geoms or one of handles.
use Rattle.std.specs.Prelude.{◌≡◌, true, false, not}
use Rattle.std.proofs.Common.{ap}
use Rattle.geo_model.specs.declared.command.Command.{Command}
use Rattle.geo_model.specs.CommandEffects.{is_of_geoms}
use Rattle.geo_laws_handles.specs.CommandLaws.{is_of_handles}

-- one that isn't of geoms is of handles
pub of-handles : (c : Command) → is_of_geoms c ≡ false → is_of_handles c ≡ true
of-handles c other = ap not other
