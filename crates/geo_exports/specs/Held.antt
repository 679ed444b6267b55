-- What a handle holds.
use Rattle.std.specs.Prelude.{Option}
use Rattle.geo_tags.specs.Tags.{TaggedView}
use Rattle.geo_exports.specs.declared.held.TzbCore.{TzbCore}

-- the live mesh, if it is open
abbrev pub mesh_in : TzbCore → Option TaggedView
mesh_in core = core.held.value
