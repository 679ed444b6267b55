-- What comes next has its form.
use Rattle.std.specs.Prelude.{⊤}
use Rattle.geo_connection.specs.Turns.{IsTurn}
use Rattle.geo_serving.specs.declared.client.Doing.{Doing}
use Rattle.geo_serving.specs.declared.client.Doing.TheVariants as doings

-- what is to be given to the mesh has the form of a command
abbrev pub IsDoing : Doing → Type 0
IsDoing (doings.Does turn) = IsTurn turn
IsDoing doing = ⊤
