-- What holds of a request on its way.
use Rattle.std.specs.Prelude.{◌≡◌, ◌≢◌, ◌+◌, ◌<◌, ◌≤◌, ◌^◌, length}
use Rattle.geo_base.specs.declared.request.BioCmd.TheVariants as cmds
use Rattle.geo_server.specs.declared.asked.Asked.{Asked}
use Rattle.geo_server.specs.declared.judging.TheConstants.{MAX_TRANSFER}
use Rattle.geo_server.specs.declared.serving.Going.{Going}
use Rattle.geo_server.specs.declared.serving.Going.TheVariants as goings

-- its range has no end past 2^64, and no more is done than is asked; a write has its bytes, and a read isn't too long
pub record IsWhole (a : Asked) : Type 0 where
  pub ends : a.offset + a.len < 2 ^ 64
  pub within : a.done ≤ a.len
  pub has_data : a.cmd ≡ cmds.Write → length a.bytes ≡ a.len
  pub short : a.cmd ≡ cmds.Read → a.len ≤ MAX_TRANSFER

-- a command is to be made for it: only a flush finds all done
pub record IsAsked (a : Asked) : Type 0 where
  pub whole : IsWhole a
  pub left : a.cmd ≢ cmds.Flush → a.done < a.len

-- what goes on has a command to be made, and what ends is whole
abbrev pub KeepsWhole : Going → Type 0
KeepsWhole (goings.Goes a) = IsAsked a
KeepsWhole (goings.Ends a error) = IsWhole a
