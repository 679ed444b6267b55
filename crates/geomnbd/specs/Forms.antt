-- Commands of scripts.
use Rattle.geo_model.specs.declared.command.LineCommand.{LineCommand}
use Rattle.geo_model.specs.Plans.{IsCommand}

-- a command of a line has its form
abbrev pub HasForm : LineCommand → Type 0
HasForm c = IsCommand c.command
