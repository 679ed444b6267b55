use Rattle.std.proofs.Common.{◌≡◌, ◌<◌, ◌++◌, All, length, drop, take, sym, subst, arith}
use Rattle.std.proofs.lemmas.List.Elements.{All-drop}
use Rattle.geo_model.specs.declared.command.LineCommand.{LineCommand}
use Rattle.geomnbd.specs.Forms.{HasForm}
use Rattle.geomnbd.proofs.setup.take_first.Goals as goal

-- it is one of them
pub returns-clause-first : goal.returns-clause-first
returns-clause-first c =
    subst HasForm (sym c.remove.ensures.value) (c.requires.each 0 c.remove.result (search (arith, c.requires.some)))

-- the others are among them
pub returns-clause-each : goal.returns-clause-each
returns-clause-each c =
    subst (All HasForm) (sym c.remove.ensures.items) (All-drop HasForm 1 c.args.commands.now.items c.requires.each)
