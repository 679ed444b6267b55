use Rattle.std.proofs.Common.{◌≡◌, Some, None, length, slice_get, refl, sym, ◌∙◌}
use Rattle.std.proofs.lemmas.Option.{slice_get_past, slice_get_read}
use Rattle.geo_core.proofs.Lefts.{no_actor, no_command, a_command}
use Rattle.geo_core.proofs.left.Left.next.Goals as goal

pub returns-in_default : goal.returns-in_default
returns-in_default c =
    no_actor c.args.plan.now c.args.self.now c.requires c.args.actor (sym c.place_of.ensures ∙ c.in_default.is)

-- what stands at the actor's place is its next command
pub returns-in-Some-get : goal.returns-in-Some-get
returns-in-Some-get c =
    let all = c.commands.result.now in
    let there : slice_get all c.in-Some.place ≡ Some c.in-Some-get.command.now =
    slice_get_read all (length all) c.in-Some.place c.in-Some-get.command.now refl
    c.in-Some-get.ensures.lookup.3.0 c.in-Some-get.ensures.lookup.1 in
    let has : slice_get c.args.plan.now.commands c.in-Some.place ≡ Some c.in-Some-get.command.now =
    cc (there, c.commands.ensures.commands) in
    a_command c.args.plan.now c.args.self.now c.requires c.args.actor c.in-Some.place c.in-Some-get.command.now
    (sym c.place_of.ensures ∙ c.in-Some.is) has

-- nothing stands at the actor's place, so it is the end, and no command is left
pub returns-in-None : goal.returns-in-None
returns-in-None c =
    let all = c.commands.result.now in
    let past : slice_get all c.in-Some.place ≡ None = slice_get_past all c.in-Some.place c.in-None.ensures.lookup.3 in
    let end : slice_get c.args.plan.now.commands c.in-Some.place ≡ None = cc (past, c.commands.ensures.commands) in
    no_command c.args.plan.now c.args.self.now c.requires c.args.actor c.in-Some.place
    (sym c.place_of.ensures ∙ c.in-Some.is) end
