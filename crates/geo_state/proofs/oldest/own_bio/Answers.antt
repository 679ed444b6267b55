use Rattle.std.proofs.Common.{sym, ◌∙◌}
use Rattle.geo_state.specs.declared.state.State.{State}
use Rattle.geo_state.proofs.Walks.{oldest-none, oldest-is, oldest-of-all}
use Rattle.geo_state.proofs.oldest.own_bio.Goals as goal

pub returns-in_default : goal.returns-in_default
returns-in_default c =
    let s : State = c.args.state.now in
    c.first_own.ensures ∙ oldest-of-all s.handles.handles c.args.actor s.traffic.bios

-- the count that is kept of an actor is that of its requests that are out
pub returns-then-own-eq0 : goal.returns-then-own-eq0
returns-then-own-eq0 c =
    let s : State = c.args.state.now in
    sym
    (oldest-none s c.requires.kept c.args.actor c.in-Some.own (sym c.own_of.ensures ∙ c.in-Some.is) c.if-own-eq0.true)

-- none of the actor's requests has a number below the one that is kept
pub returns : goal.returns
returns c =
    let s : State = c.args.state.now in
    c.first_own-2.ensures ∙ oldest-is s c.requires.kept c.args.actor c.in-Some.own (sym c.own_of.ensures ∙ c.in-Some.is)
