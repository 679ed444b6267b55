use Rattle.std.proofs.Common.{◌≡◌, ◌+◌, List, ℕ, length, slice_set, sym, ◌∙◌, ap, subst, arith}
use Rattle.std.proofs.lemmas.Option.{slice_get_within}
use Rattle.geo_model.specs.declared.command.LineCommand.{LineCommand}
use Rattle.geo_core.specs.Left.{commands_from, left_of, AreNext, IsNext}
use Rattle.geo_core.proofs.Lefts.{has_place, inside_place, next-set, gone}
use Rattle.geo_core.proofs.left.Left.advance.Goals as goal

pub unreachable-requires : goal.unreachable-requires
unreachable-requires c =
    has_place c.args.plan.now c.args.self.now c.requires.next c.args.actor c.requires.some
    (sym c.place_of.ensures ∙ c.in_default.is)

-- its next command stands at the place, so behind it is within the commands or their end
pub next_place-requires : goal.next_place-requires
next_place-requires c =
    rw c.commands.ensures.commands
    (inside_place c.args.plan.now c.args.self.now c.requires.next c.args.actor c.in-Some.place
    (sym c.place_of.ensures ∙ c.in-Some.is) c.requires.some)

pub index_mut-requires : goal.index_mut-requires
index_mut-requires c =
    let within =
    slice_get_within c.args.self.now c.args.actor c.in-Some.place (sym c.place_of.ensures ∙ c.in-Some.is) in
    let same = ap length c.self.view_is in
    omega (arith, within, same, c.self.inside.places.ok.0)

-- each other actor's place stays, and this one's is that of its first command behind the last
pub returns-clause-next : goal.returns-clause-next
returns-clause-next c =
    let is : IsNext c.args.plan.now.commands c.args.actor c.next_place.result =
    subst (λ (cs : List LineCommand). IsNext cs c.args.actor c.next_place.result) c.commands.ensures.commands
    c.next_place.ensures.next in
    subst (λ (ps : List ℕ). AreNext c.args.plan.now (slice_set ps c.args.actor c.next_place.result))
    (sym c.self.view_is)
    (next-set c.args.plan.now c.args.self.now c.args.actor c.next_place.result c.requires.next is)

-- what stands from the new place on for the actor is what stood behind its next command
pub returns-clause-gone : goal.returns-clause-gone
returns-clause-gone c =
    let skips : commands_from c.args.plan.now.commands c.args.actor c.next_place.result
    ≡ commands_from c.args.plan.now.commands c.args.actor (c.in-Some.place + 1) =
    subst (λ (cs : List LineCommand). commands_from cs c.args.actor c.next_place.result
    ≡ commands_from cs c.args.actor (c.in-Some.place + 1)) c.commands.ensures.commands c.next_place.ensures.skips in
    ap (λ (ps : List ℕ). left_of c.args.plan.now.commands (slice_set ps c.args.actor c.next_place.result))
    c.self.view_is
    ∙ gone c.args.plan.now c.args.self.now c.requires.next c.args.actor c.in-Some.place c.next_place.result
    (sym c.place_of.ensures ∙ c.in-Some.is) c.requires.some skips
