use Rattle.std.specs.Prelude.{IsSome}
use Rattle.std.proofs.Common.{refl, sym, ◌∙◌, subst}
use Rattle.geo_moves.proofs.Lengthened.{able_grows, able_kept, able_told}
use Rattle.geo_moves.proofs.appends.add_with_room.Goals as goal

-- the consumer was refused, as the model refuses it, and only its number is used up
pub returns-in-Some-clause-does : goal.returns-in-Some-clause-does
returns-in-Some-clause-does g c = λ able actors log. record {
  refused = sym c.in-Some.is ∙ c.in_ok-errno.ensures.answer able actors log;
  made = λ line.
      c.in_ok-errno.ensures.refused (subst (λ o. IsSome o) (sym c.in-Some.is) refl) actors log;
}

-- the consumer joined, no test is against its size, and room was reserved for all notes
pub grow_provider-requires : goal.grow_provider-requires
grow_provider-requires g c =
    let may = able_grows c.args.state.now c.requires.stands c.args.growing.now c.args.below.now c.requires.able
    (λ actors log. sym c.in_default.is ∙ c.in_ok-errno.ensures.answer c.requires.able actors log)
    c.join_component.new.state c.join_component.ensures.rest (c.in_ok-errno.ensures.joined c.in_default.is)
    c.in_ok-config.config (c.in_ok-config.ensures c.requires.able) c.larger_size-size.result
    (c.larger_size-size.ensures c.requires.able) c.requires.room in
    assumption (c.requires, may)

-- the consumer joined, the configuration has its place and the provider its size: that is the append
pub returns-clause-does : goal.returns-clause-does
returns-clause-does g c = λ able.
    able_told c.args.state.now c.requires.stands c.args.growing.now c.args.below.now able
    (λ actors log. sym c.in_default.is ∙ c.in_ok-errno.ensures.answer able actors log)
    c.join_component.new.state c.join_component.ensures.rest (c.in_ok-errno.ensures.joined c.in_default.is)
    c.in_ok-config.config (c.in_ok-config.ensures able)
    c.larger_size-size.result (c.larger_size-size.ensures able) c.grow_provider.new.topo c.grow_provider.new.queue
    c.grow_provider.ensures

-- each note was announced in the room that was reserved, and counts are those with the consumer
pub returns-clause-kept : goal.returns-clause-kept
returns-clause-kept g c =
    able_kept c.args.state.now c.requires.stands c.args.growing.now c.args.below.now c.requires.able
    (λ actors log. sym c.in_default.is ∙ c.in_ok-errno.ensures.answer c.requires.able actors log)
    c.join_component.new.state c.join_component.ensures.rest (c.in_ok-errno.ensures.joined c.in_default.is)
    c.in_ok-config.config (c.in_ok-config.ensures c.requires.able)
    c.larger_size-size.result (c.larger_size-size.ensures c.requires.able) c.grow_provider.new.topo
    c.grow_provider.new.queue c.grow_provider.ensures c.requires.room
