use Rattle.std.proofs.Common.{Some, [], ◌∷◌, ◌≡◌, ◌-◌, ap, ◌∙◌, sym, subst, true, false}
use Rattle.geo_base.specs.declared.kind.Kind.TheVariants as kinds
use Rattle.geo_model.specs.Names.{label_name}
use Rattle.geo_model.specs.Topology.{is_name_taken}
use Rattle.geo_model.specs.World.{Label}
use Rattle.geo_mesh.specs.Cells.{provider_seen}
use Rattle.geo_mesh.specs.Topo.{TopoView, is_provider_size}
use Rattle.geo_taste.proofs.Raising.{risen_free, risen_offered}
use Rattle.geo_taste.proofs.TableLemmas.{label_free, label_made, label_small, label_taken, label_untaken, stands_kept, unchanged}
use Rattle.geo_taste.proofs.label.accept_label.Goals as goal

-- for each decline: the name is taken or the size isn't one, so in a firm mesh the model makes no label either
pub returns-in_default-clause-made : goal.returns-in_default-clause-made
returns-in_default-clause-made c = (
  unchanged c.args.topo.now c.args.queue.now,
  λ facts. label_taken c.args.topo.now c.args.queue.now (provider_seen c.args.prov c.args.below.now) (label_name
      c.args.found.now.name) (sym c.in_default.ensures),
)

pub returns-then-not-is_provider_size-clause-made : goal.returns-then-not-is_provider_size-clause-made
returns-then-not-is_provider_size-clause-made c = (
  unchanged c.args.topo.now c.args.queue.now,
  label_small c.args.topo.now c.args.queue.now (provider_seen c.args.prov c.args.below.now) (label_name
      c.args.found.now.name)
      (subst (λ n. is_provider_size (c.args.below.now.size - n) c.args.below.now.sector ≡ false) c.from.ensures
      (sym c.is_provider_size.ensures ∙ c.if-not-is_provider_size.true)),
)

pub raise-id-requires-clause-stand : goal.raise-id-requires-clause-stand
raise-id-requires-clause-stand c =
    stands_kept c.args.topo.now c.reserve.new.self c.args.prov c.reserve.ensures.same c.requires.stands

-- the label's name was found free, and the new geom brings no provider
pub make_offer-requires-clause-free : goal.make_offer-requires-clause-free
make_offer-requires-clause-free c =
    let free = label_free c.args.topo.now c.args.queue.now (provider_seen c.args.prov c.args.below.now) (label_name
    c.args.found.now.name) c.in-Some.name (sym c.in-Some.ensures) in
    risen_free c.args.topo.now c.reserve.new.self c.raise-id.new.topo kinds.Label c.args.below.now.name c.label.result
    true (c.args.prov ∷ []) c.reserve.ensures.same c.raise-id.ensures.raised c.in-Some.name
    (subst (λ n. is_name_taken c.args.topo.now.topology n ≡ false) free.1
    (label_untaken c.args.topo.now c.args.queue.now (provider_seen c.args.prov c.args.below.now) (label_name
    c.args.found.now.name) free.0))

-- the geom got the number that was next and the consumer that was coming, so it is the model's label
pub returns-clause-made : goal.returns-clause-made
returns-clause-made c = λ facts.
    let free = label_free c.args.topo.now c.args.queue.now (provider_seen c.args.prov c.args.below.now) (label_name
    c.args.found.now.name) c.in-Some.name (sym c.in-Some.ensures) in
    let p = provider_seen c.args.prov c.args.below.now in
    let next : c.coming_consumer.result ≡ c.args.topo.now.topology.next_consumer =
    c.coming_consumer.ensures.number ∙ ap (λ (x : TopoView _). x.topology.next_consumer) c.reserve.ensures.same in
    label_made c.args.topo.now c.args.queue.now p (label_name c.args.found.now.name) c.make_offer.new.topo
    c.make_offer.new.queue c.label.result c.in-Some.name (c.args.below.now.size - c.from.result) free.0
    (c.label.ensures ∙ ap (λ n. Label (Some n)) next) free.1 (ap (λ n. c.args.below.now.size - n) c.from.ensures)
    (risen_offered c.args.topo.now c.reserve.new.self c.raise-id.new.topo kinds.Label c.args.below.now.name
    c.label.result true (c.args.prov ∷ []) c.reserve.ensures.same c.raise-id.ensures.raised
    c.make_offer.new.topo c.args.queue.now c.reserve-2.new.self c.make_offer.new.queue c.raise-id.result
    c.in-Some.name _ c.args.below.now.sector c.reserve-2.ensures.events_stay
    (c.raise-id.ensures.number ∙ ap (λ (x : TopoView _). x.topology.next_geom) c.reserve.ensures.same)
    c.make_offer.ensures.made)
