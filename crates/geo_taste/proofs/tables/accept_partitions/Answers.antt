use Rattle.std.proofs.Common.{◌≤◌, ◌∙◌, Some, List, ap, arith, length, subst, sym}
use Rattle.geo_laws_making.proofs.NewSlices.{new_few}
use Rattle.geo_base.specs.declared.kind.Kind.TheVariants as kinds
use Rattle.geo_model.specs.Acceptance.{NewSlice, new_parts}
use Rattle.geo_model.specs.Names.{logical_name}
use Rattle.geo_model.specs.World.{Ebr}
use Rattle.geo_taste.specs.Making.{both}
use Rattle.geo_taste.specs.Parts.{ArePartsApart}
use Rattle.geo_taste.proofs.TableLemmas.{all_named, none_named, partitions_differ, sliced_as, table_unnamed, unchanged}
use Rattle.geo_taste.proofs.tables.accept_partitions.Goals as goal

-- one partition has no name, so the model makes no geom, and nothing was changed yet
pub returns-in_default-clause-made : goal.returns-in_default-clause-made
returns-in_default-clause-made c = (
  unchanged c.args.topo.now c.args.queue.now,
  λ facts. table_unnamed c.args.topo.now c.args.queue.now kinds.Ebr c.args.name.now
      (Ebr (Some c.args.topo.now.topology.next_consumer) c.args.table.now.parts) c.args.prov
      (new_parts c.args.name.now c.args.table.now.parts)
      (none_named _ (new_parts c.args.name.now c.args.table.now.parts) c.in_ok-parts.field-0
      c.in_ok-parts.ensures.named c.in_default.is),
)

-- the parts are the model's, all named, and their names differ since their links do
pub accept_parts-requires : goal.accept_parts-requires
accept_parts-requires c =
    let all = all_named _ (new_parts c.args.name.now c.args.table.now.parts) c.in_ok-parts.field-0
    c.in_ok-parts.ensures.named c.in-Some.parts c.in-Some.is c.deref.result.now c.deref.ensures.value in
    record {
      stands = c.requires.stands;
      names = all.names;
      apart = subst ArePartsApart (sym all.same)
          (partitions_differ c.args.name.now c.args.table.now.parts c.partition_parts.ensures.few);
    }

-- the geom's consumer is the one that comes next and the parts are the model's, so it is the model's table
pub returns-clause-made : goal.returns-clause-made
returns-clause-made c =
    let all = all_named _ (new_parts c.args.name.now c.args.table.now.parts) c.in_ok-parts.field-0
    c.in_ok-parts.ensures.named c.in-Some.parts c.in-Some.is c.deref.result.now c.deref.ensures.value in
    sliced_as (both c.args.topo.now c.args.queue.now) c.args.prov kinds.Ebr c.args.name.now c.accept_parts.result
    c.accept_parts.new.topo c.accept_parts.new.queue
    (c.in_ok-config.ensures ∙ ap (λ n. Ebr (Some n) c.args.table.now.parts) c.coming_consumer.ensures.number) all.same
    c.accept_parts.ensures.made

-- there are no more partitions than links, and 32 links at most
pub returns-clause-spare : goal.returns-clause-spare
returns-clause-spare c =
    let all = all_named _ (new_parts c.args.name.now c.args.table.now.parts) c.in_ok-parts.field-0
    c.in_ok-parts.ensures.named c.in-Some.parts c.in-Some.is c.deref.result.now c.deref.ensures.value in
    let most : length c.deref.result.now ≤ length c.args.table.now.parts =
    subst (λ (xs : List NewSlice). length xs ≤ length c.args.table.now.parts) (sym all.same)
    (new_few (logical_name c.args.name.now) (λ s. s.count) 0 c.args.table.now.parts) in
    omega (arith, c.accept_parts.ensures.spare, most, c.partition_parts.ensures.few)
